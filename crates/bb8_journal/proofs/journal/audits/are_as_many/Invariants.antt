use Rattle.bb8_journal.proofs.Words.{◌≡◌, ◌+◌, length, take, sum_by, Notes}
use Rattle.bb8_journal.proofs.journal.audits.are_as_many.Given as goal

abbrev pub invariant-loop-note : goal.invariant-loop-note
invariant-loop-note l = (l.left + sum_by (λ (n : Notes). length n.noted.items) (take l.note-index l.notes) ≡ l.fn.entries)
