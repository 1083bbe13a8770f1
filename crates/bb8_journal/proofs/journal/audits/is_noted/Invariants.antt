use Rattle.bb8_journal.proofs.Words.{take, Contains, lines_noted}
use Rattle.bb8_journal.proofs.journal.audits.is_noted.Given as goal

abbrev pub invariant-loop-note : goal.invariant-loop-note
invariant-loop-note l = Contains (lines_noted (take l.note-index l.notes)) (l.index, (l.entry.seat, l.entry.answer)) → ⊥
