use Rattle.std.proofs.Common.{◌≡◌, true, false, refl, arith}
use Rattle.bb8_journal.proofs.Accounts.{in_all, in_none}
use Rattle.bb8_journal.proofs.journal.audits.is_noted.Goals as goal

pub returns-then-has_noted : goal.returns-then-has_noted
returns-then-has_noted c = (λ _. in_all c.args.notes.now c.loop-note.note-index c.note-item.result _ (omega arith) c.note-item.is (c.has_noted.ensures.0 c.if-has_noted.true), λ _. refl)

pub loop-note-preserved : goal.loop-note-preserved
loop-note-preserved c =
    in_none c.args.notes.now c.loop-note.note-index c.note-item.result _ (omega arith) c.note-item.is c.loop-note.invariant
    (λ h. let yes : c.has_noted.result ≡ true = c.has_noted.ensures.1 h in let no : c.has_noted.result ≡ false = c.if-has_noted.false in cc)
