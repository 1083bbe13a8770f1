use Rattle.bb8_journal.proofs.Words.{take, All, Contains, lines_from, lines_noted}
use Rattle.bb8_journal.proofs.journal.audits.are_noted.Given as goal

abbrev pub invariant-loop-index : goal.invariant-loop-index
invariant-loop-index l = All (Contains (lines_noted l.notes)) (lines_from 0 (take l.index l.entries))
