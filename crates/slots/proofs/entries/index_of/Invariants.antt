use Rattle.slots.proofs.Listed.{Searched}
use Rattle.slots.proofs.entries.index_of.Given as goal

abbrev pub invariant-loop-i : goal.invariant-loop-i
invariant-loop-i g l = Searched l.fn.id l.entries.items l.i
