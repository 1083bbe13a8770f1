use Rattle.slots.proofs.Words.{deque_len}
use Rattle.bb8.specs.Gets.{CancelsGet}
use Rattle.slots.specs.Entries.{EachGet}
use Rattle.slots.proofs.runner.Runner.drop.Given as goal

abbrev pub invariant-loop-place : goal.invariant-loop-place
invariant-loop-place g l = EachGet CancelsGet l.entries.items → EachGet CancelsGet l.fn.self.entries.items

abbrev pub decreases-loop-place : goal.decreases-loop-place
decreases-loop-place g l = deque_len l.entries
