use Rattle.std.proofs.Common.{length}
use Rattle.bb8_lock.specs.Traces.{DropsEach}
use Rattle.bb8_lock.proofs.calls.drop_each.Given as goal

abbrev pub invariant-loop-closed : goal.invariant-loop-closed
invariant-loop-closed g l = (x : _) → DropsEach g.X.Outside l.list.items l.pool x → DropsEach g.X.Outside l.fn.list.items l.fn.pool x

abbrev pub decreases-loop-closed : goal.decreases-loop-closed
decreases-loop-closed g l = length l.list.items
