use Rattle.std.proofs.Common.{arith}
use Rattle.bb8_core.proofs.StepBounds.{idle_few}
use Rattle.bb8_core.proofs.internals.PoolInternals.endings.Goals as goal

pub overflow_sub-out : goal.overflow_sub-out
overflow_sub-out g c = omega (arith, idle_few _ c.self.invariant.0, c.connections.ensures, c.idle_connections.ensures)
