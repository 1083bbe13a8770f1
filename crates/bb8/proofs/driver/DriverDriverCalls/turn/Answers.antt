use Rattle.std.proofs.Common.{refl}
use Rattle.bb8.proofs.driver.DriverDriverCalls.turn.Goals as goal

pub returns-clause-table : goal.returns-clause-table
returns-clause-table g c = (refl, rw (← c.deref-pool.ensures) (c.scope.result, c.turn.new.pool, c.scope.ensures, c.turn.ensures.table))
