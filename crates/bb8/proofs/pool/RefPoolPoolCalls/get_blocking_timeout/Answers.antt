use Rattle.std.proofs.Common.{Ok, Err, refl}
use Rattle.bb8.proofs.pool.RefPoolPoolCalls.get_blocking_timeout.Goals as goal

pub returns-in-Ok : goal.returns-in-Ok
returns-in-Ok g c = rw (← c.deref-shared.ensures) (Ok c.in-Ok.taken, (c.scope.result, _, c.scope.ensures, c.in-Ok.ensures), (refl, refl))

pub returns-in-Err : goal.returns-in-Err
returns-in-Err g c = rw (← c.deref-shared.ensures) (Err c.in-Err.error, (c.scope.result, _, c.scope.ensures, c.in-Err.ensures), refl)
