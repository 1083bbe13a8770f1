use Rattle.std.proofs.Common.{Ok, Err, refl}
use Rattle.bb8.proofs.pool.RefPoolPoolCalls.get_owned_blocking.Goals as goal

pub returns-in-Ok-answer : goal.returns-in-Ok-answer
returns-in-Ok-answer g c = (
  Ok c.in-Ok.holding,
  c.in-Ok.ensures,
  rw (← c.deref-shared.ensures) (Ok c.in-Ok-answer.taken, (c.scope.result, _, c.scope.ensures, c.in-Ok-answer.ensures), refl),
)

pub returns-in-Err-answer : goal.returns-in-Err-answer
returns-in-Err-answer g c = (
  Ok c.in-Ok.holding,
  c.in-Ok.ensures,
  (
    Err c.in-Err-answer.error,
    rw (← c.deref-shared.ensures) (c.scope.result, _, c.scope.ensures, c.in-Err-answer.ensures),
    (refl, c.leave_owned.ensures),
  ),
)
