use Rattle.std.proofs.Common.{Ok, Err, Some, None, refl, subst}
use Rattle.bb8_lock.specs.Scope.{OwnTakesNow}
use Rattle.bb8.proofs.pool.RefPoolPoolCalls.try_get.Goals as goal

pub returns-in-Ok-Some : goal.returns-in-Ok-Some
returns-in-Ok-Some g c =
    let taken = subst (λ o. OwnTakesNow c.deref-shared.result.now (Ok o)) c.in-Ok-Some.field-0-is
    (c.scope.result, c.take_now-answer.new.pool, c.scope.ensures, c.in-Ok-Some.ensures) in
    rw (← c.deref-shared.ensures) (Ok (Some c.in-Ok-Some.taken), taken, (refl, refl))

pub returns-in-Ok-None : goal.returns-in-Ok-None
returns-in-Ok-None g c =
    let taken = subst (λ o. OwnTakesNow c.deref-shared.result.now (Ok o)) c.in-Ok-None.field-0-is
    (c.scope.result, c.take_now-answer.new.pool, c.scope.ensures, c.in-Ok-None.ensures) in
    rw (← c.deref-shared.ensures) (Ok None, taken, tt)

pub returns-in-Err : goal.returns-in-Err
returns-in-Err g c =
    rw (← c.deref-shared.ensures) (Err c.in-Err.error, (c.scope.result, c.take_now-answer.new.pool, c.scope.ensures, c.in-Err.ensures), refl)
