use Rattle.std.proofs.Common.{refl}
use Rattle.bb8.proofs.building.PoolOpensFirst.sweep.Goals as goal

pub returns-in-Failed : goal.returns-in-Failed
returns-in-Failed g c = (
  c.round-round.result,
  (
    rw (← c.deref-shared.ensures) (c.scope.result, c.round-round.new.pool, c.scope.ensures, c.round-round.ensures),
    rw c.in-Failed.is c.drop-self.ensures,
  ),
  rw c.in-Failed.is (refl, refl),
)

pub returns-in-Complete : goal.returns-in-Complete
returns-in-Complete g c = (
  c.round-round.result,
  (
    rw (← c.deref-shared.ensures) (c.scope.result, c.round-round.new.pool, c.scope.ensures, c.round-round.ensures),
    rw c.in-Complete.is tt,
  ),
  rw c.in-Complete.is (refl, refl),
)

pub returns-in-Going : goal.returns-in-Going
returns-in-Going g c = (
  c.round-round.result,
  (
    rw (← c.deref-shared.ensures) (c.scope.result, c.round-round.new.pool, c.scope.ensures, c.round-round.ensures),
    rw c.in-Going.is tt,
  ),
  rw c.in-Going.is (refl, refl),
)
