use Rattle.bb8.proofs.building.BuildingBuilds.rest.Goals as goal

pub returns-in-Opening : goal.returns-in-Opening
returns-in-Opening g c =
    rw c.in-Opening.is (rw (← c.deref-shared.ensures) (c.scope.result, c.rest_until.new.pool, c.scope.ensures, c.rest_until.ensures.brief))
