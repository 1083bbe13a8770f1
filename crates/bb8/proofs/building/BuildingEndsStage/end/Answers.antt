use Rattle.bb8.proofs.building.BuildingEndsStage.end.Goals as goal

pub returns-in-Opening : goal.returns-in-Opening
returns-in-Opening g c =
    rw c.in-Opening.is (rw (← c.deref-shared.ensures) (c.scope.result, c.let_go.new.pool, c.scope.ensures, c.let_go.ensures), c.drop-pool.ensures)
