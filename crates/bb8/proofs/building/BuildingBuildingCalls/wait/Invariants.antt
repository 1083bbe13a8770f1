use Rattle.bb8.specs.Buildings.{GivesBuilding, WaitsBuilding}
use Rattle.bb8.proofs.building.BuildingBuildingCalls.wait.Given as goal

abbrev pub invariant-loop : goal.invariant-loop
invariant-loop g l =
    (x : _) → (GivesBuilding l.building x → GivesBuilding l.fn.self x) × (WaitsBuilding l.building x → WaitsBuilding l.fn.self x)
