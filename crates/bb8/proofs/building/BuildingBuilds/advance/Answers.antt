use Rattle.std.proofs.Common.{refl}
use Rattle.bb8.proofs.building.BuildingBuilds.advance.Goals as goal

pub returns-in-Ok : goal.returns-in-Ok
returns-in-Ok g c = rw c.in-Planned.is (c.make.result, c.make.ensures, rw c.in-Ok.is c.sweep.ensures)

pub returns-in-Err : goal.returns-in-Err
returns-in-Err g c = rw c.in-Planned.is (c.make.result, c.make.ensures, rw c.in-Err.is (refl, refl))
