use Rattle.bb8_core.proofs.HandedOver.{made_once_fitting}
use Rattle.bb8_core.proofs.handing.try_of.Goals as goal

pub returns-in-Err : goal.returns-in-Err
returns-in-Err g c = made_once_fitting c.args.at.0 c.in-Some.get.number (rw c.in-Some.is at c.requires) c.in-Err.ensures.step.0
