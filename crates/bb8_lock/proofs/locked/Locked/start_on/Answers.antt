use Rattle.bb8_lock.proofs.CriticalSections.{starts_in}
use Rattle.bb8_lock.proofs.locked.Locked.start_on.Goals as goal

pub returns-in-Ok-Tried : goal.returns-in-Ok-Tried
returns-in-Ok-Tried g c =
    let starts = rw c.in-Ok-Tried.field-0-is at c.in-Ok-Tried.ensures.ok in
    starts_in _ _ c.args.at c.in-Ok-Tried.get _ c.hand_out.ensures.outcome starts
