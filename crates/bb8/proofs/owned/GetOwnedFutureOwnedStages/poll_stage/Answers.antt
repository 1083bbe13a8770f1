use Rattle.std.proofs.Common.{refl, Ok, Err}
use Rattle.futures.specs.declared.task.Poll.TheVariants.{Ready, Pending}
use Rattle.bb8.proofs.owned.GetOwnedFutureOwnedStages.poll_stage.Goals as goal

pub returns-in-Pending : goal.returns-in-Pending
returns-in-Pending g c = rw (c.in-Some-Open.is, c.in-Some-Open.field-0-is) (Pending, c.poll_owned.new.get, c.in-Pending.ensures, (refl, refl))

pub returns-in-Ready-Err : goal.returns-in-Ready-Err
returns-in-Ready-Err g c =
    let polled = rw c.in-Ready-Err.field-0-is at c.in-Ready-Err.ensures in
    rw (c.in-Some-Open.is, c.in-Some-Open.field-0-is)
    (Ready (Err c.in-Ready-Err.error), c.poll_owned.new.get, polled, (refl, refl, c.leave_owned.ensures))

pub returns-in-Ready-Ok : goal.returns-in-Ready-Ok
returns-in-Ready-Ok g c =
    let polled = rw c.in-Ready-Ok.field-0-is at c.in-Ready-Ok.ensures in
    rw (c.in-Some-Open.is, c.in-Some-Open.field-0-is)
    (Ready (Ok c.in-Ready-Ok.taken), c.poll_owned.new.get, polled, (refl, refl))
