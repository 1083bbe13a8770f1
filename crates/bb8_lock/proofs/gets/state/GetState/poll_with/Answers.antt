use Rattle.std.proofs.Common.{◌+◌, Some, Ok, refl}
use Rattle.std.specs.Duration.{as_nanos}
use Rattle.bb8_types.specs.declared.api.moments.Moment.{Moment}
use Rattle.bb8_lock.specs.declared.gets.state.Next.TheVariants.{Answer}
use Rattle.bb8_lock.proofs.gets.state.GetState.poll_with.Goals as goal

pub returns-in-Ok-Tried-default-Served : goal.returns-in-Ok-Tried-default-Served
returns-in-Ok-Tried-default-Served g c =
    let served = c.in-Ok-Tried-default-Served in
    let started = rw served.field-0-1-is at (rw served.field-0-is at (rw served.is at c.start-first.ensures)) in
    let deadline : Moment = record { 0 = c.start-first.result.0.0 + as_nanos c.args.timeout } in
    rw c.in-Fresh.is (rw c.stand.ensures (
      _,
      (_, _, c.now-at.ensures, (_, _, _, started, (Answer (Ok served.taken), Some deadline, _, refl, (refl, refl), (refl, refl, refl)))),
      c.go.ensures,
    ))
