use Rattle.bb8_tables.specs.declared.keys.GetKey.{GetKey}
use Rattle.bb8_lock.proofs.CriticalSections.{starts_in, starts_still}
use Rattle.bb8_lock.proofs.home.LockedGetHome.start.Goals as goal

pub returns-in-Some : goal.returns-in-Some
returns-in-Some g c =
    let get : GetKey = record { number = c.in-Some.field-0.get; place = 0 } in
    let starts = starts_in _ _ c.look.result.moment get _ c.hand_out.ensures.outcome c.in-Some.ensures.some in
    (c.args.self.now.settled, (c.look.result.alive, _, c.look.ensures.step, starts))

pub returns-in-None : goal.returns-in-None
returns-in-None g c =
    let starts = starts_still _ _ _ c.look.result.moment.0 _ c.in-None.ensures.none c.in-None.ensures.limits c.start_on-first.ensures in
    (c.args.self.now.settled, (c.look.result.alive, _, c.look.ensures.step, starts))
