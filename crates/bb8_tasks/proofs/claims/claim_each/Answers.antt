use Rattle.bb8_tasks.proofs.Claimed.{takes-more}
use Rattle.bb8_tasks.proofs.claims.claim_each.Goals as goal

pub loop-preserved : goal.loop-preserved
loop-preserved g c =
    let at_key = c.in-Ok-Claimed-Some in
    let claimed = rw (at_key.field-0-is, at_key.field-0-0-is) at at_key.ensures.claimed in
    let task = rw (at_key.field-0-is, at_key.field-0-0-is) at at_key.ensures.task in
    takes-more g.H.Home c.args.at _ _ _ _ _ _ _ c.loop.invariant claimed task
