use Rattle.bb8_lock.proofs.Words.{as_nanos, EndsAt, WaitsOnce}
use Rattle.bb8_lock.specs.declared.gets.state.Stage.TheVariants.{Fresh}
use Rattle.bb8_lock.proofs.waits.wait.Given as goal

abbrev pub invariant-loop : goal.invariant-loop
invariant-loop g l =
    (x : _) (last : _) → EndsAt (WaitsOnce g.X.GetHome g.X.Outside g.X.Rests (as_nanos l.fn.timeout)) (l.get.stage, l.pool) x last
    → EndsAt (WaitsOnce g.X.GetHome g.X.Outside g.X.Rests (as_nanos l.fn.timeout)) (Fresh, l.fn.pool) x last
