use Rattle.std.specs.Duration.{as_nanos}
use Rattle.bb8.specs.declared.driver.Driven.{Driven}
use Rattle.bb8.specs.Drivers.{Runs, SleepsOnce, TurnsOnce}
use Rattle.bb8.proofs.driver.run.Given as goal

abbrev pub invariant-loop : goal.invariant-loop
invariant-loop g l =
    let turns = TurnsOnce g.X.Home g.X.Opener g.X.Rests (as_nanos l.fn.config.connection_timeout) l.fn.config.retry_connection in
    let sleeps = SleepsOnce g.X.Rests in
    (d : Driven) (last : _) → Runs turns g.P.Gate.pauses sleeps (l.turning, l.pool) l.gate l.turns d last
    → Runs turns g.P.Gate.pauses sleeps (l.fn.turning, l.fn.pool) l.fn.gate 0 d last
