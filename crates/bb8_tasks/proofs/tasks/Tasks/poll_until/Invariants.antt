use Rattle.bb8_tasks.proofs.Words.{◌-◌, as_nanos, TaskPolls}
use Rattle.bb8_tasks.proofs.Sweeps.{RoundMidway}
use Rattle.bb8_tasks.proofs.tasks.Tasks.poll_until.Given as goal

abbrev pub invariant-loop : goal.invariant-loop
invariant-loop g l =
    RoundMidway (TaskPolls g.X.Home g.X.Opener (as_nanos l.fn.config.connection_timeout) l.fn.config.retry_connection l.fn.at) l.fn.on_failure g.X.Opener.sinks
    l.fn.self l.fn.pool l.self l.pool l.stopped (l.count - l.counter)
