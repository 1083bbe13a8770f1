use Rattle.bb8_tasks.proofs.Words.{◌≤◌, take, as_nanos, Runs}
use Rattle.bb8_tasks.proofs.backoff.play_all.Given as goal

abbrev pub invariant-loop-at : goal.invariant-loop-at
invariant-loop-at l =
    Runs (as_nanos l.fn.config.connection_timeout) l.fn.config.retry_connection l.fn.task (take l.at-index l.polls) l.answers.items l.tries l.task
    × (l.tries ≤ l.at-index)
