use Rattle.bb8_tasks.proofs.Words.{deque_len, LetsGo, LetsGoEach}
use Rattle.bb8_tasks.proofs.tasks.Tasks.give_back.Given as goal

abbrev pub invariant-loop-task : goal.invariant-loop-task
invariant-loop-task g l =
    (x : _) → LetsGoEach (LetsGo g.X.Home g.X.Opener l.fn.at) l.queue.items l.pool x → LetsGoEach (LetsGo g.X.Home g.X.Opener l.fn.at) l.fn.self l.fn.pool x

abbrev pub decreases-loop-task : goal.decreases-loop-task
decreases-loop-task g l = deque_len l.queue
