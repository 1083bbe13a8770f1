use Rattle.bb8_tasks.proofs.Words.{◌≡◌, ◌≤◌, deque_len, deque_capacity, AreFor}
use Rattle.bb8_tasks.proofs.tasks.Tasks.for_approvals.Given as goal

abbrev pub invariant-loop-i : goal.invariant-loop-i
invariant-loop-i g l = AreFor l.fn.first l.i l.queue.items × (deque_len l.queue ≡ l.i) × (l.fn.count ≤ deque_capacity l.queue)
