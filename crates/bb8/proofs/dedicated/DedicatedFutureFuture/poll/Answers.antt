use Rattle.bb8_lock.specs.Traces.{Answers}
use Rattle.bb8.proofs.dedicated.DedicatedFutureFuture.poll.Goals as goal

pub returns-in-Ready-clause-table : goal.returns-in-Ready-clause-table
returns-in-Ready-clause-table g c =
    let polled = rw (c.replace-stage.ensures.value, c.in-Ready.is, ← c.replace.ensures.after) at c.poll-answer.ensures in
    (_, _, c.scope.ensures, polled)

pub returns-in-Ready-clause-value : goal.returns-in-Ready-clause-value
returns-in-Ready-clause-value g c =
    let polled = rw (c.replace-stage.ensures.value, c.in-Ready.is) at c.poll-answer.ensures in
    Answers.now _ _ _ (_, _, c.scope.ensures, polled)

pub returns-in-Pending-clause-table : goal.returns-in-Pending-clause-table
returns-in-Pending-clause-table g c =
    let polled = rw (c.replace-stage.ensures.value, c.in-Pending.is, ← c.replace.ensures.after) at c.poll-answer.ensures in
    rw c.yield_now.ensures.pending
    (_, _, c.scope.ensures, polled)

pub returns-in-Pending-clause-same : goal.returns-in-Pending-clause-same
returns-in-Pending-clause-same g c =
    let polled = rw (c.replace-stage.ensures.value, c.in-Pending.is, ← c.replace.ensures.after) at c.poll-answer.ensures in
    rw c.yield_now.ensures.pending
    (λ x gives. Answers.later _ _ _ (_, _, c.scope.ensures, polled) gives)
