use Rattle.bb8_lock.specs.Traces.{Answers}
use Rattle.bb8.proofs.owned.GetOwnedFutureFuture.poll.Goals as goal

pub returns-in-Ready-clause-value : goal.returns-in-Ready-clause-value
returns-in-Ready-clause-value g c =
    let polled = rw (c.replace-stage.ensures.value, c.in-Ready.is) at c.poll_stage-answer.ensures in
    Answers.now _ _ _ polled

pub returns-in-Pending-clause-same : goal.returns-in-Pending-clause-same
returns-in-Pending-clause-same g c =
    let polled = rw (c.replace-stage.ensures.value, c.in-Pending.is, ← c.replace.ensures.after) at c.poll_stage-answer.ensures in
    rw c.yield_now.ensures.pending (λ x gives. Answers.later _ _ _ polled gives)
