use Rattle.bb8_lock.specs.Traces.{Answers}
use Rattle.bb8.proofs.building.BuildingFuture.poll.Goals as goal

pub returns-in-Ready-clause-value : goal.returns-in-Ready-clause-value
returns-in-Ready-clause-value g c = Answers.now _ _ _ (rw c.in-Ready.is at c.step.ensures)

pub returns-in-Pending-clause-same : goal.returns-in-Pending-clause-same
returns-in-Pending-clause-same g c =
    let polled = rw c.in-Pending.is at c.step.ensures in
    rw c.yield_now.ensures.pending (λ x gives. Answers.later _ _ _ polled gives)
