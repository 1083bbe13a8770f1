use Rattle.bb8_lock.specs.Traces.{Answers}
use Rattle.bb8.proofs.building.BuildingBuildingCalls.wait.Goals as goal

pub loop-init : goal.loop-init
loop-init g c = λ x. (λ gives. gives, λ waits. waits)

pub returns-in-Ready-clause-gives : goal.returns-in-Ready-clause-gives
returns-in-Ready-clause-gives g c = (c.loop.invariant _).0 (Answers.now _ _ _ (rw c.in-Ready.is at c.step.ensures))

pub returns-in-Ready-clause-rests : goal.returns-in-Ready-clause-rests
returns-in-Ready-clause-rests g c = (c.loop.invariant _).1 (Answers.now _ _ _ (rw c.in-Ready.is at c.step.ensures, tt))

pub loop-preserved : goal.loop-preserved
loop-preserved g c =
    let polled = rw c.in-Pending.is at c.step.ensures in
    λ x. (λ gives. (c.loop.invariant x).0 (Answers.later _ _ _ polled gives), λ waits. (c.loop.invariant x).1 (Answers.later _ _ _ (polled, c.rest.ensures) waits))
