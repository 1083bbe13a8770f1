use Rattle.slots.proofs.Words.{refl, inl, inr, subst, GivesBack}
use Rattle.slots.proofs.steps.GuardsSteps.step_get.Goals as goal

pub returns-in-Ready-Err-clause-steps : goal.returns-in-Ready-Err-clause-steps
returns-in-Ready-Err-clause-steps g c =
    (c.poll.result, c.poll.new.self, c.poll.ensures.table, rw (c.in-Ready-Err.is, c.in-Ready-Err.field-0-is) (refl, refl))

pub returns-in-Ok-clause-steps : goal.returns-in-Ok-clause-steps
returns-in-Ok-clause-steps g c =
    (c.poll.result, c.poll.new.self, c.poll.ensures.table, rw (c.in-Ready-Ok.is, c.in-Ready-Ok.field-0-is) (inl (refl, refl)))

pub returns-clause-steps : goal.returns-clause-steps
returns-clause-steps g c =
    let came = subst (λ x. GivesBack x) c.in-Err.ensures.refused (c.in-Err.refused.taken.permit, c.drop.ensures) in
    (c.poll.result, c.poll.new.self, c.poll.ensures.table, rw (c.in-Ready-Ok.is, c.in-Ready-Ok.field-0-is) (inr (refl, refl, came)))
