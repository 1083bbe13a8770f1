use Rattle.slots.proofs.Words.{◌≡◌, true, false, refl}
use Rattle.slots.specs.Guards.{GivesOneBack}
use Rattle.slots.proofs.steps.GuardsSteps.step_job.Goals.{in-Some, in-None}
use Rattle.slots.proofs.steps.GuardsSteps.step_job.Goals as goal

pub returns-clause-steps : goal.returns-clause-steps
returns-clause-steps g c some =
    let back : GivesOneBack c.args.self.now = elim c.match-remove.branch [
      | in-Some w ↦ (w.in-Some.guard, (w.in-Some.guard.taken.permit, w.drop.ensures))
      | in-None w ↦ absurd (let clash : false ≡ true = rw w.in-None.is at c.remove.ensures.some.1 some in cc)
    ] in
    (c.poll.result, c.poll.new.self, c.poll.ensures, rw c.in-Ready.is (refl, refl, back))
