use Rattle.slots.proofs.Words.{◌<◌, ◌∙◌, refl, arith, deque_len, GivesBack, PollsGet}
use Rattle.slots.proofs.Stepped.{Midway-first, Midway-step, Midway-over}
use Rattle.slots.proofs.steps.GuardsSteps.step_each.Goals as goal

pub loop-init : goal.loop-init
loop-init g c = record {
  midway = λ h. Midway-first g.J.Job.polls PollsGet GivesBack c.args.now _ _ (omega arith);
  len = omega arith;
  most = omega arith;
  held = λ h. h;
  pool = refl;
  kept = λ fact h. h;
}

pub loop-preserved : goal.loop-preserved
loop-preserved g c =
    let some : 0 < deque_len c.loop.queue = omega (arith, c.loop.invariant.len) in record {
      midway = λ h. Midway-step g.J.Job.polls PollsGet GivesBack c.args.now _ _ _ _ _ _ _ (omega arith) (c.loop.invariant.midway h)
          (c.step_first-ended.ensures.steps some (c.loop.invariant.held h));
      len = omega (arith, c.loop.invariant.len);
      most = omega arith;
      held = λ h. c.step_first-ended.ensures.held (c.loop.invariant.held h);
      pool = c.step_first-ended.ensures.pool ∙ c.loop.invariant.pool;
      kept = λ fact h. c.step_first-ended.ensures.kept fact (c.loop.invariant.kept fact h);
    }

pub returns-clause-steps : goal.returns-clause-steps
returns-clause-steps g c h = Midway-over g.J.Job.polls PollsGet GivesBack c.args.now _ _ _ _ (omega arith) (c.loop.invariant.midway h)
