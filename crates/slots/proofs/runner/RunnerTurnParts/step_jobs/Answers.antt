use Rattle.slots.proofs.Words.{◌≡◌, sym, subst, arith, most_in, number_in, GivesBack, PollsGet, AreIds, running}
use Rattle.bb8.specs.Pools.{settings_in}
use Rattle.slots.proofs.Stepped.{same-ids}
use Rattle.slots.proofs.runner.RunnerTurnParts.step_jobs.Goals as goal

pub invariant_of-self : goal.invariant_of-self
invariant_of-self g c =
    let before = c.args.self.now in
    let held : running c.step_each.new.queue.items ≡ number_in c.step_each.new.self = c.step_each.ensures.held before.held in
    let most : most_in c.step_each.new.self ≡ (settings_in before.pool.now).max_size = cc (c.step_each.ensures.pool, before.most) in record {
      ordered = subst (λ x. AreIds 0 before.next x)
          (sym (same-ids g.J.Job.polls PollsGet GivesBack c.args.moment _ _ _ (c.step_each.ensures.steps before.held))) before.ordered;
      held = held;
      most = most;
      within = omega (arith, held, most, c.step_each.ensures.within);
    }
