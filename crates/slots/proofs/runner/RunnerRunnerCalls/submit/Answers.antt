use Rattle.slots.proofs.Words.{◌≡◌, arith, Waiting, running}
use Rattle.slots.proofs.Listed.{added-ids, added-running}
use Rattle.slots.proofs.runner.RunnerRunnerCalls.submit.Goals as goal

pub invariant_of-self-2 : goal.invariant_of-self-2
invariant_of-self-2 g c =
    let as-many : running c.push_back_reserved.new.self.items ≡ running c.args.self.now.entries.items =
    added-running c.args.self.now.next c.args.job c.get-get.result c.args.self.now.entries.items c.reserve.new.self.items c.push_back_reserved.new.self.items
    c.reserve.ensures.items c.push_back_reserved.ensures.items in record {
      ordered = added-ids c.args.self.now.next (Waiting c.args.job c.get-get.result) c.args.self.now.entries.items c.reserve.new.self.items c.push_back_reserved.new.self.items
          c.reserve.ensures.items c.push_back_reserved.ensures.items c.args.self.now.ordered;
      held = omega (arith, as-many, c.args.self.now.held);
      most = c.args.self.now.most;
      within = omega (arith, as-many, c.args.self.now.within);
    }

pub returns-clause-added : goal.returns-clause-added
returns-clause-added g c =
    (c.get-get.result, (c.get-get.ensures.new, c.get-get.ensures.pool), rw c.reserve.ensures.items at c.push_back_reserved.ensures.items)
