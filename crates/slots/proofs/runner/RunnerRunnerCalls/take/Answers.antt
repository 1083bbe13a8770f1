use Rattle.slots.proofs.Words.{◌≡◌, ◌∙◌, sym, ap, subst, arith, OnSome, None, AreIds, ids, running, place_of}
use Rattle.slots.proofs.Listed.{taken-ids, taken-running, taken-gone}
use Rattle.slots.proofs.runner.RunnerRunnerCalls.take.Goals as goal

pub invariant_of-self : goal.invariant_of-self
invariant_of-self g c =
    let before = c.args.self.now in
    let as-many : running c.take_ended.new.entries.items ≡ running before.entries.items =
    ap running c.take_ended.ensures.left ∙ taken-running c.args.id c.take_ended.result before.entries.items c.take_ended.ensures.outcome in record {
      ordered = subst (λ x. AreIds 0 before.next (ids x)) (sym c.take_ended.ensures.left) (taken-ids c.args.id before.next c.take_ended.result before.entries.items before.ordered);
      held = omega (arith, as-many, before.held);
      most = before.most;
      within = omega (arith, as-many, before.within);
    }

pub returns-clause-gone : goal.returns-clause-gone
returns-clause-gone g c =
    let before = c.args.self.now in
    subst (λ x. OnSome c.take_ended.result (place_of c.args.id x ≡ None)) (sym c.take_ended.ensures.left)
    (taken-gone c.args.id before.next c.take_ended.result before.entries.items before.ordered)
