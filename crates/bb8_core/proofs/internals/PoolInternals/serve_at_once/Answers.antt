use Rattle.bb8_core.proofs.Words.{arith, refl, sym, ◌∙◌, ap, ℕ, ◌+◌, nat_tests, entered_in, is_checked, get, view_of}
use Rattle.bb8_core.specs.declared.answers.TryAnswer.TheVariants.{Served}
use Rattle.bb8_ledger.specs.Acts as acts
use Rattle.std.proofs.Math.Nat.{min-le_left}
use Rattle.bb8_core.proofs.Fitting.{idle_as, shown_fits, due_fits, fit_leave, fit_idle}
use Rattle.bb8_core.proofs.Meets.{meets_served}
use Rattle.bb8_core.proofs.Steps.{within, led, grants}
use Rattle.bb8_core.proofs.AtOnce.{first_checked, tries_new, both}
use Rattle.bb8_core.proofs.StepBounds.{one_few, both_bounded}
use Rattle.bb8_core.proofs.internals.PoolInternals.serve_at_once.Goals as goal

pub overflow_add-self : goal.overflow_add-self
overflow_add-self g c = omega (arith, (shown_fits (view_of c.self.inside) c.self.invariant.0).started_few, c.has_capacity.ensures.number c.if-not-has_capacity.false)

pub serve-requires : goal.serve-requires
serve-requires g c = grind (arith, nat_tests, shown_fits (view_of c.self.inside) c.self.invariant.0)

pub grant-grant-requires : goal.grant-grant-requires
grant-grant-requires g c = omega (
  arith,
  due_fits (view_of c.self.inside) _ c.self.invariant.0 (omega arith) c.in-Some.ensures.some.2 refl
      (c.want_with_handle-wanted.ensures c.self.inside.handles (fit_leave refl c.self.invariant.0 (fit_idle (view_of c.self.inside) c.in-Some.key.number c.in-Some.ensures.some.0))),
)

pub returns-clause-some : goal.returns-clause-some
returns-clause-some g c =
    let a = view_of c.self.inside in
    let fit = fit_idle a c.in-Some.key.number c.in-Some.ensures.some.0 in
    let off = ap (λ (n : ℕ). is_checked a.config n (entered_in (get a.records.places c.in-Some.key.number))) (c.max-self-inside.ensures ∙ sym c.max-now.ensures)
    ∙ sym (c.checks_first.ensures.value _ c.in-Some.ensures.some.0) ∙ c.if-checks_first.false in
    both (Served c.in-Some.key c.in-Some.conn c.grant-grant.result) c.self.view_is c.self.invariant.0
    c.max-self-inside.ensures fit (c.has_capacity.ensures.number c.if-not-has_capacity.false) c.begin_and_end-get.ensures.number
    (meets_served (record c.self.inside.counters { started = c.self.inside.counters.started + 1 }) (tries_new a c.max-self-inside.result) refl off c.in-Some.ensures.some.0
    (grants c.in-Some.ensures.some.2 (c.want_with_handle-wanted.ensures c.self.inside.handles (fit_leave refl c.self.invariant.0 fit)) c.grant-grant.ensures.granted c.grant-grant.ensures.state)
    c.begin_and_end-get.ensures.state refl refl c.serve.ensures)
    (idle_as _ _ refl c.in-Some.ensures.some.1)

pub invariant_of-self-2 : goal.invariant_of-self-2
invariant_of-self-2 g c = (led _ c.args.at.0 (acts.Try c.begin_and_end-get.result) _ (returns-clause-some g c).2, c.self.invariant.1)

pub returns-clause-bounds : goal.returns-clause-bounds
returns-clause-bounds g c = let s = returns-clause-some g c in both_bounded _ c.args.at.0 _ _ _ s.1 s.2 c.self.view_is c.end-2.ensures (omega (arith, one_few, min-le_left)) (omega (arith, one_few, min-le_left))

pub returns-then-checks_first-clause-cause : goal.returns-then-checks_first-clause-cause
returns-then-checks_first-clause-cause g c = grind (arith, nat_tests, first_checked (view_of c.self.inside) c.args.at.0)

pub returns-clause-limits : goal.returns-clause-limits
returns-clause-limits g c = within c.self.view_is c.self.invariant.0

pub returns-in_default-clause-limits : goal.returns-in_default-clause-limits
returns-in_default-clause-limits g c = within c.self.view_is c.self.invariant.0

pub returns-then-checks_first-clause-limits : goal.returns-then-checks_first-clause-limits
returns-then-checks_first-clause-limits g c = within c.self.view_is c.self.invariant.0

pub returns-then-not-has_capacity-clause-limits : goal.returns-then-not-has_capacity-clause-limits
returns-then-not-has_capacity-clause-limits g c = within c.self.view_is c.self.invariant.0
