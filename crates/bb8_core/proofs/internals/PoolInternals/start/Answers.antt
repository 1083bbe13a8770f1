use Rattle.bb8_core.proofs.Words.{arith, refl, sym, ◌∙◌, ap, ℕ, ◌+◌, Bool, cond, Holding, place_with, GetsView, view_of}
use Rattle.bb8_types.specs.declared.standing.Holder.{Holder}
use Rattle.bb8_types.specs.declared.standing.Holder.TheVariants.{Guard, Get}
use Rattle.bb8_tables.specs.Machine as machine
use Rattle.bb8_core.specs.declared.answers.TryAnswer.TheVariants as tried
use Rattle.bb8_ledger.specs.Acts as acts
use Rattle.std.proofs.Math.Nat.{min-le_left}
use Rattle.bb8_core.proofs.Fitting.{idle_as, shown_fits, due_fits, fit_alive, unfit_alone}
use Rattle.bb8_core.proofs.Meets.{meets_memory, meets_exhausted, meets_served, meets_taken, meets_waits}
use Rattle.bb8_core.proofs.Steps.{left, used_up, led, grants}
use Rattle.bb8_core.proofs.Rows.{at_view}
use Rattle.bb8_core.proofs.Runs.{unfit_step}
use Rattle.bb8_core.proofs.AtOnce.{begun_at, tries_new, both}
use Rattle.bb8_core.proofs.StepBounds.{one_few, both_bounded}
use Rattle.bb8_core.proofs.internals.PoolInternals.start.Goals as goal

pub returns-then-has_number-clause-ok : goal.returns-then-has_number-clause-ok
returns-then-has_number-clause-ok g c =
    let none = c.in_default.ensures.none in
    let few = rw none.1 at (left _ c.has_number.ensures c.if-has_number.true) in
    at_view c.self.view_is c.self.invariant.0 c.max-now.ensures
    (meets_memory (fit_alive (view_of c.self.inside) c.if-self-eq0.false) few (none.0 few) none.1)

pub invariant_of-self-then-has_number : goal.invariant_of-self-then-has_number
invariant_of-self-then-has_number g c = (led _ c.args.at.0 acts.Begin _ (returns-then-has_number-clause-ok g c), c.self.invariant.1)

pub returns-in_default-clause-ok : goal.returns-in_default-clause-ok
returns-in_default-clause-ok g c =
    let same = c.in_default.ensures.none.1 in
    rw same (at_view c.self.view_is c.self.invariant.0 c.max-now.ensures
    (meets_exhausted (fit_alive (view_of c.self.inside) c.if-self-eq0.false) (rw same at (used_up _ c.has_number.ensures c.if-has_number.false))))

pub invariant_of-self-in_default : goal.invariant_of-self-in_default
invariant_of-self-in_default g c = (led _ c.args.at.0 acts.Begin _ (returns-in_default-clause-ok g c), c.self.invariant.1)

pub overflow_add-self : goal.overflow_add-self
overflow_add-self g c = omega (arith, (shown_fits (view_of c.self.inside) c.self.invariant.0).started_few, c.in-Some.ensures.some.1)

pub grant-grant-requires : goal.grant-grant-requires
grant-grant-requires g c = omega (arith, due_fits (view_of c.self.inside) _ c.self.invariant.0 (omega arith) c.in-None.ensures.none.1 refl c.due_waiting-due.ensures)

pub returns-in-None-clause-ok : goal.returns-in-None-clause-ok
returns-in-None-clause-ok g c =
    let a = view_of c.self.inside in
    let born = c.in-Some.ensures.some.2 in
    let alive_is = c.alive-alive.ensures ∙ ap (λ (x : GetsView). x.alive) c.bear_waiting-get.ensures.state ∙ ap (λ (x : GetsView). x.alive + 1) born in
    both (tried.Waiting c.grant-grant.result) c.self.view_is c.self.invariant.0
    c.max-now.ensures (fit_alive a c.if-self-eq0.false) c.in-Some.ensures.some.1 (c.bear_waiting-get.ensures.key ∙ ap (λ (x : GetsView). x.next) born)
    (meets_waits (tries_new a c.max-now.result) refl c.in-None.ensures.none.0 c.in-None.ensures.none.1 alive_is c.due_waiting-due.ensures c.grant-grant.ensures.granted c.grant-grant.ensures.state
    (begun_at a.gets (machine.after_wait c.max-now.result) born c.bear_waiting-get.ensures.state))
    tt

pub invariant_of-self-in-None : goal.invariant_of-self-in-None
invariant_of-self-in-None g c = (led _ c.args.at.0 (acts.Try c.bear_waiting-get.result.number) _ (returns-in-None-clause-ok g c).2, c.self.invariant.1)

pub grant-grant-requires-in-Some-take : goal.grant-grant-requires-in-Some-take
grant-grant-requires-in-Some-take g c = omega (arith, due_fits (view_of c.self.inside) _ c.self.invariant.0 (omega arith) c.in-Some-take.ensures.some.2 refl (c.want_with_handle-wanted.ensures c.self.inside.handles (omega (arith, c.if-self-eq0.false))))

pub returns-then-checked-clause-ok : goal.returns-then-checked-clause-ok
returns-then-checked-clause-ok g c =
    let a = view_of c.self.inside in
    let born = c.in-Some.ensures.some.2 in
    both (tried.Taken c.in-Some-take.key c.in-Some-take.conn c.grant-grant-in-Some-take.result) c.self.view_is c.self.invariant.0
    c.max-now.ensures (fit_alive a c.if-self-eq0.false) c.in-Some.ensures.some.1 (c.bear_holding-get.ensures.key ∙ ap (λ (x : GetsView). x.next) born)
    (meets_taken (tries_new a c.max-now.result) refl (sym (c.checks_first-checked.ensures.value _ c.in-Some-take.ensures.some.0) ∙ c.if-checked.true) c.in-Some-take.ensures.some.0
    (grants (c.in-Some-take.ensures.some.2
    ∙ ap (λ (h : Holder). machine.after_take (place_with h) c.in-Some-take.key.number c.self.inside.records)
    (c.holder.ensures ∙ ap (λ (b : Bool). cond b (Get c.in-Some.number) Guard) c.if-checked.true ∙ ap (λ (m : ℕ). Get m) c.in-Some.ensures.some.0))
    (c.want_with_handle-wanted.ensures c.self.inside.handles (omega (arith, c.if-self-eq0.false))) c.grant-grant-in-Some-take.ensures.granted c.grant-grant-in-Some-take.ensures.state)
    (begun_at a.gets (machine.after_turn (Holding c.in-Some-take.key.number)) born c.bear_holding-get.ensures.state))
    (idle_as _ _ refl c.in-Some-take.ensures.some.1)

pub invariant_of-self-then-checked : goal.invariant_of-self-then-checked
invariant_of-self-then-checked g c = (led _ c.args.at.0 (acts.Try c.bear_holding-get.result.number) _ (returns-then-checked-clause-ok g c).2, c.self.invariant.1)

pub serve-requires : goal.serve-requires
serve-requires g c =
    let fit = shown_fits (view_of c.self.inside) c.self.invariant.0 in
    let few = c.in-Some.ensures.some.1 in
    record { direct = omega (arith, fit, few); waited = omega (arith, fit, few) }

pub returns-else-checked-clause-ok : goal.returns-else-checked-clause-ok
returns-else-checked-clause-ok g c =
    let a = view_of c.self.inside in
    both (tried.Served c.in-Some-take.key c.in-Some-take.conn c.grant-grant-in-Some-take.result) c.self.view_is c.self.invariant.0
    c.max-now.ensures (fit_alive a c.if-self-eq0.false) c.in-Some.ensures.some.1 c.in-Some.ensures.some.0
    (meets_served (record c.self.inside.counters { started = c.self.inside.counters.started + 1 }) (tries_new a c.max-now.result) refl
    (sym (c.checks_first-checked.ensures.value _ c.in-Some-take.ensures.some.0) ∙ c.if-checked.false) c.in-Some-take.ensures.some.0
    (grants (c.in-Some-take.ensures.some.2
    ∙ ap (λ (h : Holder). machine.after_take (place_with h) c.in-Some-take.key.number c.self.inside.records)
    (c.holder.ensures ∙ ap (λ (b : Bool). cond b (Get c.in-Some.number) Guard) c.if-checked.false))
    (c.want_with_handle-wanted.ensures c.self.inside.handles (omega (arith, c.if-self-eq0.false))) c.grant-grant-in-Some-take.ensures.granted c.grant-grant-in-Some-take.ensures.state)
    (begun_at a.gets machine.after_get_end c.in-Some.ensures.some.2 c.begin_and_end.ensures.state) refl refl c.serve.ensures)
    (idle_as _ _ refl c.in-Some-take.ensures.some.1)

pub invariant_of-self-in-Some-take : goal.invariant_of-self-in-Some-take
invariant_of-self-in-Some-take g c = (led _ c.args.at.0 (acts.Try c.in-Some.number) _ (returns-else-checked-clause-ok g c).2, c.self.invariant.1)

pub returns-in-None-clause-bounds : goal.returns-in-None-clause-bounds
returns-in-None-clause-bounds g c = let s = returns-in-None-clause-ok g c in both_bounded _ c.args.at.0 _ _ _ s.1 s.2 c.self.view_is c.end-in-None.ensures (omega (arith, one_few, min-le_left)) (omega (arith, one_few, min-le_left))

pub returns-then-checked-clause-bounds : goal.returns-then-checked-clause-bounds
returns-then-checked-clause-bounds g c = let s = returns-then-checked-clause-ok g c in both_bounded _ c.args.at.0 _ _ _ s.1 s.2 c.self.view_is c.end-then-checked.ensures (omega (arith, one_few, min-le_left)) (omega (arith, one_few, min-le_left))

pub returns-else-checked-clause-bounds : goal.returns-else-checked-clause-bounds
returns-else-checked-clause-bounds g c = let s = returns-else-checked-clause-ok g c in both_bounded _ c.args.at.0 _ _ _ s.1 s.2 c.self.view_is c.end-in-Some-take.ensures (omega (arith, one_few, min-le_left)) (omega (arith, one_few, min-le_left))

pub returns-then-self-eq0-clause-err : goal.returns-then-self-eq0-clause-err
returns-then-self-eq0-clause-err g c = unfit_step c.args.at.0 acts.Begin c.self.view_is c.self.invariant.0 (unfit_alone c.self.view_is c.if-self-eq0.true)
