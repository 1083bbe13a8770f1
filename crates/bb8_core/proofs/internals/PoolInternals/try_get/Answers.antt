use Rattle.bb8_core.proofs.Words.{arith, refl, sym, ◌∙◌, ap, ℕ, subst, Bool, cond, gets_stand, IsNoGrant, is_trying, nat_tests, place_with, view_of}
use Rattle.bb8_types.specs.declared.standing.Holder.{Holder}
use Rattle.bb8_types.specs.declared.standing.Holder.TheVariants.{Guard, Get}
use Rattle.bb8_tables.specs.Machine as machine
use Rattle.bb8_ledger.specs.Acts as acts
use Rattle.std.proofs.Math.Nat.{min-le_left}
use Rattle.bb8_core.proofs.Fitting.{trying_stands, trying_off, as_shown, idle_as, due_fits, ended_few}
use Rattle.bb8_core.proofs.Meets.{meets_waits_on, meets_served, meets_taken, meets_waits}
use Rattle.bb8_core.proofs.Steps.{led, grants, tries}
use Rattle.bb8_core.proofs.Rows.{made}
use Rattle.bb8_core.proofs.Runs.{shown_try, unfit_step}
use Rattle.bb8_core.proofs.StepBounds.{one_few, bounded}
use Rattle.bb8_core.proofs.internals.PoolInternals.try_get.Goals as goal

pub returns-then-not-is_trying-clause-step : goal.returns-then-not-is_trying-clause-step
returns-then-not-is_trying-clause-step g c = unfit_step c.args.at.0 (acts.Try c.args.get.number) c.self.view_is c.self.invariant.0 (λ l legal means.
    let fits = shown_try l (view_of c.self.inside) c.args.get.number (as_shown l (sym c.self.view_is) means) in
    sym (fits ∙ ap (gets_stand is_trying) (sym c.getting-getting.ensures.value) ∙ sym c.is_trying.ensures ∙ c.if-not-is_trying.true))

pub invariant_of-self : goal.invariant_of-self
invariant_of-self g c = (led _ c.args.at.0 (acts.Try c.args.get.number) _ (returns-then-not-is_trying-clause-step g c).0, c.self.invariant.1)

pub returns-then-is_unnotified-clause-step : goal.returns-then-is_unnotified-clause-step
returns-then-is_unnotified-clause-step g c = made c.self.view_is c.self.invariant.0 c.max-now.ensures
    (meets_waits_on (tries (view_of c.self.inside) c.getting-getting.ensures.value c.is_trying.ensures c.if-not-is_trying.false)
    (sym c.is_unnotified.ensures ∙ c.if-is_unnotified.true)
    (subst (λ (n : ℕ). IsNoGrant n c.of_nothing-nothing.result) c.next_number.ensures c.of_nothing-nothing.ensures))

pub invariant_of-self-then-is_unnotified : goal.invariant_of-self-then-is_unnotified
invariant_of-self-then-is_unnotified g c = (led _ c.args.at.0 (acts.Try c.args.get.number) _ (returns-then-is_unnotified-clause-step g c).0, c.self.invariant.1)

pub grant-grant-requires : goal.grant-grant-requires
grant-grant-requires g c = omega (arith, due_fits (view_of c.self.inside) _ c.self.invariant.0 (omega arith) c.in-None.ensures.none.1 refl c.due_waiting-due.ensures)

pub wait-requires : goal.wait-requires
wait-requires g c = record { stands = trying_off c.getting-getting.ensures.value c.is_trying.ensures c.if-not-is_trying.false c.is_unnotified.ensures c.if-is_unnotified.false }

pub returns-in-None-clause-step : goal.returns-in-None-clause-step
returns-in-None-clause-step g c = made c.self.view_is c.self.invariant.0 c.max-now.ensures
    (meets_waits (tries (view_of c.self.inside) c.getting-getting.ensures.value c.is_trying.ensures c.if-not-is_trying.false)
    (sym c.is_unnotified.ensures ∙ c.if-is_unnotified.false) c.in-None.ensures.none.0 c.in-None.ensures.none.1
    c.alive-alive.ensures c.due_waiting-due.ensures c.grant-grant.ensures.granted c.grant-grant.ensures.state c.wait.ensures.state)

pub invariant_of-self-in-None : goal.invariant_of-self-in-None
invariant_of-self-in-None g c = (led _ c.args.at.0 (acts.Try c.args.get.number) _ (returns-in-None-clause-step g c).0, c.self.invariant.1)

pub grant-grant-requires-in-Some : goal.grant-grant-requires-in-Some
grant-grant-requires-in-Some g c = omega (arith, due_fits (view_of c.self.inside) _ c.self.invariant.0 (omega arith) c.in-Some.ensures.some.2 refl c.want-wanted.ensures)

pub turn-requires-clause-stands : goal.turn-requires-clause-stands
turn-requires-clause-stands g c = trying_off c.getting-getting.ensures.value c.is_trying.ensures c.if-not-is_trying.false c.is_unnotified.ensures c.if-is_unnotified.false

pub returns-then-checked-clause-step : goal.returns-then-checked-clause-step
returns-then-checked-clause-step g c = made c.self.view_is c.self.invariant.0 c.max-now.ensures
    (meets_taken (tries (view_of c.self.inside) c.getting-getting.ensures.value c.is_trying.ensures c.if-not-is_trying.false)
    (sym c.is_unnotified.ensures ∙ c.if-is_unnotified.false) (sym (c.checks_first-checked.ensures.value _ c.in-Some.ensures.some.0) ∙ c.if-checked.true) c.in-Some.ensures.some.0
    (grants (c.in-Some.ensures.some.2
    ∙ ap (λ (h : Holder). machine.after_take (place_with h) c.in-Some.key.number c.self.inside.records)
    (c.holder.ensures ∙ ap (λ (b : Bool). cond b (Get c.args.get.number) Guard) c.if-checked.true))
    c.want-wanted.ensures c.grant-grant-in-Some.ensures.granted c.grant-grant-in-Some.ensures.state) c.turn.ensures.state)

pub invariant_of-self-then-checked : goal.invariant_of-self-then-checked
invariant_of-self-then-checked g c = (led _ c.args.at.0 (acts.Try c.args.get.number) _ (returns-then-checked-clause-step g c).0, c.self.invariant.1)

pub returns-then-checked-clause-connection : goal.returns-then-checked-clause-connection
returns-then-checked-clause-connection g c = idle_as _ _ c.self.view_is c.in-Some.ensures.some.1

pub finish-requires : goal.finish-requires
finish-requires g c = trying_off c.getting-getting.ensures.value c.is_trying.ensures c.if-not-is_trying.false c.is_unnotified.ensures c.if-is_unnotified.false

pub serve-requires : goal.serve-requires
serve-requires g c =
    grind (arith, nat_tests, trying_stands c.getting-getting.ensures.value c.is_trying.ensures c.if-not-is_trying.false, ended_few (view_of c.self.inside) c.args.get.number c.self.invariant.0)

pub returns-else-checked-clause-step : goal.returns-else-checked-clause-step
returns-else-checked-clause-step g c = made c.self.view_is c.self.invariant.0 c.max-now.ensures
    (meets_served c.self.inside.counters (tries (view_of c.self.inside) c.getting-getting.ensures.value c.is_trying.ensures c.if-not-is_trying.false)
    (sym c.is_unnotified.ensures ∙ c.if-is_unnotified.false) (sym (c.checks_first-checked.ensures.value _ c.in-Some.ensures.some.0) ∙ c.if-checked.false) c.in-Some.ensures.some.0
    (grants (c.in-Some.ensures.some.2
    ∙ ap (λ (h : Holder). machine.after_take (place_with h) c.in-Some.key.number c.self.inside.records)
    (c.holder.ensures ∙ ap (λ (b : Bool). cond b (Get c.args.get.number) Guard) c.if-checked.false))
    c.want-wanted.ensures c.grant-grant-in-Some.ensures.granted c.grant-grant-in-Some.ensures.state) c.finish.ensures.state refl
    c.first_wait.ensures c.serve.ensures)

pub invariant_of-self-in-Some : goal.invariant_of-self-in-Some
invariant_of-self-in-Some g c = (led _ c.args.at.0 (acts.Try c.args.get.number) _ (returns-else-checked-clause-step g c).0, c.self.invariant.1)

pub returns-else-checked-clause-connection : goal.returns-else-checked-clause-connection
returns-else-checked-clause-connection g c = idle_as _ _ c.self.view_is c.in-Some.ensures.some.1

pub returns-in-None-clause-bounds : goal.returns-in-None-clause-bounds
returns-in-None-clause-bounds g c = bounded _ c.args.at.0 (acts.Try c.args.get.number) _ (returns-in-None-clause-step g c).0 c.self.view_is c.end-in-None.ensures (omega (arith, one_few, min-le_left)) (omega (arith, one_few, min-le_left))

pub returns-then-checked-clause-bounds : goal.returns-then-checked-clause-bounds
returns-then-checked-clause-bounds g c = bounded _ c.args.at.0 (acts.Try c.args.get.number) _ (returns-then-checked-clause-step g c).0 c.self.view_is c.end-then-checked.ensures (omega (arith, one_few, min-le_left)) (omega (arith, one_few, min-le_left))

pub returns-else-checked-clause-bounds : goal.returns-else-checked-clause-bounds
returns-else-checked-clause-bounds g c = bounded _ c.args.at.0 (acts.Try c.args.get.number) _ (returns-else-checked-clause-step g c).0 c.self.view_is c.end-in-Some.ensures (omega (arith, one_few, min-le_left)) (omega (arith, one_few, min-le_left))
