use Rattle.bb8_core.proofs.Words.{arith, refl, sym, ◌∙◌, ap, ◌≡◌, false, Some, true, Bool, eqb, ◌-◌, ◌||◌, ltb, nat_tests, birth_in, get, holding_is, view_of, reason_of}
use Rattle.bb8_ledger.specs.Acts as acts
use Rattle.std.proofs.Math.Nat.{min-le_left}
use Rattle.bb8_core.proofs.Fitting.{none_after, shown_fits, number_few, closed_few, ended_few, held_out, fits_give_back, unfit_give_back, held_with}
use Rattle.bb8_core.proofs.Meets.{meets_given_up_kept, meets_given_up_closed}
use Rattle.bb8_core.proofs.Steps.{regroup, led}
use Rattle.bb8_core.proofs.GetEnds.{notices, given_up_is, given_up_open}
use Rattle.bb8_core.proofs.Rows.{made}
use Rattle.bb8_core.proofs.Runs.{unfit_gets}
use Rattle.bb8_core.proofs.StepBounds.{one_few, bounded}
use Rattle.bb8_core.proofs.internals.PoolInternals.give_back.Goals as goal

pub returns-in_default-clause-step : goal.returns-in_default-clause-step
returns-in_default-clause-step g c = unfit_gets c.args.at.0 (acts.GiveUp c.args.get.number (reason_of c.args.reason) (Some c.args.conn) c.args.broken) c.self.view_is c.self.invariant.0
    (unfit_give_back (view_of c.self.inside) c.args.get.number (reason_of c.args.reason) c.args.conn c.args.broken c.in_default.ensures.none.0) c.in_default.ensures.none.1

pub put_back-requires : goal.put_back-requires
put_back-requires g c = none_after (view_of c.self.inside) c.args.at.0 c.max-now.result c.self.invariant.0 c.max-now.ensures

pub give_up-requires : goal.give_up-requires
give_up-requires g c =
    grind (
      arith,
      nat_tests,
      holding_is (get c.self.inside.gets.places c.args.get.number) c.in-Some.held c.in-Some.ensures.some.0,
      ended_few (view_of c.self.inside) c.args.get.number c.self.invariant.0,
    )

pub returns-in-Err-clause-step : goal.returns-in-Err-clause-step
returns-in-Err-clause-step g c = absurd (let clash : true ≡ false = sym (held_with (view_of c.self.inside) c.args.get.number c.in-Some.held c.self.invariant.0 c.in-Some.ensures.some.0) ∙ c.in-Err.ensures.unfit.2 in cc)

pub invariant_of-self-in-Err : goal.invariant_of-self-in-Err
invariant_of-self-in-Err g c = (absurd (let clash : true ≡ false = sym (held_with (view_of c.self.inside) c.args.get.number c.in-Some.held c.self.invariant.0 c.in-Some.ensures.some.0) ∙ c.in-Err.ensures.unfit.2 in cc), c.self.invariant.1)

pub returns-in-Ok-Ok-clause-step : goal.returns-in-Ok-Ok-clause-step
returns-in-Ok-Ok-clause-step g c =
    let a = view_of c.self.inside in
    let held = c.in-Some.ensures.some in
    let ok = rw c.in-Ok-Ok.field-0-is at c.in-Ok-Ok.ensures.ok in
    let few = number_few c.in-Some.held a c.self.invariant.0 (held_out a c.args.get.number c.in-Some.held c.self.invariant.0 held.0) c.in-Ok-Ok.ensures.numbers in
    made c.self.view_is c.self.invariant.0 c.max-now.ensures
    (meets_given_up_kept c.args.reason c.self.inside.counters
    (fits_give_back a c.args.get.number c.in-Some.held (reason_of c.args.reason) c.args.conn c.args.broken held.0) held.0
    (ap (λ (b : Bool). b || (ltb c.in-Some.held c.self.inside.retired)) (c.self.invariant.1.age (c.max-now.result - birth_in (get c.self.inside.records.places c.in-Some.held)) (omega arith)))
    c.is_doubtful-doubtful.ensures (regroup c.is_doubtful-doubtful.result (ltb c.self.inside.max_age (c.max-now.result - birth_in (get c.self.inside.records.places c.in-Some.held))) (eqb c.self.inside.handles 0) (ltb c.in-Some.held c.self.inside.retired) (c.self.invariant.1.closed c.in-Some.held few) refl ok.0) ok.1 (notices held.2 c.notify-notified.ensures.value c.notify-notified.ensures.state) refl held.1
    (given_up_is c.args.reason c.max-now.result c.in-Some.first_wait c.give_up.ensures.timed_out c.give_up.ensures.cancelled))

pub invariant_of-self-in-Ok-Ok : goal.invariant_of-self-in-Ok-Ok
invariant_of-self-in-Ok-Ok g c = (
  led _ c.args.at.0 (acts.GiveUp c.args.get.number (reason_of c.args.reason) (Some c.args.conn) c.args.broken) _
      (returns-in-Ok-Ok-clause-step g c).0,
  c.self.invariant.1,
)

pub close_and_grant-grant-requires-clause-out : goal.close_and_grant-grant-requires-clause-out
close_and_grant-grant-requires-clause-out g c = let err = rw c.in-Ok-Err.field-0-is at c.in-Ok-Err.ensures.err in rw err.3 (held_out (view_of c.self.inside) c.args.get.number c.in-Some.held c.self.invariant.0 c.in-Some.ensures.some.0)

pub close_and_grant-grant-requires-clause-size : goal.close_and_grant-grant-requires-clause-size
close_and_grant-grant-requires-clause-size g c = let err = rw c.in-Ok-Err.field-0-is at c.in-Ok-Err.ensures.err in rw err.3 (shown_fits (view_of c.self.inside) c.self.invariant.0).size

pub close-requires : goal.close-requires
close-requires g c =
    grind (
      arith,
      nat_tests,
      given_up_open c.args.reason c.max-now.result c.in-Some.first_wait c.self.inside.counters,
      given_up_is c.args.reason c.max-now.result c.in-Some.first_wait c.give_up.ensures.timed_out c.give_up.ensures.cancelled,
      closed_few c.in-Some.held (view_of c.self.inside) c.self.invariant.0,
      held_out (view_of c.self.inside) c.args.get.number c.in-Some.held c.self.invariant.0 c.in-Some.ensures.some.0,
    )

pub returns-in-Ok-Err-clause-step : goal.returns-in-Ok-Err-clause-step
returns-in-Ok-Err-clause-step g c =
    let a = view_of c.self.inside in
    let held = c.in-Some.ensures.some in
    let err = rw c.in-Ok-Err.field-0-is at c.in-Ok-Err.ensures.err in
    let few = number_few c.in-Some.held a c.self.invariant.0 (held_out a c.args.get.number c.in-Some.held c.self.invariant.0 held.0) (rw err.3 at c.close_and_grant-grant.ensures.numbers) in
    made c.self.view_is c.self.invariant.0 c.max-now.ensures
    (meets_given_up_closed c.args.reason c.self.inside.counters
    (fits_give_back a c.args.get.number c.in-Some.held (reason_of c.args.reason) c.args.conn c.args.broken held.0) held.0
    (c.either.ensures ∙ ap (λ (b : Bool). b || (ltb c.in-Some.held c.self.inside.retired)) (err.1 ∙ c.self.invariant.1.age (c.max-now.result - birth_in (get c.self.inside.records.places c.in-Some.held)) (omega arith)))
    c.is_doubtful-doubtful.ensures (regroup c.is_doubtful-doubtful.result c.in-Ok-Err.expired (eqb c.self.inside.handles 0) (ltb c.in-Some.held c.self.inside.retired) (c.self.invariant.1.closed c.in-Some.held few) c.either.ensures err.2) (rw err.3 at c.close_and_grant-grant.ensures.granted) (rw err.3 at c.close_and_grant-grant.ensures.state)
    (notices held.2 c.notify-notified-in-Ok-Err.ensures.value c.notify-notified-in-Ok-Err.ensures.state) refl held.1
    (given_up_is c.args.reason c.max-now.result c.in-Some.first_wait c.give_up.ensures.timed_out c.give_up.ensures.cancelled) c.close.ensures)

pub invariant_of-self-in-Ok-Err : goal.invariant_of-self-in-Ok-Err
invariant_of-self-in-Ok-Err g c = (
  led _ c.args.at.0 (acts.GiveUp c.args.get.number (reason_of c.args.reason) (Some c.args.conn) c.args.broken) _
      (returns-in-Ok-Err-clause-step g c).0,
  c.self.invariant.1,
)

pub returns-in-Ok-Ok-clause-bounds : goal.returns-in-Ok-Ok-clause-bounds
returns-in-Ok-Ok-clause-bounds g c = bounded _ c.args.at.0 (acts.GiveUp c.args.get.number (reason_of c.args.reason) (Some c.args.conn) c.args.broken) _ (returns-in-Ok-Ok-clause-step g c).0 c.self.view_is c.end.ensures (omega (arith, one_few, min-le_left)) (omega (arith, one_few, min-le_left))

pub returns-in-Ok-Err-clause-bounds : goal.returns-in-Ok-Err-clause-bounds
returns-in-Ok-Err-clause-bounds g c = bounded _ c.args.at.0 (acts.GiveUp c.args.get.number (reason_of c.args.reason) (Some c.args.conn) c.args.broken) _ (returns-in-Ok-Err-clause-step g c).0 c.self.view_is c.end-in-Ok-Err.ensures (omega (arith, one_few, min-le_left)) (omega (arith, one_few, min-le_left))
