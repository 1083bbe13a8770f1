use Rattle.bb8_core.proofs.Words.{arith, refl, ◌∙◌, ap, Bool, eqb, ◌-◌, ◌||◌, is_guarded, ltb, nat_tests, birth_in, get, view_of}
use Rattle.bb8_ledger.specs.Acts as acts
use Rattle.std.proofs.Math.Nat.{min-le_left}
use Rattle.bb8_core.proofs.Fitting.{none_after, shown_fits, fits_at, unfit_at, guarded_record, number_few, closed_few}
use Rattle.bb8_core.proofs.Meets.{meets_returned_kept, meets_returned_closed}
use Rattle.bb8_core.proofs.Steps.{regroup, led}
use Rattle.bb8_core.proofs.Rows.{made}
use Rattle.bb8_core.proofs.Runs.{unfit_records}
use Rattle.bb8_core.proofs.StepBounds.{one_few, bounded}
use Rattle.bb8_core.proofs.internals.PoolInternals.put_back.Goals as goal

pub put_back-requires : goal.put_back-requires
put_back-requires g c = none_after (view_of c.self.inside) c.args.at.0 c.max-now.result c.self.invariant.0 c.max-now.ensures

pub returns-in-Err-clause-step : goal.returns-in-Err-clause-step
returns-in-Err-clause-step g c = unfit_records c.args.at.0 (acts.PutBack c.args.k.number c.args.conn c.args.broken) c.self.view_is c.self.invariant.0
    (unfit_at (view_of c.self.inside) is_guarded c.args.k.number c.in-Err.ensures.unfit.2) c.in-Err.ensures.unfit.1

pub returns-in-Ok-Ok-clause-step : goal.returns-in-Ok-Ok-clause-step
returns-in-Ok-Ok-clause-step g c =
    let a = view_of c.self.inside in
    let ok = rw c.in-Ok-Ok.field-0-is at c.in-Ok-Ok.ensures.ok in
    let few = number_few c.args.k.number a c.self.invariant.0 (guarded_record a c.args.k.number c.in-Ok-Ok.ensures.held) c.in-Ok-Ok.ensures.numbers in
    made c.self.view_is c.self.invariant.0 c.max-now.ensures
    (meets_returned_kept (fits_at a is_guarded c.args.k.number c.in-Ok-Ok.ensures.held)
    (record { who = c.notify-notified.ensures.value; after = c.notify-notified.ensures.state })
    (ap (λ (b : Bool). b || (ltb c.args.k.number c.self.inside.retired)) (c.self.invariant.1.age (c.max-now.result - birth_in (get c.self.inside.records.places c.args.k.number)) (omega arith)))
    (regroup c.args.broken (ltb c.self.inside.max_age (c.max-now.result - birth_in (get c.self.inside.records.places c.args.k.number))) (eqb c.self.inside.handles 0) (ltb c.args.k.number c.self.inside.retired) (c.self.invariant.1.closed c.args.k.number few) refl ok.0) ok.1)

pub invariant_of-self-in-Ok-Ok : goal.invariant_of-self-in-Ok-Ok
invariant_of-self-in-Ok-Ok g c = (
  led _ c.args.at.0 (acts.PutBack c.args.k.number c.args.conn c.args.broken) _
      (returns-in-Ok-Ok-clause-step g c).0,
  c.self.invariant.1,
)

pub close_and_grant-grant-requires-clause-out : goal.close_and_grant-grant-requires-clause-out
close_and_grant-grant-requires-clause-out g c = let err = rw c.in-Ok-Err.field-0-is at c.in-Ok-Err.ensures.err in rw err.3 (guarded_record (view_of c.self.inside) c.args.k.number c.in-Ok-Err.ensures.held)

pub close_and_grant-grant-requires-clause-size : goal.close_and_grant-grant-requires-clause-size
close_and_grant-grant-requires-clause-size g c = let err = rw c.in-Ok-Err.field-0-is at c.in-Ok-Err.ensures.err in rw err.3 (shown_fits (view_of c.self.inside) c.self.invariant.0).size

pub close-requires : goal.close-requires
close-requires g c = grind (arith, nat_tests, closed_few c.args.k.number (view_of c.self.inside) c.self.invariant.0, guarded_record (view_of c.self.inside) c.args.k.number c.in-Ok-Err.ensures.held)

pub returns-in-Ok-Err-clause-step : goal.returns-in-Ok-Err-clause-step
returns-in-Ok-Err-clause-step g c =
    let a = view_of c.self.inside in
    let r = c.in-Ok-Err.ensures in
    let err = rw c.in-Ok-Err.field-0-is at r.err in
    let few = number_few c.args.k.number a c.self.invariant.0 (guarded_record a c.args.k.number r.held) (rw err.3 at c.close_and_grant-grant.ensures.numbers) in
    made c.self.view_is c.self.invariant.0 c.max-now.ensures
    (meets_returned_closed c.self.inside.counters (fits_at a is_guarded c.args.k.number r.held)
    (record { who = c.notify-notified-in-Ok-Err.ensures.value; after = c.notify-notified-in-Ok-Err.ensures.state })
    (c.either.ensures ∙ ap (λ (b : Bool). b || (ltb c.args.k.number c.self.inside.retired)) (err.1 ∙ c.self.invariant.1.age (c.max-now.result - birth_in (get c.self.inside.records.places c.args.k.number)) (omega arith)))
    (regroup c.args.broken c.in-Ok-Err.expired (eqb c.self.inside.handles 0) (ltb c.args.k.number c.self.inside.retired) (c.self.invariant.1.closed c.args.k.number few) c.either.ensures err.2) (rw err.3 at c.close_and_grant-grant.ensures.granted) (rw err.3 at c.close_and_grant-grant.ensures.state) refl c.close.ensures)

pub invariant_of-self-in-Ok-Err : goal.invariant_of-self-in-Ok-Err
invariant_of-self-in-Ok-Err g c = (
  led _ c.args.at.0 (acts.PutBack c.args.k.number c.args.conn c.args.broken) _
      (returns-in-Ok-Err-clause-step g c).0,
  c.self.invariant.1,
)

pub returns-in-Ok-Ok-clause-bounds : goal.returns-in-Ok-Ok-clause-bounds
returns-in-Ok-Ok-clause-bounds g c = bounded _ c.args.at.0 (acts.PutBack c.args.k.number c.args.conn c.args.broken) _ (returns-in-Ok-Ok-clause-step g c).0 c.self.view_is c.end.ensures (omega (arith, one_few, min-le_left)) (omega (arith, one_few, min-le_left))

pub returns-in-Ok-Err-clause-bounds : goal.returns-in-Ok-Err-clause-bounds
returns-in-Ok-Err-clause-bounds g c = bounded _ c.args.at.0 (acts.PutBack c.args.k.number c.args.conn c.args.broken) _ (returns-in-Ok-Err-clause-step g c).0 c.self.view_is c.end-in-Ok-Err.ensures (omega (arith, one_few, min-le_left)) (omega (arith, one_few, min-le_left))
