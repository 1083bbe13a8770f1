use Rattle.bb8_core.proofs.Words.{arith, refl, ◌∙◌, ap, Bool, ◌||◌, ltb, view_of}
use Rattle.bb8_ledger.specs.Acts as acts
use Rattle.std.proofs.Math.Nat.{min-le_left}
use Rattle.bb8_core.proofs.Fitting.{shown_fits, closed_few, invalid_few, fits_held, unfit_held, held_out}
use Rattle.bb8_core.proofs.Meets.{meets_invalid}
use Rattle.bb8_core.proofs.Steps.{led}
use Rattle.bb8_core.proofs.GetEnds.{notices}
use Rattle.bb8_core.proofs.Rows.{made}
use Rattle.bb8_core.proofs.Runs.{unfit_gets}
use Rattle.bb8_core.proofs.StepBounds.{one_few, bounded}
use Rattle.bb8_core.proofs.internals.PoolInternals.checked_err.Goals as goal

pub returns-in_default-clause-step : goal.returns-in_default-clause-step
returns-in_default-clause-step g c = unfit_gets c.args.at.0 (acts.CheckedErr c.args.get.number c.args.broken) c.self.view_is c.self.invariant.0
    (unfit_held (view_of c.self.inside) c.args.get.number c.in_default.ensures.none.0) c.in_default.ensures.none.1

pub close_and_grant-grant-requires-clause-out : goal.close_and_grant-grant-requires-clause-out
close_and_grant-grant-requires-clause-out g c = held_out (view_of c.self.inside) c.args.get.number c.in-Some.held c.self.invariant.0 c.in-Some.ensures.some.0

pub close_and_grant-grant-requires-clause-size : goal.close_and_grant-grant-requires-clause-size
close_and_grant-grant-requires-clause-size g c = (shown_fits (view_of c.self.inside) c.self.invariant.0).size

pub overflow_add-self : goal.overflow_add-self
overflow_add-self g c =
    let out = held_out (view_of c.self.inside) c.args.get.number c.in-Some.held c.self.invariant.0 c.in-Some.ensures.some.0 in
    omega (arith, invalid_few c.in-Some.held (view_of c.self.inside) c.self.invariant.0 out c.close_and_grant-grant.ensures.numbers)

pub close-requires : goal.close-requires
close-requires g c =
    let out = held_out (view_of c.self.inside) c.args.get.number c.in-Some.held c.self.invariant.0 c.in-Some.ensures.some.0 in
    omega (arith, closed_few c.in-Some.held (view_of c.self.inside) c.self.invariant.0 out c.close_and_grant-grant.ensures.numbers)

pub returns-clause-step : goal.returns-clause-step
returns-clause-step g c =
    let held = c.in-Some.ensures.some in
    made c.self.view_is c.self.invariant.0 c.max-now.ensures
    (meets_invalid c.self.inside.counters (fits_held (view_of c.self.inside) c.args.get.number c.in-Some.held held.0) held.0
    (rw c.birth-birth.ensures.value at (c.either-expired.ensures ∙ ap (λ (b : Bool). b || ltb c.in-Some.held c.self.inside.retired) c.is_expired.ensures))
    c.close_and_grant-grant.ensures.granted c.close_and_grant-grant.ensures.state
    (notices held.1 c.notify-notified.ensures.value c.notify-notified.ensures.state) refl c.close.ensures)

pub invariant_of-self-2 : goal.invariant_of-self-2
invariant_of-self-2 g c = (led _ c.args.at.0 (acts.CheckedErr c.args.get.number c.args.broken) _ (returns-clause-step g c).0, c.self.invariant.1)

pub returns-clause-bounds : goal.returns-clause-bounds
returns-clause-bounds g c = bounded _ c.args.at.0 (acts.CheckedErr c.args.get.number c.args.broken) _ (returns-clause-step g c).0 c.self.view_is c.end.ensures (omega (arith, one_few, min-le_left)) (omega (arith, one_few, min-le_left))
