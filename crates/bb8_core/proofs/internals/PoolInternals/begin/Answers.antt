use Rattle.bb8_core.proofs.Words.{arith, nat_tests, view_of}
use Rattle.bb8_ledger.specs.Acts as acts
use Rattle.bb8_core.proofs.Fitting.{shown_fits}
use Rattle.bb8_core.proofs.Meets.{meets_begun, meets_memory, meets_exhausted}
use Rattle.bb8_core.proofs.Steps.{left, used_up, led, fits_view}
use Rattle.bb8_core.proofs.Rows.{made}
use Rattle.bb8_core.proofs.Runs.{unfit_step, fitting}
use Rattle.bb8_core.proofs.internals.PoolInternals.begin.Goals as goal

pub returns-then-not-has_number-clause-step : goal.returns-then-not-has_number-clause-step
returns-then-not-has_number-clause-step g c = made c.self.view_is c.self.invariant.0 c.max-self-inside.ensures
    (meets_exhausted (fits_view acts.Begin c.self.view_is (fitting acts.Begin c.if-not-fits_begin.ensures)) (used_up _ c.has_number.ensures c.if-not-has_number.true))

pub invariant_of-self-then-not-has_number : goal.invariant_of-self-then-not-has_number
invariant_of-self-then-not-has_number g c = (led _ c.args.at.0 acts.Begin _ (returns-then-not-has_number-clause-step g c).0, c.self.invariant.1)

pub begin-requires : goal.begin-requires
begin-requires g c = left _ c.has_number.ensures c.if-not-has_number.false

pub returns-in-None-clause-step : goal.returns-in-None-clause-step
returns-in-None-clause-step g c = made c.self.view_is c.self.invariant.0 c.max-self-inside.ensures
    (meets_memory (fits_view acts.Begin c.self.view_is (fitting acts.Begin c.if-not-fits_begin.ensures))
    (left _ c.has_number.ensures c.if-not-has_number.false) c.in-None.ensures.none.0 c.in-None.ensures.none.1)

pub invariant_of-self-in-None : goal.invariant_of-self-in-None
invariant_of-self-in-None g c = (led _ c.args.at.0 acts.Begin _ (returns-in-None-clause-step g c).0, c.self.invariant.1)

pub overflow_add-self : goal.overflow_add-self
overflow_add-self g c = grind (arith, nat_tests, shown_fits (view_of c.self.inside) c.self.invariant.0, left c.self.inside.gets.next c.has_number.ensures c.if-not-has_number.false)

pub returns-in-Some-clause-step : goal.returns-in-Some-clause-step
returns-in-Some-clause-step g c = made c.self.view_is c.self.invariant.0 c.max-self-inside.ensures
    (meets_begun (fits_view acts.Begin c.self.view_is (fitting acts.Begin c.if-not-fits_begin.ensures))
    (left _ c.has_number.ensures c.if-not-has_number.false) c.in-Some.ensures.some.1 c.in-Some.ensures.some.0)

pub invariant_of-self-in-Some : goal.invariant_of-self-in-Some
invariant_of-self-in-Some g c = (led _ c.args.at.0 acts.Begin _ (returns-in-Some-clause-step g c).0, c.self.invariant.1)

pub returns-then-not-fits_begin-clause-step : goal.returns-then-not-fits_begin-clause-step
returns-then-not-fits_begin-clause-step g c = unfit_step c.args.at.0 acts.Begin c.self.view_is c.self.invariant.0 c.if-not-fits_begin.ensures

pub invariant_of-self : goal.invariant_of-self
invariant_of-self g c = (led _ c.args.at.0 acts.Begin _ (returns-then-not-fits_begin-clause-step g c).0, c.self.invariant.1)
