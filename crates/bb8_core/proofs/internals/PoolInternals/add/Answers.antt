use Rattle.bb8_core.proofs.Words.{arith, sym, ◌∙◌, false, true, view_of}
use Rattle.bb8_ledger.specs.Acts as acts
use Rattle.bb8_core.proofs.Fitting.{none_after, shown_fits}
use Rattle.bb8_core.proofs.Meets.{meets_add_broken, meets_add_full, meets_add_exhausted, meets_add_refused, meets_added}
use Rattle.bb8_core.proofs.Steps.{left, used_up, led, fits_view, has_capacity}
use Rattle.bb8_core.proofs.Rows.{made}
use Rattle.bb8_core.proofs.Runs.{unfit_step, fitting}
use Rattle.bb8_core.proofs.internals.PoolInternals.add.Goals as goal

pub returns-then-broken-clause-step : goal.returns-then-broken-clause-step
returns-then-broken-clause-step g c = rw c.if-broken.true (made c.self.view_is c.self.invariant.0 c.max-now.ensures
    (meets_add_broken c.args.conn (fits_view (acts.Add c.args.conn true) c.self.view_is (fitting (acts.Add c.args.conn c.args.broken) (c.if-not-fits_add.ensures c.args.conn c.args.broken)))))

pub invariant_of-self-then-broken : goal.invariant_of-self-then-broken
invariant_of-self-then-broken g c = (led _ c.args.at.0 (acts.Add c.args.conn c.args.broken) _ (returns-then-broken-clause-step g c).0, c.self.invariant.1)

pub returns-then-used-self-clause-step : goal.returns-then-used-self-clause-step
returns-then-used-self-clause-step g c = rw c.if-broken.false (made c.self.view_is c.self.invariant.0 c.max-now.ensures
    (meets_add_full c.args.conn (fits_view (acts.Add c.args.conn false) c.self.view_is (fitting (acts.Add c.args.conn c.args.broken) (c.if-not-fits_add.ensures c.args.conn c.args.broken))) (sym c.used.ensures ∙ c.if-used-self.true)))

pub invariant_of-self-then-used-self : goal.invariant_of-self-then-used-self
invariant_of-self-then-used-self g c = (led _ c.args.at.0 (acts.Add c.args.conn c.args.broken) _ (returns-then-used-self-clause-step g c).0, c.self.invariant.1)

pub returns-then-not-has_number-clause-step : goal.returns-then-not-has_number-clause-step
returns-then-not-has_number-clause-step g c = rw c.if-broken.false (made c.self.view_is c.self.invariant.0 c.max-now.ensures
    (meets_add_exhausted (has_capacity c.self.view_is (fitting (acts.Add c.args.conn c.args.broken) (c.if-not-fits_add.ensures c.args.conn c.args.broken)) c.used.ensures c.if-used-self.false) (used_up _ c.has_number.ensures c.if-not-has_number.true)))

pub invariant_of-self-then-not-has_number : goal.invariant_of-self-then-not-has_number
invariant_of-self-then-not-has_number g c = (led _ c.args.at.0 (acts.Add c.args.conn c.args.broken) _ (returns-then-not-has_number-clause-step g c).0, c.self.invariant.1)

pub add-requires-clause-moments : goal.add-requires-clause-moments
add-requires-clause-moments g c = none_after (view_of c.self.inside) c.args.at.0 c.max-now.result c.self.invariant.0 c.max-now.ensures

pub add-requires-clause-few : goal.add-requires-clause-few
add-requires-clause-few g c = omega (arith, (shown_fits (view_of c.self.inside) c.self.invariant.0).size, c.used.ensures, c.if-used-self.false)

pub add-requires-clause-number : goal.add-requires-clause-number
add-requires-clause-number g c = left _ c.has_number.ensures c.if-not-has_number.false

pub returns-in-Ok-clause-step : goal.returns-in-Ok-clause-step
returns-in-Ok-clause-step g c = rw c.if-broken.false (made c.self.view_is c.self.invariant.0 c.max-now.ensures
    (meets_added (has_capacity c.self.view_is (fitting (acts.Add c.args.conn c.args.broken) (c.if-not-fits_add.ensures c.args.conn c.args.broken)) c.used.ensures c.if-used-self.false)
    (record { who = c.notify-notified.ensures.value; after = c.notify-notified.ensures.state })
    (left _ c.has_number.ensures c.if-not-has_number.false) c.in-Ok.ensures.ok.0 c.in-Ok.ensures.ok.1))

pub invariant_of-self-in-Ok : goal.invariant_of-self-in-Ok
invariant_of-self-in-Ok g c = (led _ c.args.at.0 (acts.Add c.args.conn c.args.broken) _ (returns-in-Ok-clause-step g c).0, c.self.invariant.1)

pub returns-in-Err-clause-step : goal.returns-in-Err-clause-step
returns-in-Err-clause-step g c = rw c.if-broken.false (made c.self.view_is c.self.invariant.0 c.max-now.ensures
    (meets_add_refused (has_capacity c.self.view_is (fitting (acts.Add c.args.conn c.args.broken) (c.if-not-fits_add.ensures c.args.conn c.args.broken)) c.used.ensures c.if-used-self.false)
    (left _ c.has_number.ensures c.if-not-has_number.false) c.in-Err.ensures.err.1 c.in-Err.ensures.err.2))

pub invariant_of-self-in-Err : goal.invariant_of-self-in-Err
invariant_of-self-in-Err g c = (led _ c.args.at.0 (acts.Add c.args.conn c.args.broken) _ (returns-in-Err-clause-step g c).0, c.self.invariant.1)

pub returns-then-not-fits_add-clause-step : goal.returns-then-not-fits_add-clause-step
returns-then-not-fits_add-clause-step g c = unfit_step c.args.at.0 (acts.Add c.args.conn c.args.broken) c.self.view_is c.self.invariant.0 (c.if-not-fits_add.ensures c.args.conn c.args.broken)

pub invariant_of-self : goal.invariant_of-self
invariant_of-self g c = (led _ c.args.at.0 (acts.Add c.args.conn c.args.broken) _ (returns-then-not-fits_add-clause-step g c).0, c.self.invariant.1)
