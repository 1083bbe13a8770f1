use Rattle.bb8_core.proofs.Words.{arith, ◌+◌}
use Rattle.bb8_ledger.specs.Acts as acts
use Rattle.bb8_core.proofs.Fitting.{fit_leave}
use Rattle.bb8_core.proofs.Meets.{meets_joined, meets_join_exhausted}
use Rattle.bb8_core.proofs.Steps.{led, fits_view}
use Rattle.bb8_core.proofs.Rows.{made}
use Rattle.bb8_core.proofs.Runs.{unfit_step, fitting}
use Rattle.bb8_core.proofs.ClosesBelow.{as_below}
use Rattle.bb8_core.proofs.internals.PoolInternals.join.Goals as goal

pub returns-then-self-clause-step : goal.returns-then-self-clause-step
returns-then-self-clause-step g c = made c.self.view_is c.self.invariant.0 c.max-self-inside.ensures
    (meets_join_exhausted (fits_view acts.Join c.self.view_is (fitting acts.Join c.if-not-fits_join.ensures)) c.if-self.true)

pub invariant_of-self-then-self : goal.invariant_of-self-then-self
invariant_of-self-then-self g c = (led _ c.args.at.0 acts.Join _ (returns-then-self-clause-step g c).0, c.self.invariant.1)

pub returns-clause-step : goal.returns-clause-step
returns-clause-step g c = made c.self.view_is c.self.invariant.0 c.max-self-inside.ensures
    (meets_joined (fits_view acts.Join c.self.view_is (fitting acts.Join c.if-not-fits_join.ensures)) c.if-self.false)

pub invariant_of-self-2 : goal.invariant_of-self-2
invariant_of-self-2 g c = let some = fit_leave c.self.view_is c.self.invariant.0 (fitting acts.Join c.if-not-fits_join.ensures) in (
  led _ c.args.at.0 acts.Join _ (returns-clause-step g c).0,
  (record { age = c.self.invariant.1.age; closed = as_below c.self.inside.handles (c.self.inside.handles + 1) c.self.inside.retired _ (λ e. omega (arith, e, some)) (λ e. omega (arith, e)) c.self.invariant.1.closed }),
)

pub returns-then-not-fits_join-clause-step : goal.returns-then-not-fits_join-clause-step
returns-then-not-fits_join-clause-step g c = unfit_step c.args.at.0 acts.Join c.self.view_is c.self.invariant.0 c.if-not-fits_join.ensures

pub invariant_of-self : goal.invariant_of-self
invariant_of-self g c = (led _ c.args.at.0 acts.Join _ (returns-then-not-fits_join-clause-step g c).0, c.self.invariant.1)
