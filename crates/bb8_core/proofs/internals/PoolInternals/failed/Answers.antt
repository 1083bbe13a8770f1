use Rattle.bb8_core.proofs.Words.{is_claimed, view_of}
use Rattle.bb8_ledger.specs.Acts as acts
use Rattle.bb8_core.proofs.Fitting.{fits_at, unfit_at}
use Rattle.bb8_core.proofs.Meets.{meets_failed}
use Rattle.bb8_core.proofs.Steps.{led}
use Rattle.bb8_core.proofs.Rows.{made}
use Rattle.bb8_core.proofs.Runs.{unfit_records}
use Rattle.bb8_core.proofs.internals.PoolInternals.failed.Goals as goal

pub returns-then-not-end_claimed-clause-step : goal.returns-then-not-end_claimed-clause-step
returns-then-not-end_claimed-clause-step g c = unfit_records c.args.at.0 (acts.Failed c.args.approval.number) c.self.view_is c.self.invariant.0
    (unfit_at (view_of c.self.inside) is_claimed c.args.approval.number (c.end_claimed.ensures.unfit c.if-not-end_claimed.true).0)
    (c.end_claimed.ensures.unfit c.if-not-end_claimed.true).1

pub invariant_of-self : goal.invariant_of-self
invariant_of-self g c = (led _ c.args.at.0 (acts.Failed c.args.approval.number) _ (returns-then-not-end_claimed-clause-step g c).0, c.self.invariant.1)

pub returns-clause-step : goal.returns-clause-step
returns-clause-step g c = made c.self.view_is c.self.invariant.0 c.max-self-inside.ensures
    (meets_failed (fits_at (view_of c.self.inside) is_claimed c.args.approval.number (c.end_claimed.ensures.ended c.if-not-end_claimed.false).0)
    (c.end_claimed.ensures.ended c.if-not-end_claimed.false).1)

pub invariant_of-self-2 : goal.invariant_of-self-2
invariant_of-self-2 g c = (led _ c.args.at.0 (acts.Failed c.args.approval.number) _ (returns-clause-step g c).0, c.self.invariant.1)
