use Rattle.bb8_core.proofs.Words.{arith, standing_is, is_claimed, get, view_of}
use Rattle.bb8_ledger.specs.Acts as acts
use Rattle.bb8_core.proofs.Fitting.{none_after, fits_at, unfit_at, number_few, created_few}
use Rattle.bb8_core.proofs.Meets.{meets_opened, meets_late}
use Rattle.bb8_core.proofs.Steps.{led}
use Rattle.bb8_core.proofs.Rows.{made}
use Rattle.bb8_core.proofs.Runs.{unfit_records}
use Rattle.bb8_core.proofs.ClosesBelow.{late_below, in_time_above}
use Rattle.bb8_core.proofs.internals.PoolInternals.opened.Goals as goal

pub returns-then-not-end_claimed-clause-step : goal.returns-then-not-end_claimed-clause-step
returns-then-not-end_claimed-clause-step g c = unfit_records c.args.at.0 (acts.Opened c.args.a.number c.args.conn) c.self.view_is c.self.invariant.0
    (unfit_at (view_of c.self.inside) is_claimed c.args.a.number (c.end_claimed.ensures.unfit c.if-not-end_claimed.true).0)
    (c.end_claimed.ensures.unfit c.if-not-end_claimed.true).1

pub invariant_of-self : goal.invariant_of-self
invariant_of-self g c = (led _ c.args.at.0 (acts.Opened c.args.a.number c.args.conn) _ (returns-then-not-end_claimed-clause-step g c).0, c.self.invariant.1)

pub returns-then-a-self-clause-step : goal.returns-then-a-self-clause-step
returns-then-a-self-clause-step g c = made c.self.view_is c.self.invariant.0 c.max-now.ensures
    (meets_late c.args.conn (fits_at (view_of c.self.inside) is_claimed c.args.a.number (c.end_claimed.ensures.ended c.if-not-end_claimed.false).0)
    (late_below _ _ c.self.invariant.1.closed (omega arith) c.if-a-self.true) (c.end_claimed.ensures.ended c.if-not-end_claimed.false).1)

pub invariant_of-self-then-a-self : goal.invariant_of-self-then-a-self
invariant_of-self-then-a-self g c = (led _ c.args.at.0 (acts.Opened c.args.a.number c.args.conn) _ (returns-then-a-self-clause-step g c).0, c.self.invariant.1)

pub enter-requires : goal.enter-requires
enter-requires g c = none_after (view_of c.self.inside) c.args.at.0 c.max-now.result c.self.invariant.0 c.max-now.ensures

pub returns-in-Err-clause-step : goal.returns-in-Err-clause-step
returns-in-Err-clause-step g c = unfit_records c.args.at.0 (acts.Opened c.args.a.number c.args.conn) c.self.view_is c.self.invariant.0
    (unfit_at (view_of c.self.inside) is_claimed c.args.a.number c.in-Err.ensures.unfit.2) c.in-Err.ensures.unfit.1

pub overflow_add-self : goal.overflow_add-self
overflow_add-self g c = omega (arith, created_few (view_of c.self.inside) c.args.a.number c.self.invariant.0 c.in-Ok.ensures.ok.0 c.in-Ok.ensures.numbers)

pub returns-in-Ok-clause-step : goal.returns-in-Ok-clause-step
returns-in-Ok-clause-step g c =
    let a = view_of c.self.inside in
    let few = number_few c.args.a.number a c.self.invariant.0 (standing_is is_claimed (get a.records.places c.args.a.number) c.in-Ok.ensures.ok.0) c.in-Ok.ensures.numbers in
    made c.self.view_is c.self.invariant.0 c.max-now.ensures
    (meets_opened c.args.conn (fits_at a is_claimed c.args.a.number c.in-Ok.ensures.ok.0)
    (in_time_above _ _ c.self.invariant.1.closed few c.if-a-self.false) c.in-Ok.ensures.ok.1 (record { who = c.notify-notified.ensures.value; after = c.notify-notified.ensures.state }))

pub invariant_of-self-in-Ok : goal.invariant_of-self-in-Ok
invariant_of-self-in-Ok g c = (led _ c.args.at.0 (acts.Opened c.args.a.number c.args.conn) _ (returns-in-Ok-clause-step g c).0, c.self.invariant.1)
