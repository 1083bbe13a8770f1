use Rattle.bb8_core.proofs.Words.{arith, refl, ◌-◌}
use Rattle.bb8_ledger.specs.Acts as acts
use Rattle.bb8_core.proofs.Fitting.{fit_leave}
use Rattle.bb8_core.proofs.Meets.{meets_left_last, meets_left}
use Rattle.bb8_core.proofs.Steps.{led, fits_view}
use Rattle.bb8_core.proofs.Rows.{at_view}
use Rattle.bb8_core.proofs.Closings.{left_offers, none_left}
use Rattle.bb8_core.proofs.ClosesBelow.{all_below, as_below}
use Rattle.bb8_core.proofs.StepBounds.{bounded}
use Rattle.bb8_core.proofs.internals.PoolInternals.leave_into.Goals as goal

pub returns-then-self-eq1-clause-step : goal.returns-then-self-eq1-clause-step
returns-then-self-eq1-clause-step g c = at_view c.self.view_is c.self.invariant.0 c.max-self-inside.ensures
    (meets_left_last (fits_view acts.Leave c.self.view_is c.requires) c.if-self-eq1.true c.leave.ensures.many c.leave.ensures.state)

pub invariant_of-self : goal.invariant_of-self
invariant_of-self g c = (led _ c.args.at.0 acts.Leave _ (returns-then-self-eq1-clause-step g c), record { age = c.self.invariant.1.age; closed = all_below 0 c.self.inside.retired refl })

pub overflow_sub-self : goal.overflow_sub-self
overflow_sub-self g c = fit_leave c.self.view_is c.self.invariant.0 c.requires

pub returns-clause-step : goal.returns-clause-step
returns-clause-step g c = at_view c.self.view_is c.self.invariant.0 c.max-self-inside.ensures
    (meets_left (fits_view acts.Leave c.self.view_is c.requires) c.if-self-eq1.false)

pub invariant_of-self-2 : goal.invariant_of-self-2
invariant_of-self-2 g c = let some = fit_leave c.self.view_is c.self.invariant.0 c.requires in (
  led _ c.args.at.0 acts.Leave _ (returns-clause-step g c),
  (record { age = c.self.invariant.1.age; closed = as_below c.self.inside.handles (c.self.inside.handles - 1) c.self.inside.retired _ (λ e. omega (arith, e, some)) (λ e. omega (arith, e, some, c.if-self-eq1.false)) c.self.invariant.1.closed }),
)

pub returns-then-self-eq1-clause-closed : goal.returns-then-self-eq1-clause-closed
returns-then-self-eq1-clause-closed g c = left_offers c.args.closed.now c.self.view_is c.self.invariant.0 c.if-self-eq1.true c.leave.ensures.listed

pub returns-clause-closed : goal.returns-clause-closed
returns-clause-closed g c = none_left c.args.closed.now c.self.view_is c.if-self-eq1.false

pub returns-then-self-eq1-clause-bounds : goal.returns-then-self-eq1-clause-bounds
returns-then-self-eq1-clause-bounds g c = bounded _ c.args.at.0 acts.Leave _ (returns-then-self-eq1-clause-step g c) c.self.view_is c.end.ensures (omega (arith)) (omega (arith))
