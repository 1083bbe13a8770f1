use Rattle.bb8_core.proofs.Words.{arith, refl}
use Rattle.bb8_ledger.specs.Acts as acts
use Rattle.bb8_core.proofs.Meets.{meets_shut}
use Rattle.bb8_core.proofs.Steps.{led, fits_view}
use Rattle.bb8_core.proofs.Rows.{at_view}
use Rattle.bb8_core.proofs.Closings.{shut_offers}
use Rattle.bb8_core.proofs.ClosesBelow.{all_below}
use Rattle.bb8_core.proofs.StepBounds.{bounded}
use Rattle.bb8_core.proofs.internals.PoolInternals.close_into.Goals as goal

pub returns-clause-step : goal.returns-clause-step
returns-clause-step g c = at_view c.self.view_is c.self.invariant.0 c.max-self-inside.ensures
    (meets_shut (fits_view acts.Close c.self.view_is c.requires) c.leave.ensures.many c.leave.ensures.state)

pub invariant_of-self : goal.invariant_of-self
invariant_of-self g c = (led _ c.args.at.0 acts.Close _ (returns-clause-step g c), record { age = c.self.invariant.1.age; closed = all_below 0 c.self.inside.retired refl })

pub returns-clause-closed : goal.returns-clause-closed
returns-clause-closed g c = shut_offers c.args.closed.now c.self.view_is c.self.invariant.0 c.leave.ensures.listed

pub returns-clause-bounds : goal.returns-clause-bounds
returns-clause-bounds g c = bounded _ c.args.at.0 acts.Close _ (returns-clause-step g c) c.self.view_is c.end.ensures (omega (arith)) (omega (arith))
