use Rattle.bb8_core.proofs.Words.{arith, refl, view_of}
use Rattle.bb8_ledger.specs.Acts as acts
use Rattle.bb8_core.proofs.Fitting.{due_fits}
use Rattle.bb8_core.proofs.Meets.{meets_fill}
use Rattle.bb8_core.proofs.Steps.{led, grants}
use Rattle.bb8_core.proofs.Rows.{at_view}
use Rattle.bb8_core.proofs.StepBounds.{bounded}
use Rattle.bb8_core.proofs.internals.PoolInternals.fill.Goals as goal

pub grant-requires : goal.grant-requires
grant-requires g c = omega (arith, due_fits (view_of c.self.inside) {taken = c.self.inside.records} _ c.self.invariant.0 (omega arith) refl refl c.want-wanted.ensures)

pub returns-clause-step : goal.returns-clause-step
returns-clause-step g c = at_view c.self.view_is c.self.invariant.0 c.max-self-inside.ensures
    (meets_fill (grants refl c.want-wanted.ensures c.grant.ensures.granted c.grant.ensures.state))

pub invariant_of-self : goal.invariant_of-self
invariant_of-self g c = (led _ c.args.at.0 (acts.Fill c.args.claimed) _ (returns-clause-step g c), c.self.invariant.1)

pub returns-clause-bounds : goal.returns-clause-bounds
returns-clause-bounds g c = bounded _ c.args.at.0 (acts.Fill c.args.claimed) _ (returns-clause-step g c) c.self.view_is c.end.ensures (omega (arith)) (omega (arith))
