use Rattle.std.proofs.Common.{refl}
use Rattle.bb8_ledger.specs.Acts as acts
use Rattle.bb8_core.proofs.Meets.{meets_look}
use Rattle.bb8_core.proofs.Steps.{led}
use Rattle.bb8_core.proofs.Rows.{at_view}
use Rattle.bb8_core.proofs.internals.PoolInternals.look.Goals as goal

pub returns-clause-step : goal.returns-clause-step
returns-clause-step g c = at_view c.self.view_is c.self.invariant.0 c.max-self-inside.ensures (meets_look refl)

pub invariant_of-self : goal.invariant_of-self
invariant_of-self g c = (led _ c.args.at.0 acts.Look _ (returns-clause-step g c), c.self.invariant.1)
