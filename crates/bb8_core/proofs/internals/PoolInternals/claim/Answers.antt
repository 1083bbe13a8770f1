use Rattle.bb8_ledger.specs.Acts as acts
use Rattle.bb8_core.proofs.Meets.{meets_claim, meets_claim_ended}
use Rattle.bb8_core.proofs.Steps.{led}
use Rattle.bb8_core.proofs.Rows.{at_view}
use Rattle.bb8_core.proofs.internals.PoolInternals.claim.Goals as goal

pub returns-then-self-eq0-clause-step : goal.returns-then-self-eq0-clause-step
returns-then-self-eq0-clause-step g c = at_view c.self.view_is c.self.invariant.0 c.max-self-inside.ensures (meets_claim_ended c.if-self-eq0.true)

pub invariant_of-self : goal.invariant_of-self
invariant_of-self g c = (led _ c.args.at.0 acts.Claim _ (returns-then-self-eq0-clause-step g c), c.self.invariant.1)

pub returns-clause-step : goal.returns-clause-step
returns-clause-step g c = at_view c.self.view_is c.self.invariant.0 c.max-self-inside.ensures
    (meets_claim c.claim-claimed.result c.if-self-eq0.false c.claim-claimed.ensures.some c.claim-claimed.ensures.none)

pub invariant_of-self-2 : goal.invariant_of-self-2
invariant_of-self-2 g c = (led _ c.args.at.0 acts.Claim _ (returns-clause-step g c), c.self.invariant.1)
