use Rattle.bb8_tasks.specs.Turns.{TakesOnEach}
use Rattle.bb8_tasks.proofs.claims.claim_each.Given as goal

abbrev pub invariant-loop : goal.invariant-loop
invariant-loop g l = TakesOnEach g.H.Home l.fn.at l.fn.tasks l.fn.home l.tasks l.home
