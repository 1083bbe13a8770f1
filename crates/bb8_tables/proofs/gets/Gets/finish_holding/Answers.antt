use Rattle.bb8_tables.proofs.Words.{ap, is_unnotified}
use Rattle.bb8_tables.proofs.GetPlaces.{end_counted, end_good, wait_absent}
use Rattle.bb8_tables.proofs.gets.Gets.finish_holding.Goals as goal

pub overflow_sub-self : goal.overflow_sub-self
overflow_sub-self c = end_counted _ c.self.invariant c.in-Some.ensures.some.1 c.in-Some.ensures.some.2 c.release.ensures.state

pub invariant_of-self : goal.invariant_of-self
invariant_of-self c = end_good _ c.self.invariant c.in-Some.ensures.some.1 c.in-Some.ensures.some.2 c.release.ensures.state

pub release-requires-clause-absent : goal.release-requires-clause-absent
release-requires-clause-absent c = wait_absent _ c.self.invariant c.at.ensures.value (ap is_unnotified c.in-Holding.is)
