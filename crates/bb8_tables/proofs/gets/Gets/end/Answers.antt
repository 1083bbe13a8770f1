use Rattle.bb8_tables.proofs.GetPlaces.{end_counted, end_good}
use Rattle.bb8_tables.proofs.gets.Gets.end.Goals as goal

pub overflow_sub-self : goal.overflow_sub-self
overflow_sub-self c = end_counted _ c.self.invariant c.in-Some.ensures.some.1 c.in-Some.ensures.some.2 c.take_out.ensures.state

pub invariant_of-self : goal.invariant_of-self
invariant_of-self c = end_good _ c.self.invariant c.in-Some.ensures.some.1 c.in-Some.ensures.some.2 c.take_out.ensures.state
