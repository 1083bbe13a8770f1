use Rattle.bb8_tables.proofs.Words.{arith, nat_tests}
use Rattle.bb8_tables.proofs.GetPlaces.{born_good, born_view}
use Rattle.bb8_tables.proofs.gets.Gets.bear.Goals as goal

pub invariant_of-self : goal.invariant_of-self
invariant_of-self c =
    let i = c.insert-place in
    born_good _ c.self.invariant i.ensures.vacant i.ensures.within i.ensures.state i.ensures.room (rw (← c.self.view_is) at c.requires.room)

pub returns-clause-state : goal.returns-clause-state
returns-clause-state c = let i = c.insert-place in grind (arith, nat_tests, born_view _ c.self.invariant i.ensures.vacant i.ensures.within i.ensures.state i.ensures.room)
