use Rattle.bb8_tables.proofs.Words.{view_of_gets, arith, nat_tests}
use Rattle.bb8_types.specs.declared.standing.GetPlace.TheVariants.{Holding}
use Rattle.bb8_tables.specs.Machine as machine
use Rattle.bb8_tables.proofs.GetPlaces.{born_good, born_view, begun_then}
use Rattle.bb8_tables.proofs.gets.Gets.bear_holding.Goals as goal

pub invariant_of-self : goal.invariant_of-self
invariant_of-self c =
    let i = c.insert-place in
    born_good _ c.self.invariant i.ensures.vacant i.ensures.within i.ensures.state i.ensures.room (rw (← c.self.view_is) at c.requires.room)

pub returns-clause-state : goal.returns-clause-state
returns-clause-state c =
    let i = c.insert-place in
    let waiting = (view_of_gets c.self.inside).waiting in
    let view = born_view _ c.self.invariant i.ensures.vacant i.ensures.within i.ensures.state i.ensures.room in
    grind (arith, nat_tests, view, begun_then (machine.getting_at (Holding c.args.held)) waiting (view_of_gets c.self.inside))
