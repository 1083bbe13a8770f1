use Rattle.bb8_tables.proofs.Words.{ap, arith, is_unnotified, nat_tests}
use Rattle.bb8_tables.proofs.TablePlaces.{named}
use Rattle.bb8_tables.proofs.GetPlaces.{lookups, turn_good, turn_view}
use Rattle.bb8_tables.proofs.gets.Gets.let_go.Goals as goal

pub invariant_of-self : goal.invariant_of-self
invariant_of-self c =
    let f = c.in-Some.ensures.some in
    turn_good _ _ c.self.invariant c.at.ensures.value (named f.1 f.2 c.at.ensures.value) (ap is_unnotified c.in-Holding.is) c.turn.ensures.changed

pub returns-in-Holding-clause-some : goal.returns-in-Holding-clause-some
returns-in-Holding-clause-some c =
    let number = named c.in-Some.ensures.some.1 c.in-Some.ensures.some.2 c.at.ensures.value in
    grind (arith, nat_tests, lookups, turn_view _ _ c.self.invariant c.at.ensures.value number (ap is_unnotified c.in-Holding.is) c.turn.ensures.changed)
