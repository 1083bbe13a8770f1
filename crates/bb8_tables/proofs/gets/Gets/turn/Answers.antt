use Rattle.bb8_tables.proofs.Words.{◌∙◌, ap, arith, nat_tests}
use Rattle.bb8_tables.specs.Machine as machine
use Rattle.bb8_tables.proofs.GetPlaces.{lookups, turn_good, turn_view}
use Rattle.bb8_tables.proofs.gets.Gets.turn.Goals as goal

pub invariant_of-self : goal.invariant_of-self
invariant_of-self c = turn_good _ _ c.self.invariant c.in-Some.ensures.some.1 c.in-Some.ensures.some.2 (grind (arith, nat_tests, lookups)) c.turn.ensures.changed

pub returns-clause-state : goal.returns-clause-state
returns-clause-state c =
    turn_view _ _ c.self.invariant c.in-Some.ensures.some.1 c.in-Some.ensures.some.2 (grind (arith, nat_tests, lookups)) c.turn.ensures.changed
    ∙ ap (machine.after_turn c.args.place c.args.g.number) c.self.view_is
