use Rattle.bb8_tables.proofs.Words.{ap, ◌∙◌, get_in_wait, arith, nat_tests}
use Rattle.bb8_tables.specs.Machine as machine
use Rattle.bb8_tables.proofs.TablePlaces.{stands_then}
use Rattle.bb8_tables.proofs.GetPlaces.{lookups, wait_absent, wait_good, wait_view}
use Rattle.bb8_tables.proofs.gets.Gets.wait.Goals as goal

pub line_up-requires-clause-stands : goal.line_up-requires-clause-stands
line_up-requires-clause-stands c = stands_then _ _ (get_in_wait c.args.now) c.in-Some.ensures.some.1 c.wait.ensures.changed

pub line_up-requires-clause-absent : goal.line_up-requires-clause-absent
line_up-requires-clause-absent c =
    rw (c.wait.ensures.changed c.in-Some.ensures.some.0 c.in-Some.ensures.some.1) (wait_absent _ c.self.invariant c.in-Some.ensures.some.1 (grind (arith, nat_tests, lookups)))

pub invariant_of-self : goal.invariant_of-self
invariant_of-self c = wait_good _ _ c.self.invariant c.in-Some.ensures.some.1 (grind (arith, nat_tests, lookups)) c.in-Some.ensures.some.2 c.wait.ensures.changed c.line_up.ensures

pub returns-clause-state : goal.returns-clause-state
returns-clause-state c =
    wait_view _ _ c.self.invariant c.in-Some.ensures.some.1 (grind (arith, nat_tests, lookups)) c.in-Some.ensures.some.2 c.wait.ensures.changed c.line_up.ensures
    ∙ ap (machine.after_wait c.args.now c.args.g.number) c.self.view_is
