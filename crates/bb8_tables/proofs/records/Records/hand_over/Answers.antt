use Rattle.bb8_tables.proofs.Words.{◌∙◌, ap, arith, nat_tests}
use Rattle.bb8_tables.specs.Machine as machine
use Rattle.bb8_tables.proofs.RecordPlaces.{lookups, handover_good, handover_view}
use Rattle.bb8_tables.proofs.records.Records.hand_over.Goals as goal

pub returns-clause-state : goal.returns-clause-state
returns-clause-state g c =
    handover_view _ c.self.invariant c.in-Some.ensures.some.1 c.in-Some.ensures.some.2 (grind (arith, nat_tests, lookups)) c.put.ensures.changed
    ∙ ap (machine.after_handover c.args.k.number) c.self.view_is

pub invariant_of-self : goal.invariant_of-self
invariant_of-self g c = handover_good _ c.self.invariant c.in-Some.ensures.some.1 c.in-Some.ensures.some.2 (grind (arith, nat_tests, lookups)) c.put.ensures.changed
