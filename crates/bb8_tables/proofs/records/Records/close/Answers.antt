use Rattle.bb8_tables.proofs.Words.{◌∙◌, ap, arith, false, refl, nat_tests}
use Rattle.bb8_tables.specs.Machine as machine
use Rattle.bb8_tables.proofs.RecordPlaces.{lookups, closed_counted, close_good, close_view}
use Rattle.bb8_tables.proofs.records.Records.close.Goals as goal

pub overflow_sub-self : goal.overflow_sub-self
overflow_sub-self g c = grind (arith, nat_tests, lookups, closed_counted false _ c.self.invariant c.in-Some.ensures.some.1)

pub returns-clause-state : goal.returns-clause-state
returns-clause-state g c =
    let f = c.in-Some.ensures.some in
    close_view false _ c.self.invariant f.1 f.2 (grind (arith, nat_tests, lookups)) c.take_out.ensures.state _ c.self.inside.approved refl (omega arith)
    ∙ ap (machine.after_close false c.args.k.number) c.self.view_is

pub invariant_of-self : goal.invariant_of-self
invariant_of-self g c =
    let f = c.in-Some.ensures.some in
    close_good false _ c.self.invariant f.1 f.2 (grind (arith, nat_tests, lookups)) c.take_out.ensures.state refl (omega arith)
