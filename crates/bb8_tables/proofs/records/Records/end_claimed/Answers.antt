use Rattle.bb8_tables.proofs.Words.{true, ◌-◌, arith, ap, sym, ◌∙◌, refl, nat_tests}
use Rattle.bb8_tables.specs.Machine as machine
use Rattle.bb8_tables.proofs.TablePlaces.{named}
use Rattle.bb8_tables.proofs.RecordPlaces.{lookups, opened_counted, close_good, close_view}
use Rattle.bb8_tables.proofs.records.Records.end_claimed.Goals as goal

pub overflow_sub-self : goal.overflow_sub-self
overflow_sub-self g c = opened_counted true _ c.self.invariant c.at.ensures.value (sym c.is_claimed.ensures ∙ c.if-not-is_claimed.false)

pub invariant_of-self : goal.invariant_of-self
invariant_of-self g c =
    let f = c.in-Some.ensures.some in
    close_good true _ c.self.invariant c.at.ensures.value (named f.1 f.2 c.at.ensures.value) (sym c.is_claimed.ensures ∙ c.if-not-is_claimed.false) c.take_out.ensures.state (omega arith) refl

pub returns-clause-ended : goal.returns-clause-ended
returns-clause-ended g c = λ yes.
    let number = named c.in-Some.ensures.some.1 c.in-Some.ensures.some.2 c.at.ensures.value in (
      grind (arith, nat_tests, lookups),
      close_view true _ c.self.invariant c.at.ensures.value number (sym c.is_claimed.ensures ∙ c.if-not-is_claimed.false) c.take_out.ensures.state
          c.self.inside.conns (c.self.inside.approved - 1) (omega arith) refl
          ∙ ap (machine.after_close true c.args.k.number) c.self.view_is,
    )
