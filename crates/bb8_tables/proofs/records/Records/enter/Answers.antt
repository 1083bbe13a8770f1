use Rattle.bb8_tables.proofs.Words.{true, ap, sym, ◌∙◌, refl, arith, nat_tests, Idle}
use Rattle.bb8_tables.specs.Machine as machine
use Rattle.bb8_tables.proofs.TablePlaces.{named, stands_then}
use Rattle.bb8_tables.proofs.RecordPlaces.{lookups, enter_absent, opened_absent, lined, opened_counted, enter_good, enter_view}
use Rattle.bb8_tables.proofs.records.Records.enter.Goals as goal

pub line_up-requires-clause-stands : goal.line_up-requires-clause-stands
line_up-requires-clause-stands g c = stands_then _ _ (λ _. record { place = Idle c.args.conn; birth = c.args.now; entered = c.args.now }) c.at.ensures.value c.replace.ensures.changed

pub line_up-requires-clause-absent : goal.line_up-requires-clause-absent
line_up-requires-clause-absent g c =
    rw (c.replace.ensures.changed c.at.result.now c.at.ensures.value) (enter_absent true _ c.self.invariant c.at.ensures.value (sym c.is_claimed.ensures ∙ c.if-not-is_claimed.false))

pub add_birth-requires-clause-stands : goal.add_birth-requires-clause-stands
add_birth-requires-clause-stands g c =
    rw c.line_up.ensures (stands_then _ _ (λ _. record { place = Idle c.args.conn; birth = c.args.now; entered = c.args.now }) c.at.ensures.value c.replace.ensures.changed)

pub add_birth-requires-clause-absent : goal.add_birth-requires-clause-absent
add_birth-requires-clause-absent g c = rw (c.line_up.ensures, c.replace.ensures.changed c.at.result.now c.at.ensures.value)
    (opened_absent true _ c.self.invariant c.at.ensures.value (sym c.is_claimed.ensures ∙ c.if-not-is_claimed.false) refl)

pub overflow_sub-self : goal.overflow_sub-self
overflow_sub-self g c = opened_counted true _ c.self.invariant c.at.ensures.value (sym c.is_claimed.ensures ∙ c.if-not-is_claimed.false)

pub invariant_of-self : goal.invariant_of-self
invariant_of-self g c =
    let number = named c.in-Some.ensures.some.1 c.in-Some.ensures.some.2 c.at.ensures.value in
    enter_good true _ _ c.self.invariant c.at.ensures.value (sym c.is_claimed.ensures ∙ c.if-not-is_claimed.false) number refl c.replace.ensures.changed
    (lined _ _ c.line_up.ensures c.add_birth.ensures) refl refl (rw (← c.self.view_is) at c.requires) refl refl

pub returns-clause-ok : goal.returns-clause-ok
returns-clause-ok g c =
    let number = named c.in-Some.ensures.some.1 c.in-Some.ensures.some.2 c.at.ensures.value in (
      grind (arith, nat_tests, lookups),
      enter_view true _ _ c.self.invariant c.at.ensures.value (sym c.is_claimed.ensures ∙ c.if-not-is_claimed.false) number refl c.replace.ensures.changed
          (lined _ _ c.line_up.ensures c.add_birth.ensures) _ _ refl refl
          ∙ ap (machine.after_entry true c.args.k.number _) c.self.view_is,
    )
