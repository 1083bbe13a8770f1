use Rattle.std.proofs.Common.{◌||◌, ltb}
use Rattle.bb8_tables.proofs.Words.{◌≡◌, ◌-◌, true, false, ap, sym, ◌∙◌, refl, arith, nat_tests, Holder, Place, Idle, is_out, birth_in}
use Rattle.bb8_tables.specs.Holders.{is_with}
use Rattle.bb8_tables.specs.Machine as machine
use Rattle.bb8_tables.proofs.TablePlaces.{named, stands_then}
use Rattle.bb8_tables.proofs.RecordPlaces.{shown_at, some_shown, moments, enter_absent, enter_good, enter_view}
use Rattle.bb8_tables.proofs.records.Records.put_back.Goals as goal

-- a connection with a holder is checked out
with_out : {C : Type 0} (h : Holder) (p : Place C) → is_with h p ≡ true → is_out p ≡ true
with_out h p e = grind (arith, nat_tests)

pub overflow_sub-older : goal.overflow_sub-older
overflow_sub-older g c = (moments _ c.self.invariant (rw (← c.self.view_is) at c.requires) c.at.ensures.value).0

pub line_up-requires-clause-stands : goal.line_up-requires-clause-stands
line_up-requires-clause-stands g c =
    stands_then _ _ (λ _. record { place = Idle c.args.conn; birth = c.at.result.now.standing.birth; entered = c.args.now }) c.at.ensures.value c.replace.ensures.changed

pub line_up-requires-clause-absent : goal.line_up-requires-clause-absent
line_up-requires-clause-absent g c = rw (c.replace.ensures.changed c.at.result.now c.at.ensures.value)
    (enter_absent false _ c.self.invariant c.at.ensures.value (with_out c.args.holder _ (sym c.is_with.ensures ∙ c.if-not-is_with.false)))

pub invariant_of-self : goal.invariant_of-self
invariant_of-self g c =
    let number = named c.in-Some.ensures.some.1 c.in-Some.ensures.some.2 c.at.ensures.value in
    enter_good false _ _ c.self.invariant c.at.ensures.value (with_out c.args.holder _ (sym c.is_with.ensures ∙ c.if-not-is_with.false)) number refl c.replace.ensures.changed c.line_up.ensures
    (omega arith) (omega arith) (rw (← c.self.view_is) at c.requires) refl (sym (ap birth_in (shown_at _ c.self.invariant c.at.ensures.value number)))

pub returns-clause-ok : goal.returns-clause-ok
returns-clause-ok g c =
    let number = named c.in-Some.ensures.some.1 c.in-Some.ensures.some.2 c.at.ensures.value in
    let born = ap birth_in (some_shown c.self.inside c.args.k.number c.in-Some.place c.at.result.now c.args.self.now c.self.invariant c.self.view_is c.at.ensures.value number) in (
      ap (λ n. c.args.broken || (ltb c.args.max_age (c.args.now - n) || c.args.ended)) born
          ∙ sym c.is_closing.ensures ∙ c.if-is_closing.false,
      enter_view false _ _ c.self.invariant c.at.ensures.value (with_out c.args.holder _ (sym c.is_with.ensures ∙ c.if-not-is_with.false)) number refl c.replace.ensures.changed c.line_up.ensures
          c.self.inside.conns c.self.inside.approved (omega arith) (omega arith)
          ∙ ap (machine.after_entry false c.args.k.number _) c.self.view_is
          ∙ ap (λ n. machine.after_entry false c.args.k.number (record { place = Idle c.args.conn; birth = n; entered = c.args.now }) c.args.self.now) (sym born),
    )
