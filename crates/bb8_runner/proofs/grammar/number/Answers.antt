use Rattle.std.proofs.Common.{sym, ◌∙◌, ap, get_or, arith, length, ℕ, length-take, length-drop}
use Rattle.bb8_runner.proofs.Numbers.{nothing, no_sign, zero_first, reads_plain, number_is}
use Rattle.bb8_runner.proofs.grammar.number.Goals as goal

pub returns-in_default : goal.returns-in_default
returns-in_default c = number_is c.args.field.now _ (nothing c.args.field.now (omega (arith, ap length c.as_bytes.ensures.value)))

pub returns-then-first-eq43 : goal.returns-then-first-eq43
returns-then-first-eq43 c =
    let e = c.as_bytes.ensures.value in
    number_is c.args.field.now _ (no_sign c.args.field.now (ap (λ x. get_or x 0 0) (sym e) ∙ c.if-first-eq43.true))

pub returns-then-first-eq48 : goal.returns-then-first-eq48
returns-then-first-eq48 c =
    let e = c.as_bytes.ensures.value in
    c.then_some.ensures ∙ number_is c.args.field.now _
    (zero_first c.args.field.now _ c.is_empty.result c.is_empty.ensures
    (omega (arith, ap length e, length-take {A = ℕ}, length-drop {A = ℕ})) (ap (λ x. get_or x 0 0) (sym e) ∙ c.if-first-eq48.true))

pub returns : goal.returns
returns c =
    let e = ap (λ x. get_or x 0 0) (sym c.as_bytes.ensures.value) in
    c.ok.ensures.value ∙ number_is c.args.field.now _
    (reads_plain c.args.field.now c.parse.result c.parse.ensures.value.0 (λ w. c.if-first-eq43.false (sym e ∙ w))
    (λ w. c.if-first-eq48.false (sym e ∙ w)))
