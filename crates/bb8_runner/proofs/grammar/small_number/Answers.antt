use Rattle.std.proofs.Common.{◌∙◌}
use Rattle.bb8_runner.proofs.Numbers.{small_none, small_some}
use Rattle.bb8_runner.proofs.grammar.small_number.Goals as goal

pub returns-in_err-number : goal.returns-in_err-number
returns-in_err-number c = c.from_residual.ensures ∙ small_none c.args.field.now c.in_err-number.ensures

pub returns : goal.returns
returns c = c.ok.ensures.value ∙ small_some c.args.field.now c.in_ok-number.field-0 c.try_from.result c.in_ok-number.ensures c.try_from.ensures
