use Rattle.std.proofs.Common.{◌∙◌, ap, map}
use Rattle.std.specs.Result.{result_ok}
use Rattle.bb8_runner.specs.Grammar.{event_of_fields, fields_of}
use Rattle.bb8_runner.proofs.Texts.{ok_same}
use Rattle.bb8_runner.proofs.Words.{no_event}
use Rattle.bb8_runner.proofs.grammar.event_of.Goals as goal

pub returns-in_default : goal.returns-in_default
returns-in_default c = no_event c.args.line.now c.in_default.ensures.cases.0

pub returns : goal.returns
returns c =
    c.ok.ensures.value ∙ ok_same c.event_of_fields.result
    ∙ ap result_ok (c.event_of_fields.ensures ∙ ap event_of_fields (ap (map (λ x. x.now)) c.as_slice.ensures.value ∙ c.in_ok-fields.ensures ∙ ap fields_of c.in-Ok.ensures.cases.0))
