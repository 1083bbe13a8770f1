use Rattle.bb8_runner.proofs.Speech.{◌∙◌, ap, map, option_map, fields_of, settings_of, settings_of_fields}
use Rattle.std.specs.Result.{result_ok}
use Rattle.bb8_runner.proofs.Configured.{no_settings}
use Rattle.bb8_runner.proofs.Texts.{ok_said}
use Rattle.bb8_runner.proofs.settings.config_of.Goals as goal

pub returns-in_default-clause-read : goal.returns-in_default-clause-read
returns-in_default-clause-read c = no_settings c.args.line.now c.in_default.ensures.cases.0

pub returns-clause-read : goal.returns-clause-read
returns-clause-read c =
    ap (option_map settings_of) c.ok.ensures.value ∙ ok_said settings_of c.config_of_fields.result
    ∙ ap result_ok (c.config_of_fields.ensures.read ∙ ap settings_of_fields (ap (map (λ x. x.now)) c.as_slice.ensures.value ∙ c.in_ok-fields.ensures ∙ ap fields_of c.in-Ok.ensures.cases.0))
