use Rattle.bb8_runner.proofs.Speech.{◌≡◌, [], map, default_settings, settings_of}
use Rattle.bb8_runner.specs.Opening.{with_fields}
use Rattle.bb8_runner.proofs.FirstLine.{with_rest}
use Rattle.bb8_runner.proofs.settings.config_with.Given as goal

abbrev pub invariant-loop-i : goal.invariant-loop-i
invariant-loop-i l = with_rest l.fields l.i (settings_of l.config) ≡ with_fields [] default_settings (map (λ x. x.now) l.fields)
