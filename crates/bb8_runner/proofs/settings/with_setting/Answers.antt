use Rattle.bb8_runner.proofs.Speech.{◌≡◌, None, found, rules, refl}
use Rattle.bb8_runner.specs.Opening.{settings_by, with_setting}
use Rattle.bb8_runner.proofs.settings.with_setting.Goals as goal

pub returns-in_default : goal.returns-in_default
unfolding with_setting
returns-in_default c = let none : found c.args.name.now (settings_by c.args.value.now) ≡ None = search rules in rw none refl
