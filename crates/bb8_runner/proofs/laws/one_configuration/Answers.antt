use Rattle.bb8_runner.proofs.Configured.{settings_read, settings_spelled}
use Rattle.bb8_runner.specs.Grammar.{fields_of}
use Rattle.bb8_runner.proofs.laws.one_configuration.Goals as goal

pub returns : goal.returns
returns c = record { read = λ line s h. settings_read (fields_of line) s h; spelled = λ line s h. settings_spelled (fields_of line) s h }
