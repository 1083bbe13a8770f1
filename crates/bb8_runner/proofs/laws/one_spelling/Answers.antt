use Rattle.bb8_runner.proofs.Spelled.{event_read, event_spelled}
use Rattle.bb8_runner.specs.Grammar.{fields_of}
use Rattle.bb8_runner.proofs.laws.one_spelling.Goals as goal

pub returns : goal.returns
returns c = record { read = λ line e h. event_read (fields_of line) e h; spelled = λ line e h. event_spelled (fields_of line) e h }
