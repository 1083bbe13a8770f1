use Rattle.bb8_runner.proofs.Messages.{not_text}
use Rattle.bb8_runner.proofs.errors.printable.Goals as goal

pub returns-in_default : goal.returns-in_default
returns-in_default c = not_text c.args.line.now c.in_default.ensures.cases.0
