use Rattle.bb8_runner.proofs.FirstLine.{cut_is}
use Rattle.bb8_runner.proofs.settings.cut.Goals as goal

pub returns : goal.returns
returns c = cut_is c.args.field.now c.split_once.result c.split_once.ensures.cases
