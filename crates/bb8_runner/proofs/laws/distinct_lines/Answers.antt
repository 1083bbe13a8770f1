use Rattle.bb8_runner.proofs.Words.{own_line, same_event}
use Rattle.bb8_runner.proofs.laws.distinct_lines.Goals as goal

pub returns : goal.returns
returns c = record { own = λ e h. own_line e h; distinct = λ e f h g w. same_event e f h g w }
