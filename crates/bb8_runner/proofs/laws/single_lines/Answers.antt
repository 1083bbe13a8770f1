use Rattle.bb8_runner.proofs.Printed.{answer_line, state_line}
use Rattle.bb8_runner.proofs.laws.single_lines.Goals as goal

pub returns : goal.returns
returns c = record { answers = λ a. answer_line a; states = λ f. state_line f }
