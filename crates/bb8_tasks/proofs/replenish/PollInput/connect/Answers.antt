use Rattle.std.proofs.Common.{arith}
use Rattle.std.proofs.lemmas.Bool.Decides.{nat_tests}
use Rattle.bb8_tasks.proofs.replenish.PollInput.connect.Goals as goal

pub returns-in-Ready-Err : goal.returns-in-Ready-Err
returns-in-Ready-Err g c = grind (arith, nat_tests)
