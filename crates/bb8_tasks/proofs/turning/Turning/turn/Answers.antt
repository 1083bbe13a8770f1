use Rattle.std.proofs.lemmas.Bool.Decides.{nat_tests}
use Rattle.std.proofs.Common.{arith}
use Rattle.bb8_tasks.proofs.turning.Turning.turn.Goals as goal

pub returns-then-claim_each-clause-table : goal.returns-then-claim_each-clause-table
returns-then-claim_each-clause-table g c = grind (arith, nat_tests)

pub returns-clause-table : goal.returns-clause-table
returns-clause-table g c = grind (arith, nat_tests)
