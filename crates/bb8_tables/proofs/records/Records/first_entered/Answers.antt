use Rattle.bb8_tables.proofs.Words.{arith, nat_tests}
use Rattle.bb8_tables.proofs.RecordPlaces.{entered_first}
use Rattle.bb8_tables.proofs.records.Records.first_entered.Goals as goal

pub returns-in-Some-clause-some : goal.returns-in-Some-clause-some
returns-in-Some-clause-some g c k is = grind (arith, nat_tests, entered_first c.args.strategy c.self.invariant c.in-Some.ensures c.at.ensures.value k)
