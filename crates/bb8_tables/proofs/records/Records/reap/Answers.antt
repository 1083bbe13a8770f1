use Rattle.bb8_tables.proofs.Words.{arith, nat_tests}
use Rattle.bb8_tables.proofs.ReapWalks.{reaps_both}
use Rattle.bb8_tables.proofs.records.Records.reap.Goals as goal

pub returns-clause-ends : goal.returns-clause-ends
returns-clause-ends g c = grind (arith, nat_tests, reaps_both c.reap_aged-by_life.ensures.ends.1 c.reap_aged-by_life.ensures.none_left c.reap_idle-by_idle.ensures.ends.1)
