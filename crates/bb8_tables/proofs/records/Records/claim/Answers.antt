use Rattle.bb8_tables.proofs.RecordPlaces.{claim_good}
use Rattle.bb8_tables.proofs.records.Records.claim.Goals as goal

pub invariant_of-self-2 : goal.invariant_of-self-2
invariant_of-self-2 g c = claim_good c.self.invariant c.in-Some.ensures.value c.in-Some.ensures.items c.put.ensures.changed
