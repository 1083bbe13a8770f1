use Rattle.bb8_tables.proofs.RecordPlaces.{unclaimed_end_good}
use Rattle.bb8_tables.proofs.records.Records.end_unclaimed.Goals as goal

pub invariant_of-self-2 : goal.invariant_of-self-2
invariant_of-self-2 g c = unclaimed_end_good c.self.invariant c.in-Some.ensures.value c.in-Some.ensures.items c.take_out.ensures.state
