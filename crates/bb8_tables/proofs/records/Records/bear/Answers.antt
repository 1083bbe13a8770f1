use Rattle.bb8_tables.proofs.RecordPlaces.{lined, born_good}
use Rattle.bb8_tables.proofs.records.Records.bear.Goals as goal

pub invariant_of-self : goal.invariant_of-self
invariant_of-self g c =
    let i = c.insert-place in
    born_good _ _ c.self.invariant i.ensures.vacant i.ensures.within i.ensures.state i.ensures.room (lined _ _ c.line_up.ensures c.add_birth.ensures)
    (rw (← c.self.view_is) at c.requires.room) (rw (← c.self.view_is) at c.requires.moments)
