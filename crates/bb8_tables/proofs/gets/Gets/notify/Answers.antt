use Rattle.bb8_tables.proofs.Words.{slice_get, ap, ◌∙◌, GetsView}
use Rattle.bb8_tables.proofs.GetPlaces.{turned_stands, turned_first, notice_good, first_number}
use Rattle.bb8_tables.proofs.gets.Gets.notify.Goals as goal

pub leave-requires-clause-stands : goal.leave-requires-clause-stands
leave-requires-clause-stands c = turned_stands _ c.self.invariant c.in-Some.ensures c.turn-number.ensures.changed

pub leave-requires-clause-member : goal.leave-requires-clause-member
leave-requires-clause-member c = (0, turned_first _ c.self.invariant c.in-Some.ensures c.turn-number.ensures.changed)

pub invariant_of-self : goal.invariant_of-self
invariant_of-self c = notice_good c.self.invariant c.in-Some.ensures c.turn-number.ensures.number c.turn-number.ensures.changed c.leave.ensures

pub returns-clause-value : goal.returns-clause-value
returns-clause-value c =
    first_number c.self.invariant c.in-Some.ensures c.turn-number.ensures.number c.turn-number.ensures.changed c.leave.ensures ∙ ap (λ (s : GetsView). slice_get s.waiting 0) c.self.view_is
