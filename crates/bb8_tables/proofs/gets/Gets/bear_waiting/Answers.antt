use Rattle.bb8_tables.proofs.Words.{ap, ◌∙◌, refl, [], ◌∷◌, ◌++◌, GetsView, view_of_gets}
use Rattle.bb8_tables.specs.Machine as machine
use Rattle.bb8_tables.proofs.GetPlaces.{born_stands, born_absent, queued_good, queued_view, begun_then}
use Rattle.bb8_tables.proofs.gets.Gets.bear_waiting.Goals as goal

pub line_up-requires-clause-stands : goal.line_up-requires-clause-stands
line_up-requires-clause-stands c = let i = c.insert-place in born_stands _ c.self.invariant i.ensures.vacant i.ensures.within i.ensures.state i.ensures.room

pub line_up-requires-clause-absent : goal.line_up-requires-clause-absent
line_up-requires-clause-absent c = let i = c.insert-place in born_absent _ c.self.invariant i.ensures.vacant i.ensures.within i.ensures.state i.ensures.room

pub invariant_of-self : goal.invariant_of-self
invariant_of-self c =
    let i = c.insert-place in
    queued_good _ c.self.invariant i.ensures.vacant i.ensures.within i.ensures.state i.ensures.room c.line_up.ensures (rw (← c.self.view_is) at c.requires.room) refl

pub returns-clause-state : goal.returns-clause-state
returns-clause-state c =
    let i = c.insert-place in
    queued_view _ c.self.invariant i.ensures.vacant i.ensures.within i.ensures.state i.ensures.room c.line_up.ensures (rw (← c.self.view_is) at c.requires.room)
    ∙ begun_then (machine.getting_since c.args.now) ((view_of_gets c.self.inside).waiting ++ c.self.inside.next ∷ []) (view_of_gets c.self.inside)
    ∙ ap (λ (s : GetsView). machine.after_wait c.args.now s.next (machine.after_begin s)) c.self.view_is
