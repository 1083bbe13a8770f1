use Rattle.bb8_tables.proofs.Words.{◌≡◌, ◌+◌, None, ap, sym, ◌∙◌, refl, Slot, TableView, slot_in, without}
use Rattle.bb8_tables.proofs.Spelled.{without_absent}
use Rattle.bb8_tables.proofs.Tables
use Rattle.bb8_tables.proofs.table.Table.release.Goals as goal

pub push_reserved-requires : goal.push_reserved-requires
push_reserved-requires g c = Tables.ended_room c.self.inside c.self.invariant c.args.self.now c.self.view_is c.args.place c.requires.stands

pub invariant_of-self : goal.invariant_of-self
invariant_of-self g c = Tables.ended_good c.self.inside c.self.invariant c.args.self.now c.self.view_is c.args.place c.requires.stands _ c.replace.new.dest refl refl refl
    (rw c.unlink.ensures refl) (ap slot_in c.replace.ensures.after) c.push_reserved.ensures.items c.push_reserved.ensures.capacity

pub returns-clause-state : goal.returns-clause-state
returns-clause-state g c =
    let slots = Tables.set_seen c.self.inside c.self.invariant c.args.self.now c.self.view_is c.args.place c.replace.new.dest None (ap slot_in c.replace.ensures.after) in
    let line : c.self.inside.line.places ≡ without c.args.place c.args.self.now.line =
    ap (λ (t : TableView (Slot g.row.S.Denot)). t.line) c.self.view_is ∙ sym (without_absent c.args.place c.args.self.now.line c.requires.absent) in
    let births : c.unlink.new.self.places ≡ without c.args.place c.args.self.now.births =
    rw c.unlink.ensures (ap (λ (t : TableView (Slot g.row.S.Denot)). without c.args.place t.births) c.self.view_is) in
    let free : c.push_reserved.new.self.len ≡ c.args.self.now.free + 1 = c.push_reserved.ensures.len ∙ ap (λ (t : TableView (Slot g.row.S.Denot)). t.free + 1) c.self.view_is in
    λ i. record { slots = slots i; line = line i; births = births i; free = free i }
