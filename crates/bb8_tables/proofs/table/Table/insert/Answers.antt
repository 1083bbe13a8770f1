use Rattle.bb8_tables.proofs.Words.{◌≡◌, ◌-◌, Some, ap, arith, refl, Slot, TableView, ne_eqb, end_of_numbers}
use Rattle.bb8_tables.proofs.Tables
use Rattle.bb8_tables.proofs.table.Table.insert.Goals as goal

pub index_mut-requires : goal.index_mut-requires
index_mut-requires g c = Tables.taken_within c.self.inside c.self.invariant c.in-Some.place c.pop.new.self.items c.in-Some.ensures.items

pub invariant_of-self-in-Some : goal.invariant_of-self-in-Some
invariant_of-self-in-Some g c = Tables.taken_good c.self.inside c.self.invariant c.in-Some.place c.pop.new.self.items c.in-Some.ensures.items _ c.args.slot refl refl refl refl refl
    c.in-Some.ensures.capacity

pub returns-in-Some-clause-vacant : goal.returns-in-Some-clause-vacant
returns-in-Some-clause-vacant g c = Tables.taken_vacant c.self.inside c.self.invariant c.in-Some.place c.pop.new.self.items c.in-Some.ensures.items c.args.self.now c.self.view_is

pub returns-in-Some-clause-within : goal.returns-in-Some-clause-within
returns-in-Some-clause-within g c = omega (
  arith,
  Tables.taken_within c.self.inside c.self.invariant c.in-Some.place c.pop.new.self.items c.in-Some.ensures.items,
  Tables.size_seen c.self.inside c.self.invariant c.args.self.now c.self.view_is,
)

pub returns-in-Some-clause-state : goal.returns-in-Some-clause-state
returns-in-Some-clause-state g c =
    let slots = Tables.set_seen c.self.inside c.self.invariant c.args.self.now c.self.view_is c.in-Some.place c.args.slot (Some c.args.slot)
    (Tables.slot_taken c.args.slot (ne_eqb c.args.slot.number end_of_numbers (λ e. omega (arith, e, c.requires.number)))) in
    let free : c.pop.new.self.len ≡ c.args.self.now.free - 1 = omega (arith, c.in-Some.ensures.cases, ap (λ (t : TableView (Slot g.row.S.Denot)). t.free) c.self.view_is) in
    λ i. record { slots = slots i; line = (c.self.view_is i).line; births = (c.self.view_is i).births; free = free i }
