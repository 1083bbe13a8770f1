-- The view of a table's fields, and their invariant.
use Rattle.std.specs.Prelude.{◌≡◌, ◌<◌, ◌≤◌, ℕ, cond, eqb, List, [], ◌∷◌, map, length, Option, Some, None, get_or, vec_capacity}
use Rattle.bb8_types.specs.Bounds.{end_of_numbers}
use Rattle.bb8_tables.specs.declared.table.Slot.{Slot}
use Rattle.bb8_tables.specs.declared.table.Table.TheInside.{Inside}
use Rattle.bb8_tables.specs.TableView.{TableView}
use Rattle.bb8_tables.specs.Ordered.{most_places}
use Rattle.bb8_tables.specs.Spelled.{Absent}

-- whether these indexes are free, not 0, and distinct
abbrev pub AreFree : {X : Type 0} → List (Option X) → List ℕ → Type 0
AreFree slots [] = Unit {0}
AreFree slots (p ∷ ps) = (0 < p) × (p < length slots) × (get_or slots p None ≡ None) × Absent p ps × AreFree slots ps

module _ {S : Type 0} where
  -- the entry in a slot; the number that is never given marks a free one
  abbrev pub slot_in : Slot S → Option (Slot S)
  slot_in x = cond (eqb x.number end_of_numbers) None (Some x)

  abbrev pub slots_of : List (Slot S) → List (Option (Slot S))
  slots_of xs = map slot_in xs

  -- the view of a table's fields
  abbrev pub view_of_table : Inside S → TableView (Slot S)
  view_of_table a = record { slots = slots_of a.slots.items; line = a.line.places; births = a.births.places; free = a.free.len }

  -- the invariant: both orders cover all indexes, index 0 is unused, and the stack of free indexes
  -- has room for each index
  pub record IsGoodTable (a : Inside S) : Type 0 where
    pub line : a.slots.len ≤ a.line.size
    pub births : a.slots.len ≤ a.births.size
    pub first : get_or (slots_of a.slots.items) 0 None ≡ None
    pub free : AreFree (slots_of a.slots.items) a.free.items
    pub room : a.slots.len ≤ vec_capacity a.free
    pub few : a.slots.len ≤ most_places
