-- The view of a table in contracts: its entries, and the orders of some of them.
use Rattle.std.specs.Prelude.{◌≡◌, ◌+◌, ◌-◌, ℕ, List, Option, Some, None, get_or, set}
use Rattle.bb8_tables.specs.declared.table.Slot.{Slot}
use Rattle.bb8_tables.specs.Machine.{without}

-- The entries, the queue, the connections by birth, and the count of free entries.
pub record TableView (X : Type 0) : Type 0 where
  pub slots : List (Option X)
  pub line : List ℕ
  pub births : List ℕ
  pub free : ℕ

module _ {X : Type 0} where
  -- the entry at an index, None if it is free
  abbrev pub slot_at : TableView X → ℕ → Option X
  slot_at t place = get_or t.slots place None

  -- the table after a free entry was filled
  abbrev pub filled : ℕ → X → TableView X → TableView X
  filled place x t = record t { slots = set t.slots place (Some x); free = t.free - 1 }

  -- the table after an entry was freed: it is in no order
  abbrev pub freed : ℕ → TableView X → TableView X
  freed place t = record { slots = set t.slots place None; line = without place t.line; births = without place t.births; free = t.free + 1 }

-- whether the state at an index changed, and nothing else
abbrev pub Restands : {S : Type 0} → TableView (Slot S) → TableView (Slot S) → ℕ → (S → S) → Type 0
Restands {S} old new place f = (x : Slot S) → slot_at old place ≡ Some x → new ≡ record old { slots = set old.slots place (Some (record x { standing = f x.standing })) }
