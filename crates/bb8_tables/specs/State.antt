-- The meaning of the fields of the tables, and their invariants.
use Rattle.std.specs.Prelude.{◌≡◌, ℕ, ◌+◌, ◌≤◌, List, map, Option, Some, None, is_some, Bool, false}
use Rattle.bb8_types.specs.declared.standing.Place.{Place}
use Rattle.bb8_tables.specs.declared.keys.Key.{Key}
use Rattle.bb8_types.specs.declared.standing.Standing.{Standing}
use Rattle.bb8_types.specs.declared.standing.Getting.{Getting}
use Rattle.bb8_tables.specs.declared.table.Slot.{Slot}
use Rattle.bb8_tables.specs.declared.records.Records.TheInside.{Inside as RecordsInside}
use Rattle.bb8_tables.specs.declared.gets.Gets.TheInside.{Inside as GetsInside}
use Rattle.bb8_types.specs.Places.{is_idle, is_unclaimed, is_conn, is_approval, is_unnotified}
use Rattle.bb8_types.specs.Numbered.{tally}
use Rattle.bb8_tables.specs.Views.{RecordsView, GetsView}
use Rattle.bb8_tables.specs.Slots.{values_at, IsLine, IsTable, ArePlaces, IsOrder, numbers_at}
use Rattle.bb8_types.specs.Bounds.{most_records}

-- the counts of records, and the memory for them
pub record AreSized (free unclaimed_room conns approved peak : ℕ) : Type 0 where
  pub peak_holds : conns + approved ≤ peak
  pub peak_few : peak ≤ most_records
  pub room_holds : peak ≤ conns + approved + free
  pub unclaimed_room_holds : peak ≤ unclaimed_room

-- the counts of gets, and the memory for them
pub record AreGetsSized (places free alive peak next : ℕ) : Type 0 where
  pub places_are : places ≡ alive
  pub peak_holds : alive ≤ peak
  pub alive_few : alive ≤ next
  pub room_holds : peak ≤ alive + free

module _ {C : Type 0} where
  -- the view of the records' fields
  abbrev pub view_of_records : RecordsInside C → RecordsView C
  view_of_records a = record {
    next = a.next;
    places = values_at (λ (x : Slot (Standing C)). x.number) (λ x. x.standing) a.slots.slots;
    idle = numbers_at (λ (x : Slot (Standing C)). x.number) a.slots.slots a.slots.line;
    unclaimed = map (λ k. k.number) a.unclaimed.items;
    conns = a.conns;
    approved = a.approved;
    peak = a.peak;
  }

  -- whether the keys are those of records that pass a test
  abbrev pub IsLineOf : (Place C → Bool) → List (Option (Slot (Standing C))) → List Key → Type 0
  IsLineOf test = IsLine (λ (x : Slot (Standing C)). x.number) (λ x. test x.standing.place) (λ (k : Key). k.number) (λ k. k.place)

  -- whether these are the indexes of all records that pass a test, ordered by a moment
  abbrev pub IsOrderOf : (Place C → Bool) → (Standing C → ℕ) → List (Option (Slot (Standing C))) → List ℕ → Type 0
  IsOrderOf test moment = IsOrder (λ (x : Slot (Standing C)). test x.standing.place) (λ x. moment x.standing)

  -- whether an entry has a record that passes a test
  abbrev pub passes : (Place C → Bool) → Option (Slot (Standing C)) → Bool
  passes test None = false
  passes test (Some x) = test x.standing.place

  -- the invariant: numbers are distinct and given, the orders and the queue are complete, and the
  -- counters agree
  pub record AreGoodRecords (a : RecordsInside C) : Type 0 where
    pub table : IsTable (λ (x : Slot (Standing C)). x.number) a.slots.slots a.next
    pub idle : IsOrderOf is_idle (λ s. s.entered) a.slots.slots a.slots.line
    pub births : IsOrderOf is_conn (λ s. s.birth) a.slots.slots a.slots.births
    pub unclaimed : IsLineOf is_unclaimed a.slots.slots a.unclaimed.items
    pub conns_are : tally (passes is_conn) a.slots.slots ≡ a.conns
    pub approved_are : tally (passes is_approval) a.slots.slots ≡ a.approved
    pub sizes : AreSized a.slots.free a.unclaimed.capacity a.conns a.approved a.peak

-- the view of the gets' fields
abbrev pub view_of_gets : GetsInside → GetsView
view_of_gets a = record {
  next = a.next;
  places = values_at (λ (x : Slot Getting). x.number) (λ x. x.standing) a.slots.slots;
  waiting = numbers_at (λ (x : Slot Getting). x.number) a.slots.slots a.slots.line;
  alive = a.alive;
  peak = a.peak;
}

-- whether these are indexes of gets that wait and were not notified
abbrev pub AreWaitingPlaces : List (Option (Slot Getting)) → List ℕ → Type 0
AreWaitingPlaces = ArePlaces (λ (x : Slot Getting). is_unnotified x.standing.place)

-- the invariant: numbers are distinct and given, the queue leads to waiters, and the counters agree
pub record AreGoodGets (a : GetsInside) : Type 0 where
  pub table : IsTable (λ (x : Slot Getting). x.number) a.slots.slots a.next
  pub waiting : AreWaitingPlaces a.slots.slots a.slots.line
  pub sizes : AreGetsSized (tally is_some a.slots.slots) a.slots.free a.alive a.peak a.next
