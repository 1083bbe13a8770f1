-- The code's side of each change of the gets: what it does to the fields, seen in what they mean.
use Rattle.bb8_tables.proofs.Words.{◌≡◌, ◌≢◌, ℕ, List, ◌+◌, ◌-◌, ◌<◌, ◌≤◌, Bool, true, false, [], ◌∷◌, ◌++◌, length, set, slice_get, arith, Option, Some, None, is_some, IsSome, refl, sym, ap, ◌∙◌, get, tally, one, TableView, slot_at, filled, freed, Restands, Absent, GetPlace, Active, Waiting, Getting, Slot, is_unnotified, get_in_wait, get_with_place, GetsView, IsTable, view_of_gets, AreGoodGets, AreWaitingPlaces, removed_inserted, inserted_again, insert, max, FinMap, nat_cmp, nat_tests}
use Rattle.bb8_tables.specs.declared.gets.Gets.TheInside.{Inside}
use Rattle.bb8_tables.specs.Machine as machine
use Rattle.bb8_tables.proofs.Slots.{Updates, set_at, set_within, tally_set, tally_at, table_set, table_added, table_removed, table_kept}
use Rattle.bb8_tables.proofs.Lines.{other_line, turned_line, same_line, places_without, places_absent}
use Rattle.bb8_tables.proofs.Numbers.{numbers_all, numbers_fresh}
use Rattle.bb8_tables.proofs.Views.{same_gets}
use Rattle.bb8_tables.proofs.Slots
use Rattle.bb8_tables.proofs.TablePlaces
use Rattle.bb8_tables.proofs.TablePlaces.{numbered, stands_then, number_at, no_number_at, set_shown, set_line, set_pushed, stands_within, line_without, cleared_shown, cleared_line, added_shown, added_pushed}

pub shown_at : {a : Inside} (i : ℕ) {q : ℕ} {x : Slot Getting} → AreGoodGets a → slot_at a.slots i ≡ Some x → x.number ≡ q → get (view_of_gets a).places q ≡ Some x.standing
shown_at i {q} good e same = TablePlaces.shown_at q i good.table e same

-- a look-up that finds nothing, or a slot
pub none_shown : (a : Inside) (q : ℕ) (s : GetsView) → view_of_gets a ≡ s → ((i : ℕ) (x : Slot Getting) → slot_at a.slots i ≡ Some x → x.number ≢ q) → get s.places q ≡ None
none_shown a q s is none = ap (λ (t : GetsView). get t.places q) (sym is) ∙ Slots.held_absent numbered (λ x. x.standing) a.slots.slots q none

pub some_shown : (a : Inside) (q i : ℕ) (x : Slot Getting) (s : GetsView) → AreGoodGets a → view_of_gets a ≡ s → slot_at a.slots i ≡ Some x → x.number ≡ q → get s.places q ≡ Some x.standing
some_shown a q i x s good is e same = ap (λ (t : GetsView). get t.places q) (sym is) ∙ shown_at i good e same

-- Good gets are good after one place has changed, where the line and the count are right again.
changed_good : {a : Inside} {next alive place : ℕ} {slots : TableView (Slot Getting)} {was is : Option (Slot Getting)} (m n : Bool) → AreGoodGets a → slot_at a.slots place ≡ was
    → Updates a.slots.slots slots.slots place is
    → is_some was ≡ m → is_some is ≡ n → alive + one m ≡ a.alive + one n → alive + slots.free ≡ a.alive + a.slots.free → alive ≤ a.peak → alive ≤ next
    → IsTable numbered slots.slots next → AreWaitingPlaces slots.slots slots.line → AreGoodGets (record { next = next; slots = slots; alive = alive; peak = a.peak })
changed_good {a} {slots = slots} m n good at_place u m_is n_is alive_sum sum few alive_few table waiting =
    let z = good.sizes in
    let t : tally is_some slots.slots + one m ≡ a.alive + one n = tally_set is_some refl m n z.places_are at_place u m_is n_is in
    record { table = table; waiting = waiting; sizes = record { places_are = omega arith; peak_holds = few; alive_few = alive_few; room_holds = omega (arith, z.room_holds) } }

-- ---- other memory

-- each index has the same
module _ {a : Inside} (slots : TableView (Slot Getting)) (peak : ℕ) (good : AreGoodGets a) (kept : (i : ℕ) → slot_at slots i ≡ slot_at a.slots i) (line_is : slots.line ≡ a.slots.line) where
  pub kept_good : a.alive ≤ peak → peak ≤ a.alive + slots.free → AreGoodGets (record a { slots = slots; peak = peak })
  kept_good few room = grind (arith, table_kept good.table kept, same_line good.waiting kept, Slots.tally_same is_some refl a.slots.slots slots.slots kept)

  pub kept_view : view_of_gets (record a { slots = slots; peak = peak }) ≡ record (view_of_gets a) { peak = peak }
  kept_view = grind (arith, same_gets, Slots.held_same, numbers_all numbered a.slots.slots slots.slots a.slots.line kept)

-- ---- begin

-- with the next get in this state, and this queue
abbrev with_born : Getting → List ℕ → GetsView → GetsView
with_born s waiting v = record v { next = v.next + 1; places = insert v.places v.next s; waiting = waiting; alive = v.alive + 1; peak = max v.peak (v.alive + 1) }

-- a new get at a free place, in this state
module _ {a : Inside} {place : ℕ} (s : Getting) {slots : TableView (Slot Getting)} (good : AreGoodGets a) (free : slot_at a.slots place ≡ None) (within : place < length a.slots.slots)
    (takes : slots ≡ filled place (record { number = a.next; standing = s }) a.slots) (room : slots.free + 1 ≡ a.slots.free) where
  abbrev born : Slot Getting
  born = record { number = a.next; standing = s }

  grown_good : (line : List ℕ) → a.alive < a.peak → AreWaitingPlaces (set a.slots.slots place (Some born)) line
      → AreGoodGets (record a { next = a.next + 1; slots = record slots { line = line }; alive = a.alive + 1 })
  grown_good line few waiting =
      let u = set_within a.slots.slots place (Some born) within in
      let r : (a.slots.free - 1) + 1 ≡ a.slots.free = rw takes at room in
      rw takes (changed_good false true good free u refl refl (omega arith) (omega arith) (omega arith) (omega (arith, good.sizes.alive_few)) (table_added good.table refl u) waiting)

  -- in no queue
  pub born_good : a.alive < a.peak → AreGoodGets (record a { next = a.next + 1; slots = slots; alive = a.alive + 1 })
  born_good few = rw takes (rw takes at (grown_good a.slots.line few (other_line good.waiting free refl (set_within a.slots.slots place (Some born) within))))

  pub born_view : a.alive < a.peak → view_of_gets (record a { next = a.next + 1; slots = slots; alive = a.alive + 1 }) ≡ with_born s (view_of_gets a).waiting (view_of_gets a)
  born_view few = rw takes (same_gets _ _ refl
      (added_shown a.slots.slots a.next place s free within good.table) (TablePlaces.added_line a.slots.slots a.next place s free within a.slots.line good.waiting)
      refl (omega arith))

  -- at the back of the queue
  pub born_stands : IsSome (slot_at slots place)
  born_stands = rw takes (stands_within a.slots.slots place born within)

  pub born_absent : Absent place slots.line
  born_absent = rw takes (places_absent place good.waiting free refl)

  module _ {queued : TableView (Slot Getting)} (in_line : queued ≡ record slots { line = slots.line ++ place ∷ [] }) where
    pub queued_good : a.alive < a.peak → is_unnotified s.place ≡ true → AreGoodGets (record a { next = a.next + 1; slots = queued; alive = a.alive + 1 })
    queued_good few on =
        rw (in_line, takes) (rw takes at (grown_good (a.slots.line ++ place ∷ []) few (turned_line good.waiting place free refl (set_within a.slots.slots place (Some born) within) refl on)))

    pub queued_view : a.alive < a.peak → view_of_gets (record a { next = a.next + 1; slots = queued; alive = a.alive + 1 }) ≡ with_born s ((view_of_gets a).waiting ++ a.next ∷ []) (view_of_gets a)
    queued_view few =
        grind (arith, nat_tests, same_gets, added_shown a.slots.slots a.next place s free within good.table, added_pushed a.slots.slots a.next place s free within a.slots.line good.waiting)

-- which is a begin, and then the change to this state
pub begun_then : (f : Option Getting → Getting) (waiting : List ℕ) (v : GetsView) → with_born (f (Some (record { place = Active; first_wait = None }))) waiting v
    ≡ record (machine.after_begin v) { places = insert (machine.after_begin v).places v.next (f (get (machine.after_begin v).places v.next)); waiting = waiting }
begun_then f waiting v =
    ap (λ (m : FinMap nat_cmp Getting). record (machine.after_begin v) { places = m; waiting = waiting }) (inserted_again v.places v.next f (record { place = Active; first_wait = None }))

-- ---- begin and end at once

-- a get that begins and ends at once leaves its number behind
module _ {a : Inside} (good : AreGoodGets a) where
  next_absent : (i : ℕ) (x : Slot Getting) → slot_at a.slots i ≡ Some x → x.number ≢ a.next
  next_absent i x e same = omega (arith, good.table.below i x e)

  pub pass_good : AreGoodGets (record a { next = a.next + 1 })
  pass_good = grind arith

  pub pass_view : a.alive < a.peak → view_of_gets (record a { next = a.next + 1 }) ≡ machine.after_get_end a.next (machine.after_begin (view_of_gets a))
  pass_view few = grind (arith, same_gets, removed_inserted, Slots.held_absent, next_absent, numbers_fresh numbered a.slots.slots a.slots.line a.next good.waiting next_absent)

-- ---- wait

-- a get in no queue begins to wait
module _ {a : Inside} (now place : ℕ) {q : ℕ} {x : Slot Getting} {mid slots : TableView (Slot Getting)} (good : AreGoodGets a)
    (at_place : slot_at a.slots place ≡ Some x) (off : is_unnotified x.standing.place ≡ false) (number_is : x.number ≡ q)
    (sets : Restands a.slots mid place (get_in_wait now)) (in_line : slots ≡ record mid { line = mid.line ++ place ∷ [] }) where
  pub wait_good : AreGoodGets (record a { slots = slots })
  wait_good =
      let u = set_at a.slots.slots place x (Some (record x { standing = get_in_wait now x.standing })) at_place in
      rw (in_line, sets x at_place) (changed_good true true good at_place u refl refl refl refl good.sizes.peak_holds good.sizes.alive_few (table_set good.table at_place refl u)
      (turned_line good.waiting place at_place off u refl refl))

  pub wait_view : view_of_gets (record a { slots = slots }) ≡ machine.after_wait now q (view_of_gets a)
  wait_view = rw (in_line, sets x at_place) (same_gets _ _ refl
      (set_shown q place good.table at_place number_is (machine.getting_since now)) (set_pushed q place good.table at_place number_is (get_in_wait now x.standing) a.slots.line)
      refl refl)

-- who does not wait, or was notified, is not in line
pub wait_absent : {a : Inside} (place : ℕ) {x : Slot Getting} → AreGoodGets a → slot_at a.slots place ≡ Some x → is_unnotified x.standing.place ≡ false → Absent place a.slots.line
wait_absent place good at_place off = places_absent place good.waiting at_place off

-- ---- turn

-- a get in no queue changes its state
module _ {a : Inside} (place : ℕ) {q : ℕ} (p : GetPlace) {x : Slot Getting} {slots : TableView (Slot Getting)} (good : AreGoodGets a)
    (at_place : slot_at a.slots place ≡ Some x) (number_is : x.number ≡ q) (off : is_unnotified x.standing.place ≡ false)
    (sets : Restands a.slots slots place (get_with_place p)) where
  pub turn_good : AreGoodGets (record a { slots = slots })
  turn_good =
      let u = set_at a.slots.slots place x (Some (record x { standing = get_with_place p x.standing })) at_place in
      rw (sets x at_place) (changed_good true true good at_place u refl refl refl refl good.sizes.peak_holds good.sizes.alive_few (table_set good.table at_place refl u)
      (other_line good.waiting at_place off u))

  pub turn_view : view_of_gets (record a { slots = slots }) ≡ machine.after_turn p q (view_of_gets a)
  turn_view = rw (sets x at_place) (same_gets _ _ refl
      (set_shown q place good.table at_place number_is (machine.getting_at p)) (set_line q place good.table at_place number_is (get_with_place p x.standing) a.slots.line)
      refl refl)

-- ---- notify

-- the place that is first holds something after its get has turned
pub turned_stands : {a : Inside} {place : ℕ} (f : Getting → Getting) {mid : TableView (Slot Getting)} → AreGoodGets a → Some place ≡ slice_get a.slots.line 0 → Restands a.slots mid place f → IsSome
    (slot_at mid place)
turned_stands {place = place} f good first sets = let x = good.waiting.each 0 place (sym first) in stands_then _ _ f x.1 sets

-- and is first in line still
pub turned_first : {a : Inside} {place : ℕ} (f : Getting → Getting) {mid : TableView (Slot Getting)} → AreGoodGets a → Some place ≡ slice_get a.slots.line 0 → Restands a.slots mid place f
    → slice_get mid.line 0 ≡ Some place
turned_first {place = place} f good first sets =
    let x = good.waiting.each 0 place (sym first) in
    ap (λ (t : TableView (Slot Getting)). slice_get t.line 0) (sets x.0 x.1) ∙ sym first

-- the first in line is notified
module _ {a : Inside} {place number : ℕ} {mid slots : TableView (Slot Getting)} (good : AreGoodGets a) (first : Some place ≡ slice_get a.slots.line 0)
    (number_is : (x : Slot Getting) → slot_at a.slots place ≡ Some x → number ≡ x.number)
    (sets : Restands a.slots mid place (get_with_place (Waiting true))) (out : slots ≡ record mid { line = machine.without place mid.line }) where
  noticed : (x : Slot Getting) × (slot_at a.slots place ≡ Some x) × (x.number ≡ number)
  noticed = let x = good.waiting.each 0 place (sym first) in (x.0, x.1, sym (number_is x.0 x.1))

  pub notice_good : AreGoodGets (record a { slots = slots })
  notice_good =
      let x = noticed in
      let u = set_at a.slots.slots place x.0 (Some (record x.0 { standing = get_with_place (Waiting true) x.0.standing })) x.1 in
      rw (out, sets x.0 x.1) (changed_good true true good x.1 u refl refl refl refl good.sizes.peak_holds good.sizes.alive_few (table_set good.table x.1 refl u) (places_without good.waiting u))

  pub notice_view : view_of_gets (record a { slots = slots }) ≡ machine.after_notice (Some number) (view_of_gets a)
  notice_view =
      let x = noticed in
      rw (out, sets x.0 x.1) (same_gets _ _ refl
      (set_shown number place good.table x.1 x.2 (machine.getting_at (Waiting true)))
      (set_line number place good.table x.1 x.2 (get_with_place (Waiting true) x.0.standing) (machine.without place a.slots.line)
      ∙ line_without number place good.table x.1 x.2 a.slots.line good.waiting)
      refl refl)

  -- whom it notifies
  pub first_number : Some number ≡ slice_get (view_of_gets a).waiting 0
  first_number = sym (number_at a.slots.slots a.slots.line 0 (sym first) noticed.1 ∙ ap (λ (k : ℕ). Some k) noticed.2)

-- nobody is notified where nobody is in line
pub none_first : (a : Inside) → None ≡ slice_get a.slots.line 0 → None ≡ slice_get (view_of_gets a).waiting 0
none_first a none = sym (no_number_at a.slots.slots a.slots.line 0 (sym none))

-- ---- end

-- a get ends, whether it is in the queue or not
module _ {a : Inside} (place : ℕ) {q : ℕ} {x : Slot Getting} {slots : TableView (Slot Getting)} (good : AreGoodGets a) (at_place : slot_at a.slots place ≡ Some x) (number_is : x.number ≡ q)
    (gone : slots ≡ freed place a.slots) where
  pub end_counted : 1 ≤ a.alive
  end_counted = omega (arith, tally_at is_some refl a.slots.slots place, ap (λ (o : Option (Slot Getting)). one (is_some o)) at_place, good.sizes.places_are)

  pub end_good : AreGoodGets (record a { slots = slots; alive = a.alive - 1 })
  end_good =
      let z = good.sizes in
      let some : 1 ≤ a.alive = end_counted in
      let u = set_at a.slots.slots place x None at_place in
      rw gone (changed_good true false good at_place u refl refl (omega arith) (omega arith) (omega (arith, z.peak_holds)) (omega (arith, z.alive_few)) (table_removed good.table u)
      (places_without good.waiting u))

  pub end_view : view_of_gets (record a { slots = slots; alive = a.alive - 1 }) ≡ machine.after_get_end q (view_of_gets a)
  end_view = rw gone (same_gets _ _ refl
      (cleared_shown q place good.table at_place number_is)
      (cleared_line q place good.table at_place number_is a.slots.line ∙ line_without q place good.table at_place number_is a.slots.line good.waiting)
      refl refl)

-- what a look-up finds
pub ruleset lookups = (none_shown, some_shown)

-- what the steps do
pub ruleset steps = (lookups, end_view, none_first, notice_view)

pub ruleset passes = (pass_good, pass_view)
