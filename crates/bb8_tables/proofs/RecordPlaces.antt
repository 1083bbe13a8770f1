-- The code's side of each change: what it does to the fields, seen in what they mean.
use Rattle.bb8_tables.proofs.Words.{subst, ◌≡◌, ◌≢◌, ℕ, ◌+◌, ◌-◌, ◌<◌, ◌≤◌, Bool, true, false, cond, not, [], ◌∷◌, ◌++◌, map, length, Option, Some, None, IsSome, set, slice_get, drop, refl, sym, ap, ◌∙◌, arith, append-nil, map_push, drop-map, length-map, get, TableView, slot_at, filled, freed, Restands, Absent, Buffer, buffer, Place, Unclaimed, Claimed, Idle, Guarded, Standing, Holder, Key, Slot, QueueStrategy, is_idle, is_unclaimed, is_conn, is_approval, is_out, place_with, with_place, first_place, first_of, comes_from, birth_in, entered_in, IsTable, number_in, numbers_at, view_of_records, AreGoodRecords, passes, IsLineOf, IsOrderOf, tally, one, RecordsView, NoneAfter, most_records, Inside, unclaimed_is, idle_is, held_conn, idle_from, unclaimed_from, conn_from, approval_from, nat_tests}
use Rattle.bb8_tables.specs.Machine as machine
use Rattle.bb8_tables.proofs.Views.{same_records}
use Rattle.bb8_tables.proofs.Lines.{other_line, turned_line, shorter_line, same_line, places_absent}
use Rattle.bb8_tables.proofs.Numbers.{numbers_all}
use Rattle.bb8_tables.proofs.Spelled.{without_absent}
use Rattle.bb8_tables.proofs.Orders.{no_order, same_order, other_order, pushed_order, left_order, stays_order}
use Rattle.bb8_tables.proofs.Slots
use Rattle.bb8_tables.proofs.Slots.{Updates, set_at, set_within, tally_set, tally_at, table_set, table_added, table_removed, table_kept}
use Rattle.bb8_tables.proofs.TablePlaces
use Rattle.bb8_tables.proofs.TablePlaces.{numbered, stands_then, stands_within, number_at, no_number_at, set_shown, set_line, set_pushed, line_without, cleared_shown, cleared_line, added_shown, added_pushed}

either : (o : Bool) → one o + one (not o) ≡ 1
either o = grind (arith, nat_tests)

module _ {C : Type 0} where
  -- ---- the lines are no longer than the counters say

  -- what is idle is a connection
  pub idle_conn : (p : Place C) → is_idle p ≡ true → is_conn p ≡ true
  idle_conn p e = ap is_conn (idle_is p e).1

  pub idle_fit : (a : Inside C) → AreGoodRecords a → length a.slots.line ≤ a.conns
  idle_fit a good = grind (arith, Slots.line_length, idle_conn)

  pub unclaimed_fit : (a : Inside C) → AreGoodRecords a → length a.unclaimed.items ≤ a.approved
  unclaimed_fit a good =
      let l : length a.unclaimed.items ≤ tally (passes is_approval) a.slots.slots =
      Slots.line_length _ _ _ _ (passes is_approval) refl (λ x e. ap is_approval (unclaimed_is x.standing.place e)) a.unclaimed.items a.slots.slots good.unclaimed in
      omega (arith, good.approved_are)

  -- what is somewhere is counted
  pub conn_counted : {a : Inside C} (i : ℕ) {x : Slot (Standing C)} (b : Bool) → AreGoodRecords a → slot_at a.slots i ≡ Some x → is_conn x.standing.place ≡ b → one b ≤ a.conns
  conn_counted {a} i b good e is = omega (arith, tally_at (passes is_conn) refl a.slots.slots i, ap one (ap (passes is_conn) e ∙ is), good.conns_are)

  pub approval_counted : {a : Inside C} (i : ℕ) {x : Slot (Standing C)} (b : Bool) → AreGoodRecords a → slot_at a.slots i ≡ Some x → is_approval x.standing.place ≡ b → one b ≤ a.approved
  approval_counted {a} i b good e is = omega (arith, tally_at (passes is_approval) refl a.slots.slots i, ap one (ap (passes is_approval) e ∙ is), good.approved_are)

  -- a record that enters or ends is counted, and in neither order but that of births where it is a
  -- connection
  module _ (opening : Bool) {a : Inside C} (place : ℕ) {x : Slot (Standing C)} (good : AreGoodRecords a) (at_place : slot_at a.slots place ≡ Some x)
      (was : comes_from opening x.standing.place ≡ true) where
    pub opened_counted : one opening ≤ a.approved
    opened_counted = approval_counted place opening good at_place (approval_from opening x.standing.place was)

    pub closed_counted : one (not opening) ≤ a.conns
    closed_counted = conn_counted place (not opening) good at_place (conn_from opening x.standing.place was)

    pub enter_absent : Absent place a.slots.line
    enter_absent = places_absent place good.idle.are at_place (idle_from opening x.standing.place was)

    pub opened_absent : opening ≡ true → Absent place a.slots.births
    opened_absent new = places_absent place good.births.are at_place (conn_from opening x.standing.place was ∙ ap not new)

  -- ---- what is shown of a number

  -- what is shown of the number at a place
  pub shown_at : {a : Inside C} (i : ℕ) {q : ℕ} {x : Slot (Standing C)} → AreGoodRecords a → slot_at a.slots i ≡ Some x → x.number ≡ q → get (view_of_records a).places q ≡ Some x.standing
  shown_at i {q} good e same = TablePlaces.shown_at q i good.table e same

  -- its moments are no later than those that are shown
  pub moments : {a : Inside C} {now : ℕ} (i : ℕ) {x : Slot (Standing C)} → AreGoodRecords a → NoneAfter now (view_of_records a) → slot_at a.slots i ≡ Some x → (x.standing.birth ≤ now) ×
      (x.standing.entered ≤ now)
  moments i {x} good late e = late x.number x.standing (shown_at i good e refl)

  -- a look-up that finds nothing, or a slot
  pub none_shown : (a : Inside C) (q : ℕ) (s : RecordsView C) → view_of_records a ≡ s → ((i : ℕ) (x : Slot (Standing C)) → slot_at a.slots i ≡ Some x → x.number ≢ q) → get s.places q ≡ None
  none_shown a q s is none = ap (λ (t : RecordsView C). get t.places q) (sym is) ∙ Slots.held_absent numbered (λ x. x.standing) a.slots.slots q none

  pub some_shown : (a : Inside C) (q i : ℕ) (x : Slot (Standing C)) (s : RecordsView C) → AreGoodRecords a → view_of_records a ≡ s
      → slot_at a.slots i ≡ Some x → x.number ≡ q → get s.places q ≡ Some x.standing
  some_shown a q i x s good is e same = ap (λ (t : RecordsView C). get t.places q) (sym is) ∙ shown_at i good e same

  -- ---- one place changes

  -- Good records are good after one place has changed, where the line, the orders and the counts
  -- are right again: what passed a test there counted, and what passes it counts.
  pub changed_good : {a : Inside C} {next conns approved place : ℕ} {slots : TableView (Slot (Standing C))} {unclaimed : Buffer Key} {was is : Option (Slot (Standing C))} (m n k l : Bool)
      → AreGoodRecords a → slot_at a.slots place ≡ was → Updates a.slots.slots slots.slots place is
      → passes is_conn was ≡ m → passes is_conn is ≡ n → conns + one m ≡ a.conns + one n
      → passes is_approval was ≡ k → passes is_approval is ≡ l → approved + one k ≡ a.approved + one l
      → conns + approved + slots.free ≡ a.conns + a.approved + a.slots.free → conns + approved ≤ a.peak → unclaimed.capacity ≡ a.unclaimed.capacity
      → IsTable numbered slots.slots next → IsOrderOf is_idle (λ s. s.entered) slots.slots slots.line → IsOrderOf is_conn (λ s. s.birth) slots.slots slots.births
      → IsLineOf is_unclaimed slots.slots unclaimed.items
      → AreGoodRecords (record { next = next; slots = slots; unclaimed = unclaimed; conns = conns; approved = approved; peak = a.peak })
  changed_good {a} {slots = slots} m n k l good at_place u m_is n_is conns_sum k_is l_is approved_sum sum few capacity table idle births line = record {
    table = table;
    idle = idle;
    births = births;
    unclaimed = line;
    conns_are = omega (arith, tally_set (passes is_conn) refl m n good.conns_are at_place u m_is n_is);
    approved_are = omega (arith, tally_set (passes is_approval) refl k l good.approved_are at_place u k_is l_is);
    sizes = let s = good.sizes in
        record { peak_holds = few; peak_few = s.peak_few; room_holds = omega (arith, s.room_holds, s.peak_holds); unclaimed_room_holds = omega (arith, s.unclaimed_room_holds) };
  }

  -- ---- nothing in an empty table

  pub new_good : (first : ℕ) (slots : TableView (Slot (Standing C))) (unclaimed : Buffer Key) → slots ≡ record { slots = []; line = []; births = []; free = 0 } → unclaimed ≡ buffer [] 0
      → AreGoodRecords (record { next = first; slots = slots; unclaimed = unclaimed; conns = 0; approved = 0; peak = 0 })
  new_good first slots unclaimed empty none = grind (arith, no_order)

  -- ---- other memory

  -- each index has the same
  module _ {a : Inside C} (slots : TableView (Slot (Standing C))) (peak : ℕ) (good : AreGoodRecords a) (kept : (i : ℕ) → slot_at slots i ≡ slot_at a.slots i) (line_is : slots.line ≡ a.slots.line)
      (births_are : slots.births ≡ a.slots.births) where
    pub kept_good : (unclaimed : Buffer Key) → unclaimed.items ≡ a.unclaimed.items → a.conns + a.approved ≤ peak → peak ≤ most_records → peak ≤ a.conns + a.approved + slots.free
        → peak ≤ unclaimed.capacity → AreGoodRecords (record a { slots = slots; unclaimed = unclaimed; peak = peak })
    kept_good unclaimed items few most room unclaimed_room = record {
      table = table_kept good.table kept;
      idle = rw line_is (same_order good.idle kept);
      births = rw births_are (same_order good.births kept);
      unclaimed = rw items (same_line good.unclaimed kept);
      conns_are = Slots.tally_same (passes is_conn) refl a.slots.slots slots.slots kept ∙ good.conns_are;
      approved_are = Slots.tally_same (passes is_approval) refl a.slots.slots slots.slots kept ∙ good.approved_are;
      sizes = record { peak_holds = few; peak_few = most; room_holds = room; unclaimed_room_holds = unclaimed_room };
    }

    pub kept_view : (unclaimed : Buffer Key) → unclaimed.items ≡ a.unclaimed.items → view_of_records (record a { slots = slots; unclaimed = unclaimed; peak = peak }) ≡ record
        (view_of_records a) { peak = peak }
    kept_view unclaimed items = grind (arith, same_records, Slots.held_same, numbers_all numbered a.slots.slots slots.slots a.slots.line kept)

  -- ---- claim

  -- the unclaimed approval that is first
  first_unclaimed : {a : Inside C} {key : Key} → AreGoodRecords a → Some key ≡ slice_get a.unclaimed.items 0
      → (x : Slot (Standing C)) × (slot_at a.slots key.place ≡ Some x) × (x.number ≡ key.number) × (x.standing.place ≡ Unclaimed)
  first_unclaimed {key = key} good first = let x = good.unclaimed.each 0 key (sym first) in (x.0, x.1, x.2, unclaimed_is x.0.standing.place x.3)

  module _ {a : Inside C} {key : Key} {slots : TableView (Slot (Standing C))} {unclaimed : Buffer Key} (good : AreGoodRecords a)
      (first : Some key ≡ slice_get a.unclaimed.items 0) (rest : unclaimed ≡ buffer (drop 1 a.unclaimed.items) a.unclaimed.capacity)
      (sets : Restands a.slots slots key.place (with_place Claimed)) where
    pub claim_good : AreGoodRecords (record a { slots = slots; unclaimed = unclaimed })
    claim_good =
        let x = first_unclaimed good first in
        let u = set_at a.slots.slots key.place x.0 (Some (record x.0 { standing = with_place Claimed x.0.standing })) x.1 in
        rw (rest, sets x.0 x.1) (changed_good false false true true good x.1 u (ap is_conn x.3) refl refl (ap is_approval x.3) refl refl refl good.sizes.peak_holds refl
        (table_set good.table x.1 refl u) (other_order good.idle u x.1 (ap is_idle x.3) refl) (other_order good.births u x.1 (ap is_conn x.3) refl) (shorter_line good.unclaimed (sym first) u))

    pub claim_view : view_of_records (record a { slots = slots; unclaimed = unclaimed }) ≡ machine.after_claim key.number (view_of_records a)
    claim_view =
        let x = first_unclaimed good first in
        rw (rest, sets x.0 x.1) (same_records _ _ refl
        (set_shown key.number key.place good.table x.1 x.2 (machine.standing_at Claimed))
        (set_line key.number key.place good.table x.1 x.2 (with_place Claimed x.0.standing) a.slots.line)
        (sym (drop-map (λ (k : Key). k.number) 1 a.unclaimed.items))
        refl refl refl)

  -- ---- take

  -- what somebody holds is not idle
  held_idle : (p : Place C) (h : Holder) → p ≡ place_with h → is_idle p ≡ false
  held_idle p h is = grind (arith, nat_tests)

  module _ {a : Inside C} (strategy : QueueStrategy) {place number : ℕ} (holder : Holder) {out : Place C} {mid slots : TableView (Slot (Standing C))}
      (good : AreGoodRecords a) (first : Some place ≡ slice_get a.slots.line (first_place strategy (length a.slots.line)))
      (number_is : (x : Slot (Standing C)) → slot_at mid place ≡ Some x → number ≡ x.number) (is : out ≡ place_with holder)
      (gone : mid ≡ record a.slots { line = machine.without place a.slots.line }) (sets : Restands mid slots place (with_place out)) where
    -- what is there is there after its place has left the line
    stays : (x : Slot (Standing C)) → slot_at a.slots place ≡ Some x → slot_at mid place ≡ Some x
    stays x e = ap (λ (t : TableView (Slot (Standing C))). slot_at t place) gone ∙ e

    taken : (x : Slot (Standing C)) × (slot_at a.slots place ≡ Some x) × (x.number ≡ number) × (is_idle x.standing.place ≡ true)
    taken = let x = good.idle.are.each _ place (sym first) in (x.0, x.1, sym (number_is x.0 (stays x.0 x.1)), x.3)

    after_both : slots ≡ record a.slots {
      slots = set a.slots.slots place (Some (record taken.0 { standing = with_place out taken.0.standing }));
      line = machine.without place a.slots.line;
    }
    after_both = grind (arith, nat_tests)

    pub take_good : AreGoodRecords (record a { slots = slots })
    take_good =
        let x = taken in
        let was = (idle_is x.0.standing.place x.3).1 in
        let out_now : is_conn out ≡ true = held_conn out holder is in
        let u = set_at a.slots.slots place x.0 (Some (record x.0 { standing = with_place out x.0.standing })) x.1 in
        rw after_both (changed_good true true false false good x.1 u (ap is_conn was) out_now refl (ap is_approval was) (ap not out_now) refl refl good.sizes.peak_holds refl
        (table_set good.table x.1 refl u) (left_order good.idle u (held_idle out holder is)) (stays_order good.births u x.1 (ap is_conn was) out_now refl)
        (other_line good.unclaimed x.1 (ap is_unclaimed was) u))

    pub take_view : view_of_records (record a { slots = slots }) ≡ machine.after_take (place_with holder) number (view_of_records a)
    take_view =
        let x = taken in
        rw (after_both, sym is) (same_records _ _ refl
        (set_shown number place good.table x.1 x.2 (machine.standing_at out))
        (set_line number place good.table x.1 x.2 (with_place out x.0.standing) (machine.without place a.slots.line) ∙ line_without number place good.table x.1 x.2 a.slots.line good.idle.are)
        refl refl refl refl)

    -- the number that is taken is the first one
    pub taken_first : first_of strategy (view_of_records a).idle ≡ Some number
    taken_first = let x = taken in
        rw (length-map a.slots.line (λ (i : ℕ). number_in numbered (slot_at a.slots i)))
        (number_at a.slots.slots a.slots.line (first_place strategy (length a.slots.line)) (sym first) x.1 ∙ ap (λ (q : ℕ). Some q) x.2)

    -- the connection that is taken is the one that is shown of its number
    pub taken_connection : (conn : C) (was_there : Place C) → ((x : Slot (Standing C)) → slot_at mid place ≡ Some x → was_there ≡ x.standing.place) → was_there ≡ Idle conn
        → (birth entered : ℕ) × (get (view_of_records a).places number ≡ Some (record { place = Idle conn; birth = birth; entered = entered }))
    taken_connection conn was_there was is = let x = taken in
        (x.0.standing.birth, x.0.standing.entered, shown_at place good x.1 x.2 ∙ ap (λ (p : Place C). Some (with_place p x.0.standing)) (sym (was x.0 (stays x.0 x.1)) ∙ is))

  -- something is at a place in line, and after it has left the line
  pub line_stands : {a : Inside C} (i : ℕ) {place : ℕ} → AreGoodRecords a → Some place ≡ slice_get a.slots.line i → IsSome (slot_at a.slots place)
  line_stands i {place} good first = let x = good.idle.are.each i place (sym first) in subst IsSome (sym x.1) refl

  pub left_stands : {a : Inside C} (i : ℕ) {place : ℕ} {mid : TableView (Slot (Standing C))} → AreGoodRecords a → Some place ≡ slice_get a.slots.line i
      → mid ≡ record a.slots { line = machine.without place a.slots.line } → IsSome (slot_at mid place)
  left_stands i good first gone = rw gone (line_stands i good first)

  -- nothing is taken where none is idle
  pub idle_none : (a : Inside C) (strategy : QueueStrategy) → slice_get a.slots.line (first_place strategy (length a.slots.line)) ≡ None → first_of strategy (view_of_records a).idle ≡ None
  idle_none a strategy empty = rw (length-map a.slots.line (λ (i : ℕ). number_in numbered (slot_at a.slots i)))
      (no_number_at a.slots.slots a.slots.line (first_place strategy (length a.slots.line)) empty)

  -- the connection that is first became idle when its place says so
  pub entered_first : {a : Inside C} (strategy : QueueStrategy) {place : ℕ} {x : Slot (Standing C)} → AreGoodRecords a
      → Some place ≡ slice_get a.slots.line (first_place strategy (length a.slots.line)) → slot_at a.slots place ≡ Some x
      → (k : ℕ) → first_of strategy (view_of_records a).idle ≡ Some k → x.standing.entered ≡ entered_in (get (view_of_records a).places k)
  entered_first {a} strategy {x = x} good first at_place k is =
      let first_is : first_of strategy (view_of_records a).idle ≡ Some x.number =
      rw (length-map a.slots.line (λ (i : ℕ). number_in numbered (slot_at a.slots i)))
      (number_at a.slots.slots a.slots.line (first_place strategy (length a.slots.line)) (sym first) at_place) in
      let both : Some x.number ≡ Some k = sym first_is ∙ is in
      let same : x.number ≡ k = cc in
      sym (ap entered_in (shown_at _ good at_place same))

  -- ---- hand-off

  -- a guard takes over a connection that is out
  module _ {a : Inside C} (place : ℕ) {q : ℕ} {x : Slot (Standing C)} {slots : TableView (Slot (Standing C))} (good : AreGoodRecords a)
      (at_place : slot_at a.slots place ≡ Some x) (number_is : x.number ≡ q) (was : is_out x.standing.place ≡ true)
      (sets : Restands a.slots slots place (with_place Guarded)) where
    pub handover_good : AreGoodRecords (record a { slots = slots })
    handover_good =
        let conn : is_conn x.standing.place ≡ true = conn_from false x.standing.place was in
        let u = set_at a.slots.slots place x (Some (record x { standing = with_place Guarded x.standing })) at_place in
        rw (sets x at_place) (changed_good true true false false good at_place u conn refl refl (ap not conn) refl refl refl good.sizes.peak_holds refl
        (table_set good.table at_place refl u) (other_order good.idle u at_place (idle_from false x.standing.place was) refl) (stays_order good.births u at_place conn refl refl)
        (other_line good.unclaimed at_place (unclaimed_from false x.standing.place was) u))

    pub handover_view : view_of_records (record a { slots = slots }) ≡ machine.after_handover q (view_of_records a)
    handover_view = rw (sets x at_place) (same_records _ _ refl
        (set_shown q place good.table at_place number_is (machine.standing_at Guarded))
        (set_line q place good.table at_place number_is (with_place Guarded x.standing) a.slots.line)
        refl refl refl refl)

  -- ---- enter

  -- a place comes into line, and into the order of births where its connection is new
  pub lined : (place : ℕ) (old : TableView (Slot (Standing C))) {mid now : TableView (Slot (Standing C))} → mid ≡ record old { line = old.line ++ place ∷ [] }
      → now ≡ record mid { births = mid.births ++ place ∷ [] } → now ≡ record old { line = old.line ++ place ∷ []; births = old.births ++ place ∷ [] }
  lined place old line births = rw (births, line) refl

  -- a claimed approval, or a connection that was out, becomes idle
  module _ (opening : Bool) {a : Inside C} (place : ℕ) {q : ℕ} {x : Slot (Standing C)} (s : Standing C)
      {mid slots : TableView (Slot (Standing C))} (good : AreGoodRecords a) (at_place : slot_at a.slots place ≡ Some x)
      (was : comes_from opening x.standing.place ≡ true) (number_is : x.number ≡ q)
      (is_idle_now : is_idle s.place ≡ true) (sets : Restands a.slots mid place (λ _. s))
      (in_line : slots ≡ record mid { line = mid.line ++ place ∷ []; births = cond opening (mid.births ++ place ∷ []) mid.births }) where
    pub enter_good : {n m now : ℕ} → n ≡ a.conns + one opening → m ≡ a.approved - one opening → NoneAfter now (view_of_records a) → s.entered ≡ now
        → s.birth ≡ cond opening now (birth_in (get (view_of_records a).places q)) → AreGoodRecords (record a { slots = slots; conns = n; approved = m })
    enter_good {n} {m} {now} n_is m_is late entered birth =
        let c : one opening ≤ a.approved = opened_counted opening place good at_place was in
        let e : one opening + one (not opening) ≡ 1 = either opening in
        let here = (idle_is s.place is_idle_now).1 in
        rw (in_line, sets x at_place) (changed_good (not opening) true opening false good at_place u (conn_from opening x.standing.place was) (idle_conn s.place is_idle_now) (omega arith)
        (approval_from opening x.standing.place was) (ap is_approval here) (omega arith) (omega arith) (omega (arith, good.sizes.peak_holds)) refl
        (table_set good.table at_place refl u)
        (pushed_order good.idle u at_place (idle_from opening x.standing.place was) refl is_idle_now (λ i y h. let l : y.standing.entered ≤ now = (moments i good late h).1 in omega arith))
        (born opening now (conn_from opening x.standing.place was) late (birth ∙ ap (λ (r : Option (Standing C)). cond opening now (birth_in r)) (shown_at place good at_place number_is)))
        (other_line good.unclaimed at_place (unclaimed_from opening x.standing.place was) u))
      where
        u : Updates a.slots.slots (set a.slots.slots place (Some (record x { standing = s }))) place (Some (record x { standing = s }))
        u = set_at a.slots.slots place x (Some (record x { standing = s })) at_place

        born : (o : Bool) (now : ℕ) → is_conn x.standing.place ≡ not o → NoneAfter now (view_of_records a) → s.birth ≡ cond o now x.standing.birth
            → IsOrderOf is_conn (λ s. s.birth) (set a.slots.slots place (Some (record x { standing = s }))) (cond o (a.slots.births ++ place ∷ []) a.slots.births)
        born true now was_none late birth = pushed_order good.births u at_place was_none refl (idle_conn s.place is_idle_now)
            (λ i y e. let l : y.standing.birth ≤ now = (moments i good late e).0 in omega arith)
        born false now was_one late birth = stays_order good.births u at_place was_one (idle_conn s.place is_idle_now) birth

    pub enter_view : (n m : ℕ) → n ≡ a.conns + one opening → m ≡ a.approved - one opening
        → view_of_records (record a { slots = slots; conns = n; approved = m }) ≡ machine.after_entry opening q s (view_of_records a)
    enter_view n m n_is m_is = rw (in_line, sets x at_place) (same_records _ _ refl
        (set_shown q place good.table at_place number_is (λ _. s)) (set_pushed q place good.table at_place number_is s a.slots.line) refl n_is m_is refl)

  -- ---- records end

  -- Good records are good after one has ended, where the line of the unclaimed and the counts are
  -- right again.
  pub ended_good : {a : Inside C} {conns approved place : ℕ} {slots : TableView (Slot (Standing C))} {unclaimed : Buffer Key} {x : Slot (Standing C)} (m k : Bool) → AreGoodRecords a
      → slot_at a.slots place ≡ Some x → slots ≡ freed place a.slots → is_conn x.standing.place ≡ m → conns + one m ≡ a.conns → is_approval x.standing.place ≡ k → approved + one k ≡ a.approved
      → one m + one k ≡ 1
      → unclaimed.capacity ≡ a.unclaimed.capacity → (Updates a.slots.slots (set a.slots.slots place None) place None → IsLineOf is_unclaimed (set a.slots.slots place None) unclaimed.items)
      → AreGoodRecords (record a { slots = slots; unclaimed = unclaimed; conns = conns; approved = approved })
  ended_good {a} {place = place} {x = x} m k good at_place gone m_is conns_sum k_is approved_sum one_less capacity line =
      let u = set_at a.slots.slots place x None at_place in
      rw gone (changed_good m false k false good at_place u m_is refl (omega arith) k_is refl (omega arith) (omega arith) (omega (arith, good.sizes.peak_holds)) capacity
      (table_removed good.table u) (left_order good.idle u refl) (left_order good.births u refl) (line u))

  -- a claimed approval, or a connection that was out, ends
  module _ (opening : Bool) {a : Inside C} (place : ℕ) {q : ℕ} {x : Slot (Standing C)} {slots : TableView (Slot (Standing C))}
      (good : AreGoodRecords a) (at_place : slot_at a.slots place ≡ Some x) (number_is : x.number ≡ q)
      (was : comes_from opening x.standing.place ≡ true) (gone : slots ≡ freed place a.slots) where
    pub close_good : {n m : ℕ} → n ≡ a.conns - one (not opening) → m ≡ a.approved - one opening → AreGoodRecords (record a { slots = slots; conns = n; approved = m })
    close_good {n} {m} n_is m_is =
        let c : one (not opening) ≤ a.conns = closed_counted opening place good at_place was in
        let d : one opening ≤ a.approved = opened_counted opening place good at_place was in
        let e : one opening + one (not opening) ≡ 1 = either opening in
        ended_good (not opening) opening good at_place gone (conn_from opening x.standing.place was) (omega arith) (approval_from opening x.standing.place was) (omega arith) (omega arith) refl
        (λ u. other_line good.unclaimed at_place (unclaimed_from opening x.standing.place was) u)

    pub close_view : (n m : ℕ) → n ≡ a.conns - one (not opening) → m ≡ a.approved - one opening
        → view_of_records (record a { slots = slots; conns = n; approved = m }) ≡ machine.after_close opening q (view_of_records a)
    close_view n m n_is m_is = rw gone (same_records _ _ refl
        (cleared_shown q place good.table at_place number_is)
        (cleared_line q place good.table at_place number_is a.slots.line ∙ ap (numbers_at numbered a.slots.slots)
        (without_absent place a.slots.line (enter_absent opening place good at_place was)))
        refl n_is m_is refl)

  -- the unclaimed approval that is first ends
  module _ {a : Inside C} {key : Key} {slots : TableView (Slot (Standing C))} {line : Buffer Key} (good : AreGoodRecords a)
      (first : Some key ≡ slice_get a.unclaimed.items 0) (rest : line ≡ buffer (drop 1 a.unclaimed.items) a.unclaimed.capacity)
      (gone : slots ≡ freed key.place a.slots) where
    pub unclaimed_end_counted : 1 ≤ a.approved
    unclaimed_end_counted = let x = first_unclaimed good first in approval_counted key.place true good x.1 (ap is_approval x.3)

    pub unclaimed_end_good : AreGoodRecords (record a { slots = slots; unclaimed = line; approved = a.approved - 1 })
    unclaimed_end_good =
        let x = first_unclaimed good first in
        let c : 1 ≤ a.approved = unclaimed_end_counted in
        rw rest (ended_good false true good x.1 gone (ap is_conn x.3) (omega arith) (ap is_approval x.3) (omega arith) refl refl (λ u. shorter_line good.unclaimed (sym first) u))

    pub unclaimed_end_view : view_of_records (record a { slots = slots; unclaimed = line; approved = a.approved - 1 }) ≡ machine.after_unclaimed_end key.number (view_of_records a)
    unclaimed_end_view =
        let x = first_unclaimed good first in
        rw (rest, gone) (same_records _ _ refl
        (cleared_shown key.number key.place good.table x.1 x.2)
        (cleared_line key.number key.place good.table x.1 x.2 a.slots.line
        ∙ ap (numbers_at numbered a.slots.slots) (without_absent key.place a.slots.line (places_absent key.place good.idle.are x.1 (ap is_idle x.3))))
        (sym (drop-map (λ (k : Key). k.number) 1 a.unclaimed.items))
        refl refl refl)

  -- ---- records begin

  -- an approval, claimed or in line
  module _ {a : Inside C} (claimed_now : Bool) {place : ℕ} {slots : TableView (Slot (Standing C))} {unclaimed : Buffer Key}
      (good : AreGoodRecords a) (free : slot_at a.slots place ≡ None)
      (within : place < length a.slots.slots)
      (takes : slots ≡ filled place (record { number = a.next; standing = record { place = cond claimed_now Claimed Unclaimed; birth = 0; entered = 0 } }) a.slots)
      (room : slots.free + 1 ≡ a.slots.free)
      (pushed : unclaimed ≡ buffer (a.unclaimed.items ++ cond claimed_now [] ((record { number = a.next; place = place }) ∷ []))
      a.unclaimed.capacity) where
    abbrev added : Slot (Standing C)
    added = record { number = a.next; standing = record { place = cond claimed_now Claimed Unclaimed; birth = 0; entered = 0 } }

    u : Updates a.slots.slots (set a.slots.slots place (Some added)) place (Some added)
    u = set_within a.slots.slots place (Some added) within

    tests : (b : Bool) → (is_conn {C = C} (cond b Claimed Unclaimed) ≡ false) × (is_idle {C = C} (cond b Claimed Unclaimed) ≡ false)
    tests b = grind (arith, nat_tests)

    line_added : (b : Bool) → is_unclaimed {C = C} (cond claimed_now Claimed Unclaimed) ≡ not b → IsLineOf is_unclaimed (set a.slots.slots place (Some added))
        (a.unclaimed.items ++ cond b [] ((record { number = a.next; place = place }) ∷ []))
    line_added true is = rw (append-nil a.unclaimed.items) (other_line good.unclaimed free refl u)
    line_added false is = turned_line good.unclaimed (record { number = a.next; place = place }) free refl u refl is

    is_unclaimed_now : (b : Bool) → is_unclaimed {C = C} (cond b Claimed Unclaimed) ≡ not b
    is_unclaimed_now b = grind (arith, nat_tests)

    pub approve_good : a.conns + a.approved < a.peak → AreGoodRecords (record a { next = a.next + 1; slots = slots; unclaimed = unclaimed; approved = a.approved + 1 })
    approve_good free_room =
        let t = tests claimed_now in
        let r : (a.slots.free - 1) + 1 ≡ a.slots.free = rw takes at room in
        rw (pushed, takes) (changed_good false false false true good free u refl t.0 refl refl (ap not t.0) (omega arith) (omega arith) (omega arith) refl
        (table_added good.table refl u) (other_order good.idle u free refl t.1) (other_order good.births u free refl t.0) (line_added claimed_now (is_unclaimed_now claimed_now)))

    numbers_added : (b : Bool) → map (λ (k : Key). k.number) (a.unclaimed.items ++ cond b [] ((record { number = a.next; place = place }) ∷ []))
        ≡ map (λ (k : Key). k.number) a.unclaimed.items ++ cond b [] (a.next ∷ [])
    numbers_added true = ap (map (λ (k : Key). k.number)) (append-nil a.unclaimed.items) ∙ sym (append-nil (map (λ (k : Key). k.number) a.unclaimed.items))
    numbers_added false = map_push (λ (k : Key). k.number) a.unclaimed.items (record { number = a.next; place = place })

    pub approve_view : view_of_records (record a { next = a.next + 1; slots = slots; unclaimed = unclaimed; approved = a.approved + 1 }) ≡ machine.after_approval claimed_now (view_of_records a)
    approve_view = rw (pushed, takes) (same_records _ _ refl
        (added_shown a.slots.slots a.next place added.standing free within good.table)
        (TablePlaces.added_line a.slots.slots a.next place added.standing free within a.slots.line good.idle.are)
        (numbers_added claimed_now)
        refl refl refl)

  -- a connection under the next number, at a free place
  module _ {a : Inside C} {place : ℕ} (now : ℕ) (conn : C) {mid slots : TableView (Slot (Standing C))} (good : AreGoodRecords a)
      (free : slot_at a.slots place ≡ None) (within : place < length a.slots.slots)
      (takes : mid ≡ filled place (record { number = a.next; standing = record { place = Idle conn; birth = now; entered = now } }) a.slots)
      (room : mid.free + 1 ≡ a.slots.free) (in_line : slots ≡ record mid { line = mid.line ++ place ∷ []; births = mid.births ++ place ∷ [] }) where
    abbrev newborn : Slot (Standing C)
    newborn = record { number = a.next; standing = record { place = Idle conn; birth = now; entered = now } }

    pub born_good : a.conns + a.approved < a.peak → NoneAfter now (view_of_records a) → AreGoodRecords (record a { next = a.next + 1; slots = slots; conns = a.conns + 1 })
    born_good free_room late =
        let u = set_within a.slots.slots place (Some newborn) within in
        let r : (a.slots.free - 1) + 1 ≡ a.slots.free = rw takes at room in
        rw (in_line, takes) (changed_good false true false false good free u refl refl (omega arith) refl refl refl (omega arith) (omega arith) refl
        (table_added good.table refl u) (pushed_order good.idle u free refl refl refl (λ i y e. (moments i good late e).1))
        (pushed_order good.births u free refl refl refl (λ i y e. (moments i good late e).0)) (other_line good.unclaimed free refl u))

    pub born_view : view_of_records (record a { next = a.next + 1; slots = slots; conns = a.conns + 1 }) ≡ machine.after_birth conn now (view_of_records a)
    born_view = rw (in_line, takes) (same_records _ _ refl
        (added_shown a.slots.slots a.next place newborn.standing free within good.table)
        (added_pushed a.slots.slots a.next place newborn.standing free within a.slots.line good.idle.are) refl refl refl refl)

  -- a free place is in no order
  module _ {a : Inside C} (place : ℕ) (good : AreGoodRecords a) (free : slot_at a.slots place ≡ None) where
    pub born_absent : Absent place a.slots.line
    born_absent = places_absent place good.idle.are free refl

    pub unborn_absent : Absent place a.slots.births
    unborn_absent = places_absent place good.births.are free refl

-- what a look-up finds, and how many there can be
pub ruleset lookups = (none_shown, some_shown, idle_fit, unclaimed_fit)

-- what the steps do
pub ruleset steps = (lookups, claim_view, unclaimed_end_counted, unclaimed_end_view)

pub ruleset takes = (line_stands, left_stands, idle_none)

pub ruleset bears = (stands_within, born_absent, unborn_absent, born_view, lined)

pub ruleset approves = (approve_good, approve_view, unclaimed_fit)
