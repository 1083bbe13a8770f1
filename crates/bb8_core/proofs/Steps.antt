-- Each step, from what it does to what is shown to what it does on every legal ledger.
use Rattle.bb8_core.proofs.Words.{arith, refl, sym, ◌∙◌, ap, ℕ, ◌≡◌, ◌+◌, false, subst, Some, true, ◌≤◌, Bool, Option, None, List, Idle, Numbered, ◌<◌, max, slice_get, suc, Ledger, update, Before, eqb, after_end, Standing, length, start, standing_is, idle_at, ◌≢◌, stands, records, one, Grant, gets_stand, Counts, Getting, latest, end_of_numbers, position, peak, is_idle, Place, is_unnotified, Later, conns_of, approved_of, Try, Served, gets, is_out, get_of, with_notice, ◌||◌, first_of, is_claimed, alive, conns, due, handles, record_of, counts, get_peak, oldest_waiter, Act, Answer, idle, alive_of, with_approvals, at_place, entry, conn_from, is_trying, approved, expires, out, ltb, retired, nat_tests, at_entry, IsGranted, IsWant, next, birth_in, entered_in, is_checked, asks_check, Add, figures, closes, with_record, first_place, detached, IfSome, MatchBool, get, before_later, unclaimed_from, idle_from, first_wait_of, is_expired, counts_held, after_reaped, RecordsView, GetsView, Counters, entered_before, ended_before, idle_counted, waited_before, peak_holds, get_peak_holds, idle_tally, put_before, keeps_laws, keeps_promises, keeps_limits, wait_micros, StateView, shown_records, HasLedger, IsFitting, Represents, IsWithinLimits, Steps, shown_gets}
use Rattle.std.proofs.lemmas.Bool.Decides.{leb_tells}
use Rattle.bb8_tables.specs.Machine as machine
use Rattle.bb8_core.specs.Decided as decided
use Rattle.bb8_core.proofs.ShownRecords.{shown-taken, shown-closed, shown-entered, shown-approve, raised_same}
use Rattle.bb8_core.proofs.ShownRecords as of_records
use Rattle.bb8_types.proofs.Numbered as numbered
use Rattle.bb8_core.proofs.ShownLeft.{shut, shown-left, left_few, idle-ended}
use Rattle.bb8_core.proofs.ShownGets.{shown-kept, shown-ended, noticed_later, first_waits}
use Rattle.bb8_core.proofs.Meets.{served, detached_counters, Grants, IsAged, IsEndGrant, ended_records, Tries, Adds}
use Rattle.bb8_core.proofs.Fitting.{shown, as_shown, shown_record, shown_get}

fitting : (b : Bool) (P Q : Type 0) → b ≡ true → P → MatchBool b P Q
fitting b P Q e p = grind (arith, nat_tests)

pub unfitting : (b : Bool) (P Q : Type 0) → b ≡ false → Q → MatchBool b P Q
unfitting true P Q e q = cc
unfitting false P Q e q = q

-- what the test of a number says, by its outcome
pub left : {b : Bool} (n : ℕ) → b ≡ ltb n end_of_numbers → b ≡ true → n < end_of_numbers
left {b} n is e = grind (arith, nat_tests, leb_tells (suc n) end_of_numbers)

pub used_up : {b : Bool} (n : ℕ) → b ≡ ltb n end_of_numbers → b ≡ false → end_of_numbers ≤ n
used_up {b} n is e = grind (arith, nat_tests, leb_tells (suc n) end_of_numbers)

-- a handle is alive where they are not none
pub open_now : (n : ℕ) → n ≢ 0 → 0 < n
open_now n h = omega arith

-- a returned connection is closed as it is broken, or too old or retired, or the pool has
-- ended: whichever is asked first
regrouped : (b o e r : Bool) → (b || (o || (e || r))) ≡ (b || ((o || r) || e))
regrouped b o e r = grind (arith, nat_tests)

pub regroup : (b o e r : Bool) {ended aged x : Bool} → ended ≡ (e || r) → aged ≡ (o || r) → (b || (o || ended)) ≡ x → (b || (aged || e)) ≡ x
regroup b o e r ended_is aged_is h = ap (λ (z : Bool). b || (z || e)) aged_is ∙ sym (regrouped b o e r) ∙ ap (λ (z : Bool). b || (o || z)) (sym ended_is) ∙ h

-- nothing is added
pub none_more : (m : ℕ) → m + 0 ≡ m
none_more m = omega arith

module _ {C : Type 0} where
  pub same_shown : (s t : StateView C) → s.reads ≡ t.reads → s.config ≡ t.config → s.retired ≡ t.retired → s.latest ≡ t.latest → s.handles ≡ t.handles → s.records ≡ t.records → s.gets ≡ t.gets → s.counts ≡ t.counts → s ≡ t
  same_shown s t reads config retired latest handles records gets counts = λ i. record { config = config i; retired = retired i; latest = latest i; handles = handles i; records = records i; gets = gets i; counts = counts i; reads = reads i }

  -- A state that has a ledger keeps the limits. The state is the view of the fields.
  pub within : {s t : StateView C} → s ≡ t → HasLedger s → IsWithinLimits t
  within is (l, legal, means) = ((l, legal, as_shown l is means), λ l legal means. (keeps_limits l legal, keeps_laws l legal, keeps_promises l legal))

  -- a step leads to a state that has a ledger
  pub led : {s : StateView C} (new : StateView C) (at : ℕ) (e : Act C) (a : Answer) → Steps s at e a new → HasLedger new
  led new at e a ((h, limits), meets) = let step = meets h.0 h.1 h.2 in (Later h.0 at e a, (h.1, step.0), step.1)

  pub fits_view : {s t : StateView C} (e : Act C) → s ≡ t → IsFitting t e → IsFitting s e
  fits_view e is f l legal means = f l legal (as_shown l is means)

  -- the records and the gets of a ledger, as they are shown after the event that comes next
  abbrev pub next_records : Ledger C → List (Numbered (Standing C)) → RecordsView C
  next_records l rs = shown_records (start l).first (suc (position l)) (max (peak l) (conns_of rs + approved_of rs)) rs

  abbrev pub next_gets : Ledger C → List (Numbered Getting) → GetsView
  next_gets l gs = shown_gets (start l).first_get (suc (position l)) (max (get_peak l) (alive_of gs)) gs

  -- what an event leaves alone
  pub records_kept : (l : Ledger C) → shown_records (start l).first (suc (position l)) (max (peak l) (conns_of (records l) + approved_of (records l))) (records l) ≡ (shown l).records
  records_kept l = ap machine.with_peak (of_records.shown-later (start l).first (position l) (peak l) (records l) (entered_before l)) ∙ raised_same (shown l).records (peak_holds l)

  pub gets_kept : (l : Ledger C) → shown_gets (start l).first_get (suc (position l)) (max (get_peak l) (alive l)) (gets l) ≡ (shown l).gets
  gets_kept l = shown-kept (start l).first_get (position l) (get_peak l) (gets l) (waited_before l) (get_peak_holds l)

  -- the records of a ledger, shown one position later
  pub later_shown : (l : Ledger C) → shown_records (start l).first (suc (position l)) (peak l) (records l) ≡ (shown l).records
  later_shown l = of_records.shown-later (start l).first (position l) (peak l) (records l) (entered_before l)

  pub gets_told : (l : Ledger C) (n : Option ℕ) → n ≡ oldest_waiter l
      → shown_gets (start l).first_get (suc (position l)) (max (get_peak l) (alive_of (with_notice (start l).first_get n (gets l))))
      (with_notice (start l).first_get n (gets l)) ≡ machine.after_notice n (shown l).gets
  gets_told l n is = noticed_later (start l).first_get (suc (position l)) (get_peak l) (gets l) n (stands n (sym is)) ∙ ap (machine.after_notice n) (gets_kept l)
    where
      stands : (m : Option ℕ) → oldest_waiter l ≡ m → IfSome m (λ k. (g : Getting) × (get_of l k ≡ Some g))
      stands None e = tt
      stands (Some k) e = let w = first_waits (start l).first_get (position l) (gets l) k e in (w.0, w.1)

  -- records that were changed without entry, and approvals that were granted then
  pub changed : (claimed : Bool) (l : Ledger C) (n : ℕ) (rs : List (Numbered (Standing C))) (new : RecordsView C)
      → shown_records (start l).first (suc (position l)) (peak l) rs ≡ new
      → shown_records (start l).first (suc (position l))
      (max (peak l) (conns_of (with_approvals claimed n rs) + approved_of (with_approvals claimed n rs)))
      (with_approvals claimed n rs) ≡ machine.with_peak (machine.after_approvals claimed n new)
  changed claimed l n rs new is = ap machine.with_peak (shown-approve claimed n (start l).first (suc (position l)) (peak l) rs ∙ ap (machine.after_approvals claimed n) is)

  pub grants : {s : StateView C} {claimed : Bool} {taken was : RecordsView C} {wanted : ℕ} {grant : Grant} {rs : RecordsView C} → taken ≡ was
      → wanted ≡ decided.want s.config s.handles taken → machine.IsGrant taken wanted grant → rs ≡ machine.after_grant claimed grant taken
      → Grants s claimed was grant rs
  grants {s} {claimed} {taken} {grant = grant} taken_is wanted_is granted rs_is = grind (arith, nat_tests)

  -- what is granted of what is wanted, by tallies
  pub want_is : (l : Ledger C) (rs : List (Numbered (Standing C))) (g : Grant) (new : RecordsView C) → Before idle_at (position l) rs
      → shown_records (start l).first (position l) (peak l) rs ≡ new → machine.IsGrant new (decided.want (start l).config (handles l) new) g
      → IsWant l rs g
  want_is l rs g new before is granted = grind (arith, nat_tests, idle_counted)

  -- records that are no more than before keep the peak
  pub still_raised : (l : Ledger C) (rs : List (Numbered (Standing C))) (new : RecordsView C)
      → shown_records (start l).first (suc (position l)) (peak l) rs ≡ new → new.conns + new.approved ≤ peak l
      → shown_records (start l).first (suc (position l)) (max (peak l) (conns_of rs + approved_of rs)) rs ≡ new
  still_raised l rs new is few = raised_same _ (subst (λ (t : RecordsView C). t.conns + t.approved ≤ peak l) (sym is) few) ∙ is

  -- a claimed approval ends
  pub approval_ended : (l : Ledger C) (k : ℕ) → stands is_claimed (record_of l k) ≡ true
      → shown_records (start l).first (suc (position l))
      (max (peak l) (conns_of (update (start l).first k after_end (records l)) + approved_of
      (update (start l).first k after_end (records l)))) (update (start l).first k after_end (records l)) ≡ machine.after_close true k
      (shown l).records
  approval_ended l k f =
      let st = standing_is is_claimed (record_of l k) f in
      let is : shown_records (start l).first (suc (position l)) (peak l) (update (start l).first k after_end (records l)) ≡ machine.after_close true k (shown l).records =
      shown-closed (start l).first (suc (position l)) (peak l) (records l) true k st.0 st.1 st.2
      ∙ ap (machine.after_close true k) (later_shown l) in
      let few : conns_of (records l) + approved_of (records l) ≤ peak l = peak_holds l in
      still_raised l _ _ is (omega arith)

  -- ---- put_back

  -- whether a returned connection is too old is what the code finds
  pub old_is : (l : Ledger C) (at k : ℕ) {aged : Bool} → IsAged (shown l) k (max (latest l) at) aged → expires l at k ≡ aged
  old_is l at k is = ap (λ (o : Option (Standing C)). is_expired (start l).config.max_lifetime (max (latest l) at) (birth_in o) || ltb k (retired l))
      (shown_record l (shown l) refl k) ∙ sym is

  -- so it is decided as the code decides
  pub closes_is : (l : Ledger C) (at k : ℕ) (broken : Bool) {aged closing : Bool}
      → IsAged (shown l) k (max (latest l) at) aged → (broken || (aged || eqb (handles l) 0)) ≡ closing → closes l at k broken ≡ closing
  closes_is l at k broken is_aged is = ap (λ (b : Bool). broken || (b || eqb (handles l) 0)) (old_is l at k is_aged) ∙ is

  pub kept_shown : (l : Ledger C) (at k : ℕ) (c : C) (st : Standing C) → record_of l k ≡ Some st → is_out st.place ≡ true
      → next_records l (with_record l k (at_entry c (max (latest l) at) (position l))) ≡ machine.after_return k c (max (latest l) at) (shown l).records
  kept_shown l at k c st stands_there out_now =
      let few : conns_of (records l) + approved_of (records l) ≤ peak l = peak_holds l in
      let m : ℕ = max (latest l) at in
      let is = shown-entered (start l).first (position l) (peak l) (records l) false k st c (birth_in (record_of l k)) m
      (at_entry c m (position l)) (entered_before l) stands_there out_now
      (λ r e. ap (λ (o : Option (Standing C)). entry c (birth_in o) m (position l)) (e ∙ sym stands_there)) in
      ap machine.with_peak is ∙ raised_same _ (omega arith)
      ∙ ap (λ (o : Option (Standing C)). machine.after_entry false k (record { place = Idle c; birth = birth_in o; entered = m })
      (shown l).records) (shown_record l (shown l) refl k)

  pub ended_shown : (l : Ledger C) (k : ℕ) (st : Standing C) (grant : Grant) → record_of l k ≡ Some st → is_out st.place ≡ true
      → IsEndGrant (shown l) k grant → IsWant l (with_record l k after_end) grant
      × (next_records l (with_approvals false grant.count (with_record l k after_end)) ≡ ended_records (shown l) k grant)
  ended_shown l k st grant stands_there out_now granted =
      grind (
        arith,
        nat_tests,
        shown-closed (start l).first (position l) (peak l) (records l) false k st stands_there out_now,
        shown-closed (start l).first (suc (position l)) (peak l) (records l) false k st stands_there out_now,
        later_shown l,
        want_is l (with_record l k after_end) grant,
        ended_before (position l) (start l).first k (records l),
        entered_before l,
        changed false l grant.count (with_record l k after_end),
      )

  -- a connection that leaves counts once
  pub leaves_counted : (l : Ledger C) (was : Counters) → counts l ≡ counts_held was → record (counts l) { broken = (counts l).broken + 0; detached = detached l + 1 } ≡ counts_held (detached_counters was)
  leaves_counted l was were = ap (λ (m : ℕ). record (counts l) { broken = m; detached = detached l + 1 }) (none_more ((counts l).broken)) ∙ ap (λ (x : Counts). record x { detached = x.detached + 1 }) were

  -- ---- evict

  -- the records once an idle one has ended, wherever it was in line
  pub evicted_at : (l : Ledger C) (p k : ℕ) → stands is_idle (record_of l k) ≡ true
      → shown_records (start l).first p (peak l) (with_record l k after_end) ≡ after_reaped k (shown_records (start l).first p (peak l) (records l))
  evicted_at l p k f =
      let st = standing_is is_idle (record_of l k) f in
      let m = numbered.standing_found (records l) (start l).first k st.0 st.1 in
      ap (shown_records (start l).first p (peak l)) (numbered.update_is (records l) (start l).first k after_end m.0 m.1)
      ∙ idle-ended (start l).first p (peak l) (records l) k m.0 m.1 (ap (stands is_idle) m.2 ∙ st.2)
      (numbered.in_order-change_off idle_at (records l) (start l).first k (after_end m.0) (λ q. refl) p)

  -- what a state shows is what its ledger says
  pub figures_told : (s : StateView C) (l : Ledger C) → Represents l s → record { connections = s.records.conns; idle = length s.records.idle; counts = s.counts } ≡ figures l
  figures_told s l means = grind (arith, nat_tests, idle_tally l)

  -- ---- try

  -- what the counters keep of the waits is what a ledger says of them
  pub same_micros : (l : Ledger C) (was : Counters) → counts l ≡ counts_held was → wait_micros l ≡ was.wait_micros
  same_micros l was were = omega (arith, ap (λ (x : Counts). x.wait_time) were)

  pub count_served : (l : Ledger C) (at g k : ℕ) (grant : Grant) (was : Counters) → counts l ≡ counts_held was
      → counts (Later l at (Try g) (Served k grant)) ≡ counts_held
      (served was (max (latest l) at) (first_wait_of (get (shown l).gets.places g)))
  count_served l at g k grant was were = grind (arith, nat_tests, same_micros l, shown_get l (shown l))

  -- whether what goes out is checked is what is decided
  pub checked_is : (l : Ledger C) (at k : ℕ) → asks_check l at k ≡ decided.asks_check (shown l) at k
  checked_is l at k = ap (λ (o : Option (Standing C)). is_checked (start l).config (max (latest l) at) (entered_in o)) (shown_record l (shown l) refl k)

  pub tries : (s : StateView C) {g : ℕ} {o : Option Getting} {b : Bool} → o ≡ get s.gets.places g → b ≡ gets_stand is_trying o → b ≡ true → Tries s g o
  tries s {g} get_is b_is on = record { fit = λ l legal means. ap (gets_stand is_trying) (shown_get l s means g ∙ sym get_is) ∙ sym b_is ∙ on; get_is = get_is }

  -- a test of the get, as it is shown
  pub line_test : (l : Ledger C) (g : ℕ) {b : Bool} {o : Option Getting} → o ≡ get (shown l).gets.places g → gets_stand is_unnotified o ≡ b → gets_stand is_unnotified (get_of l g) ≡ b
  line_test l g get_is is = ap (gets_stand is_unnotified) (shown_get l (shown l) refl g ∙ sym get_is) ∙ is

  -- a get that ends
  pub ended_gets : (l : Ledger C) (g : ℕ) (st : Getting) → get_of l g ≡ Some st → next_gets l (update (start l).first_get g after_end (gets l)) ≡ machine.after_get_end g (shown l).gets
  ended_gets l g st is = shown-ended (start l).first_get (position l) (get_peak l) (gets l) g st (waited_before l) (get_peak_holds l) is

  -- the first idle connection goes out, and what is wanted then is granted
  pub taken_shown : (l : Ledger C) (out : Place C) (k : ℕ) (grant : Grant) → is_out out ≡ true
      → first_of (start l).config.queue_strategy (shown l).records.idle ≡ Some k
      → machine.IsGrant (machine.after_take out k (shown l).records) (decided.want (start l).config (handles l) (machine.after_take out k (shown l).records)) grant
      → IsWant l (with_record l k (at_place out)) grant
      × (next_records l (with_approvals false grant.count (with_record l k (at_place out))) ≡ machine.after_grant false grant
      (machine.after_take out k (shown l).records))
  taken_shown l out k grant out_now first granted =
      let j : ℕ = first_place (start l).config.queue_strategy (length (idle l)) in
      let rs : List (Numbered (Standing C)) = with_record l k (at_place out) in
      let off = idle_from false out out_now in
      let is : shown_records (start l).first (position l) (peak l) rs ≡ machine.after_take out k (shown l).records =
      shown-taken (start l).first (position l) (peak l) (records l) out k j off (unclaimed_from false out out_now)
      (conn_from false out out_now) first in
      let first_later : slice_get (shown_records (start l).first (suc (position l)) (peak l) (records l)).idle j ≡ Some k = ap (λ (x : RecordsView C). slice_get x.idle j) (later_shown l) ∙ first in
      let later : shown_records (start l).first (suc (position l)) (peak l) rs ≡ machine.after_take out k (shown l).records =
      shown-taken (start l).first (suc (position l)) (peak l) (records l) out k j off (unclaimed_from false out out_now)
      (conn_from false out out_now) first_later ∙ ap (machine.after_take out k) (later_shown l) in
      (want_is l rs grant _ (put_before (position l) (start l).first k out (records l) off (entered_before l)) is granted, changed false l grant.count rs _ later)

  -- what is due to a get that waits is granted
  pub waiting_due : (l : Ledger C) {taken : RecordsView C} {alive_now due_now : ℕ} {grant : Grant} → taken ≡ (shown l).records → alive_now ≡ alive l
      → due_now ≡ due (start l).config (handles l) (taken.conns + taken.approved) (one (ltb taken.approved alive_now)) → machine.IsGrant taken due_now grant
      → IsGranted (next l) (conns l + approved l) (peak l) (due (start l).config (handles l) (conns l + approved l) (one (ltb (approved l) (alive l)))) grant
  waiting_due l taken_is alive_is due_is granted = grind (arith, nat_tests)

  -- the records after the leave of the last handle
  pub shut_shown : (l : Ledger C) → next_records l (shut (records l)) ≡ machine.after_leave (shown l).records
  shut_shown l =
      let is : shown_records (start l).first (suc (position l)) (peak l) (shut (records l)) ≡ machine.after_leave (shown l).records =
      shown-left (start l).first (suc (position l)) (peak l) (records l)
      (before_later idle_at (records l) (position l) (entered_before l)) ∙ ap machine.after_leave (later_shown l) in
      still_raised l (shut (records l)) _ is (omega (arith, peak_holds l, left_few (shown l).records))

  pub has_capacity : {s t : StateView C} {c : C} {used : ℕ} → s ≡ t → IsFitting t (Add c false) → used ≡ s.records.conns + s.records.approved → used ≢ s.config.max_size → Adds s c
  has_capacity {c = c} is fit used_is room = record { fit = fits_view (Add c false) is fit; room = λ e. room (used_is ∙ e) }
