-- The step table: which events fit, and which results each may have.
use Rattle.std.specs.Prelude.{◌≡◌, ◌≢◌, ℕ, ◌+◌, ◌-◌, ◌<◌, ◌≤◌, max, Bool, true, false, ◌&&◌, ◌||◌, not, eqb, ltb, cond, Option, Some, None, is_some, slice_get, length, List}
use Rattle.std.specs.Bool.{MatchBool}
use Rattle.bb8_types.specs.declared.grants.Grant.{Grant}
use Rattle.bb8_types.specs.declared.standing.Standing.{Standing}
use Rattle.bb8_types.specs.declared.standing.Place.TheVariants.{Guarded, Held}
use Rattle.bb8_types.specs.Settings.{is_lawful}
use Rattle.bb8_types.specs.Numbered.{Numbered, update, one, after_end}
use Rattle.bb8_ledger.specs.Acts.{Act, Begin, Try, CheckedOk, CheckedErr, GiveUp, PutBack, Detach, Evict, Fill, Ask, Claim, Opened, Failed, Add, Reap, Retire, State, Join, Leave, Close, Look, Reason}
use Rattle.bb8_ledger.specs.Answers.{Answer, Begun, Memory, Exhausted, Served, Taken, Waiting, Kept, Closed, GaveUp, Granted, Claimed, Ended, Entered, Late, GivenBack, Added, Broken, NoCapacity, Withheld, Reaped, Shown, Joined, Left, Looked, Unfit}
use Rattle.bb8_ledger.specs.Ledger.{Ledger, Opening, Later, start, position, latest, records, handles, next, next_get, conns, approved, conns_of, approved_of, idle_of, alive, unnotified, idle_count, first_idle, oldest_waiter, unclaimed, peak, get_peak, record_of, get_of, at_place, reaped, outlived, idled, retiring, with_ended, retired, expires, asks_check, figures}
use Rattle.bb8_types.specs.Places.{stands, gets_stand, holds, is_claimed, is_doubtful, is_guarded, is_idle, is_unnotified, is_notified, is_trying}
use Rattle.bb8_types.specs.Grants.{due, lacking, IsGranted, IsNoGrant}
use Rattle.bb8_types.specs.Bounds.{end_of_numbers, most_handles}

-- whether two tests agree
abbrev pub agree : Bool → Bool → Bool
agree a b = cond a b (not b)

module _ {C : Type 0} where
  -- Which events fit. A give-up hands in a connection exactly if the get holds one.
  abbrev pub fits : Ledger C → Act C → Bool
  fits l Begin = ltb 0 (handles l)
  fits l (Try g) = gets_stand is_trying (get_of l g)
  fits l (CheckedOk g) = is_some (holds (get_of l g))
  fits l (CheckedErr g broken) = is_some (holds (get_of l g))
  fits l (GiveUp g why held broken) = is_some (get_of l g) && agree (is_some held) (is_some (holds (get_of l g)))
  fits l (PutBack k c broken) = stands is_guarded (record_of l k)
  fits l (Detach k) = stands is_guarded (record_of l k)
  fits l (Evict k) = stands is_idle (record_of l k)
  fits l (Fill claimed) = true
  fits l Ask = true
  fits l Claim = true
  fits l (Opened a c) = stands is_claimed (record_of l a)
  fits l (Failed a) = stands is_claimed (record_of l a)
  fits l (Add c broken) = ltb 0 (handles l)
  fits l Reap = true
  fits l Retire = true
  fits l State = true
  fits l Join = ltb 0 (handles l)
  fits l Leave = ltb 0 (handles l)
  fits l Close = ltb 0 (handles l)
  fits l Look = true

  -- want: whether a grant of the lacking approvals is allowed, after the records have changed to
  -- these
  abbrev pub IsWant : Ledger C → List (Numbered (Standing C)) → Grant → Type 0
  IsWant l rs g =
      let taken : ℕ = conns_of rs + approved_of rs in
      IsGranted ((start l).first + length rs) taken (peak l) (due (start l).config (handles l) taken (lacking (start l).config (idle_of rs + approved_of rs))) g

  -- the records after the one with the number k has changed
  abbrev pub with_record : Ledger C → ℕ → (Numbered (Standing C) → Numbered (Standing C)) → List (Numbered (Standing C))
  with_record l k f = update (start l).first k f (records l)

  -- return: whether a returned connection is closed, because it is broken, has expired, or no
  -- handle is alive
  abbrev pub closes : Ledger C → ℕ → ℕ → Bool → Bool
  closes l at k broken = broken || (expires l at k || eqb (handles l) 0)

  -- whether the connection of an approval comes too late: no handle is alive, or it is retired
  abbrev pub comes_late : Ledger C → ℕ → Bool
  comes_late l k = eqb (handles l) 0 || ltb k (retired l)

  -- the numbers of the records that a reap ends
  abbrev pub reaped_at : Ledger C → ℕ → List ℕ
  reaped_at l at = reaped (start l) (position l) (max (latest l) at) (records l)

  -- those of them that live too long
  abbrev pub outlived_at : Ledger C → ℕ → List ℕ
  outlived_at l at = outlived (start l) (max (latest l) at) (records l)

  -- those of them that are idle too long
  abbrev pub idled_at : Ledger C → ℕ → List ℕ
  idled_at l at = idled (start l) (position l) (max (latest l) at) (with_ended (start l).first (outlived_at l at) (records l))

  -- the numbers of the records that a retire ends: as in a reap in which each idle one lives too
  -- long
  abbrev pub retired_at : Ledger C → ℕ → List ℕ
  retired_at l at = reaped (retiring (start l)) (position l) (max (latest l) at) (records l)

  -- the count of unnotified waiters without an open approval; a notified waiter tries by itself,
  -- and then requests its own
  abbrev pub unprovided : Ledger C → ℕ
  unprovided l = unnotified l - approved l

  -- the count of idle records that end when a handle leaves
  abbrev pub leave_count : Ledger C → ℕ
  leave_count l = cond (eqb (handles l) 1) (idle_count l) 0

  -- The rows of the step table: an event that fits, at a moment, with a result that it may have.
  pub data Row (l : Ledger C) (at : ℕ) : Act C → Answer → Type 0 where
    begins : {g : ℕ} → g ≡ next_get l → g < end_of_numbers → Row l at Begin (Begun g)
    begin_refused : next_get l < end_of_numbers → alive l ≡ get_peak l → Row l at Begin Memory
    begin_exhausted : end_of_numbers ≤ next_get l → Row l at Begin Exhausted
    waits_on : {g : ℕ} {grant : Grant} → gets_stand is_unnotified (get_of l g) ≡ true → IsNoGrant (next l) grant → Row l at (Try g) (Waiting grant)
    serves : {g k : ℕ} {grant : Grant} → gets_stand is_unnotified (get_of l g) ≡ false → asks_check l at k ≡ false
        → first_idle l ≡ Some k → IsWant l (with_record l k (at_place Guarded)) grant → Row l at (Try g) (Served k grant)
    takes_out : {g k : ℕ} {grant : Grant} → gets_stand is_unnotified (get_of l g) ≡ false → asks_check l at k ≡ true
        → first_idle l ≡ Some k → IsWant l (with_record l k (at_place (Held g))) grant → Row l at (Try g) (Taken k grant)
    waits : {g : ℕ} {grant : Grant} → gets_stand is_unnotified (get_of l g) ≡ false → first_idle l ≡ None
        → IsGranted (next l) (conns l + approved l) (peak l)
        (due (start l).config (handles l) (conns l + approved l) (one (ltb (approved l) (alive l)))) grant
        → Row l at (Try g) (Waiting grant)
    checks : {g k : ℕ} {grant : Grant} → holds (get_of l g) ≡ Some k → IsNoGrant (next l) grant → Row l at (CheckedOk g) (Served k grant)
    check_fails : {g k : ℕ} {broken : Bool} {grant : Grant} {n : Option ℕ} → holds (get_of l g) ≡ Some k
        → IsWant l (with_record l k after_end) grant → n ≡ oldest_waiter l → Row l at (CheckedErr g broken) (Closed k grant n)
    gives_up : {g : ℕ} {why : Reason} {broken : Bool} {n : Option ℕ} → n ≡ cond (gets_stand is_notified (get_of l g)) (oldest_waiter l) None → Row l at (GiveUp g why None broken) (GaveUp n)
    gives_up_kept : {g k : ℕ} {why : Reason} {c : C} {broken : Bool} {n : Option ℕ} → holds (get_of l g) ≡ Some k
        → closes l at k (is_doubtful (start l).config broken) ≡ false → n ≡ oldest_waiter l
        → Row l at (GiveUp g why (Some c) broken) (Kept k n)
    gives_up_closed : {g k : ℕ} {why : Reason} {c : C} {broken : Bool} {grant : Grant} {n : Option ℕ} → holds (get_of l g) ≡ Some k
        → closes l at k (is_doubtful (start l).config broken) ≡ true → IsWant l (with_record l k after_end) grant → n ≡ oldest_waiter l
        → Row l at (GiveUp g why (Some c) broken) (Closed k grant n)
    keeps : {k : ℕ} {c : C} {broken : Bool} {n : Option ℕ} → closes l at k broken ≡ false → n ≡ oldest_waiter l → Row l at (PutBack k c broken) (Kept k n)
    returns_closed : {k : ℕ} {c : C} {broken : Bool} {grant : Grant} {n : Option ℕ} → closes l at k broken ≡ true
        → IsWant l (with_record l k after_end) grant → n ≡ oldest_waiter l → Row l at (PutBack k c broken) (Closed k grant n)
    detaches : {k : ℕ} {grant : Grant} {n : Option ℕ} → IsWant l (with_record l k after_end) grant → n ≡ oldest_waiter l → Row l at (Detach k) (Closed k grant n)
    evicts : {k : ℕ} {grant : Grant} {n : Option ℕ} → IsWant l (with_record l k after_end) grant → n ≡ oldest_waiter l → Row l at (Evict k) (Closed k grant n)
    fills : {claimed : Bool} {grant : Grant} → IsWant l (records l) grant → Row l at (Fill claimed) (Granted grant)
    asks_for : {grant : Grant} → IsGranted (next l) (conns l + approved l) (peak l)
        (due (start l).config (handles l) (conns l + approved l) (unprovided l)) grant → Row l at Ask (Granted grant)
    claims : {k : Option ℕ} → 0 < handles l → slice_get (unclaimed l) 0 ≡ k → Row l at Claim (Claimed k)
    claim_ended : handles l ≡ 0 → Row l at Claim Ended
    opens : {k : ℕ} {c : C} {n : Option ℕ} → comes_late l k ≡ false → n ≡ oldest_waiter l → Row l at (Opened k c) (Entered k n)
    opens_late : {k : ℕ} {c : C} → comes_late l k ≡ true → Row l at (Opened k c) (Late k)
    fails : {k : ℕ} → Row l at (Failed k) GivenBack
    add_broken : {c : C} → Row l at (Add c true) Broken
    add_full : {c : C} → conns l + approved l ≡ (start l).config.max_size → Row l at (Add c false) NoCapacity
    add_exhausted : {c : C} → conns l + approved l ≢ (start l).config.max_size → end_of_numbers ≤ next l → Row l at (Add c false) Withheld
    add_refused : {c : C} → conns l + approved l ≢ (start l).config.max_size → next l < end_of_numbers → conns l + approved l ≡ peak l → Row l at (Add c false) Withheld
    adds : {k : ℕ} {c : C} {n : Option ℕ} → conns l + approved l ≢ (start l).config.max_size → next l < end_of_numbers → k ≡ next l → n ≡ oldest_waiter l → Row l at (Add c false) (Added k n)
    reap_ended : handles l ≡ 0 → Row l at Reap Ended
    reaps : {closed by_idle by_life : ℕ} {grant : Grant} → 0 < handles l → closed ≡ length (reaped_at l at)
        → by_idle ≡ length (idled_at l at) → by_life ≡ length (outlived_at l at)
        → IsWant l (with_ended (start l).first (reaped_at l at) (records l)) grant
        → Row l at Reap (Reaped closed by_idle by_life grant)
    retire_ended : handles l ≡ 0 → Row l at Retire Ended
    retires : {closed : ℕ} {grant : Grant} → 0 < handles l → closed ≡ length (retired_at l at)
        → IsWant l (with_ended (start l).first (retired_at l at) (records l)) grant
        → Row l at Retire (Reaped closed 0 0 grant)
    shows : Row l at State (Shown (figures l))
    joins : handles l < most_handles → Row l at Join Joined
    join_exhausted : most_handles ≤ handles l → Row l at Join Exhausted
    leaves : {n : ℕ} → n ≡ leave_count l → Row l at Leave (Left n)
    shuts : {n : ℕ} → n ≡ idle_count l → Row l at Close (Left n)
    looks : {m : ℕ} {open_now : Bool} → m ≡ max (latest l) at → open_now ≡ ltb 0 (handles l) → Row l at Look (Looked m open_now)

  -- Allowed results: an event that fits has a result of the table, any other Unfit.
  abbrev pub Allowed : Ledger C → ℕ → Act C → Answer → Type 0
  Allowed l at e a = MatchBool (fits l e) (Row l at e a) (a ≡ Unfit)

  -- A legal ledger: its configuration is lawful, and every result in it was allowed.
  abbrev pub IsLegal : Ledger C → Type 0
  IsLegal (Opening s) = is_lawful s.config ≡ true
  IsLegal (Later l at e a) = IsLegal l × Allowed l at e a
