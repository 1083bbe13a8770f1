-- What each row of the step table does to the sizes, the numbers and the statistics.
use Rattle.bb8_ledger.proofs.Words.{⊤, ◌≡◌, ◌⊎◌, ℕ, ◌+◌, ◌-◌, ◌<◌, ◌≤◌, min, Bool, true, false, not, ltb, eqb, ◌&&◌, ◌||◌, List, Option, Some, None, is_some, ap, arith, length-append, Grant, Guarded, Held, Standing, Settings, Numbered, one, due, Act, Try, CheckedOk, GiveUp, Reason, Answer, Getting, gets_stand, is_unnotified, is_notified, Closed, Kept, cond, oldest_waiter, Entered, Reaped, Unfit, Ledger, Later, start, handles, idle, idle_count, first_idle, unnotified, notified, conns, approved, conns_of, approved_of, alive, expires, waited_since, started, direct, waited, timed_out, cancelled, created, broken, expired, invalid, idled_out, retired, closed_retired, detached, get_of, Row, begins, waits_on, serves, takes_out, waits, checks, check_fails, gives_up, gives_up_kept, gives_up_closed, keeps, returns_closed, detaches, evicts, fills, asks_for, unprovided, claims, opens, opens_late, fails, adds, reaps, retires, joins, leaves, shuts, IsWant, IsLegal, fits, outlived_at, idled_at, GivesNext, numbers_given, gets_given, lost, and_right, nat_tests, is_doubtful}
use Rattle.bb8_ledger.specs.Handed.{notified_by, brought_by, waiters, unasked, missed, closes_told, places_lost}
use Rattle.bb8_ledger.proofs.Effects.{returns_turn, closes_turn, evicts_turn, opens_turn, ends_turn, idle_turns, unclaimed_turns, stays_sized, turned_sized, adds_sized, granted_sized, reaped_sized, retired_sized, granted_reaped, left_sized, shut_sized}
use Rattle.bb8_ledger.proofs.GetEffects.{trier_leaves, trier_holds, holder_ends, holder_turns, left_sums, left_told, begun_sums, waits_on_sums, waits_sums, told_sums, given_up_sums}
use Rattle.bb8_ledger.proofs.Facts.{idle_tally, none_first}
use Rattle.bb8_ledger.proofs.Wants.{due_or_none}
use Rattle.bb8_ledger.proofs.Held.{checks_turn, drops_turn, hands_in_turn}

-- ---- words for the sums

-- how many connections an answer says were closed
abbrev ended_by : Answer → ℕ
ended_by (Closed k grant n) = 1
ended_by (Reaped closed by_idle by_life grant) = closed
ended_by _ = 0

-- how many connections an answer says that approvals brought
abbrev entered_by : Answer → ℕ
entered_by (Entered k n) = 1
entered_by _ = 0

pub due_few : (config : Settings) (handles taken asked : ℕ) → due config handles taken asked ≤ config.max_size - taken
due_few config handles taken asked = grind arith

one_of : (b r x : Bool) → one b + one (not b && r) + one (not b && (not r && x)) ≤ 1
one_of b r x = grind (arith, nat_tests)

-- what is kept is kept while a handle is alive
kept_open : (broken expired : Bool) (handles : ℕ) → (broken || (expired || eqb handles 0)) ≡ false → 0 < handles
kept_open broken e n kept = grind (arith, nat_tests)

-- what comes in time comes while a handle is alive
open_in_time : (handles : ℕ) (r : Bool) → (eqb handles 0 || r) ≡ false → 0 < handles
open_in_time handles r in_time = grind (arith, nat_tests)

-- a served get counts once
either_one : (b : Bool) → one (not b) + one b ≡ 1
either_one b = grind (arith, nat_tests)

-- one is asked for, or there are enough
one_or_enough : (have need : ℕ) → (one (ltb have need) ≡ 1) ⊎ (need ≤ have)
one_or_enough have need = grind arith

-- where there is none it is this, and where there is one it is that
none_or_some : (n this that : ℕ) → ((n ≡ 0) × (cond (eqb n 0) this that ≡ this)) ⊎ ((0 < n) × (cond (eqb n 0) this that ≡ that))
none_or_some n this that = grind (arith, nat_tests)

-- a handle is alive
is_open : (n : ℕ) → ltb 0 n ≡ true → 0 < n
is_open n e = grind (arith, nat_tests, e)

-- there is one, or none
one_if_some : (n : ℕ) → one (ltb 0 n) ≡ min 1 n
one_if_some n = grind arith

-- who was not notified is not among the notified
pub untold : (o : Option Getting) → gets_stand is_unnotified o ≡ true → gets_stand is_notified o ≡ false
untold o on = grind (arith, nat_tests)

-- how far the notified waiters may be fewer after an event, where so many are not notified then
abbrev Lowers : {C : Type 0} → Act C → ℕ → ℕ → Type 0
Lowers (Try g) less unnotified = ⊤
Lowers (GiveUp g why held broken) less unnotified = min less unnotified ≡ 0
Lowers _ less unnotified = less ≡ 0

module _ {C : Type 0} where
  -- nobody is idle where nobody is first
  pub idle_none : (l : Ledger C) → first_idle l ≡ None → idle_count l ≡ 0
  idle_none l none = omega (arith, idle_tally l, none_first (start l).config.queue_strategy (idle l) none)

  -- what is granted is within the size
  wanted_few : (l : Ledger C) (rs : List (Numbered (Standing C))) (g : Grant) → IsWant l rs g → g.count ≤ (start l).config.max_size - (conns_of rs + approved_of rs)
  wanted_few l rs g want = grind (arith, due_few)

  -- whether a get in this state is notified
  told_place : (l : Ledger C) (g : ℕ) (st : Getting) → get_of l g ≡ Some st → one (gets_stand is_notified (get_of l g)) ≡ one (is_notified st.place)
  told_place l g st was = ap (λ (o : Option Getting). one (gets_stand is_notified o)) was

  -- a get that gives up counts once
  gave_up : (l : Ledger C) (at g : ℕ) (why : Reason) (held : Option C) (broken : Bool) (a : Answer) → (a ≡ Unfit → ⊥)
      → timed_out (Later l at (GiveUp g why held broken) a) + cancelled (Later l at (GiveUp g why held broken) a) ≡ timed_out l + cancelled l + 1
  gave_up l at g why held broken a off = grind (arith, nat_tests)

  -- While somebody waits unnotified, the idle ones do not outnumber the notified ones; while a
  -- handle is alive, the unnotified ones do not outnumber the open approvals, or what could still
  -- serve is promised, but for what was lost; while none is, nothing is idle.
  pub record Serves (l : Ledger C) : Type 0 where
    pub served : min (unnotified l) (idle_count l - notified l) ≡ 0
    pub promised : min (handles l) (min (unnotified l - (approved l + lost l)) ((start l).config.max_size - (conns l + approved l) + idle_count l - (notified l + lost l))) ≡ 0
    pub none_idle : min (1 - handles l) (idle_count l) ≡ 0

  -- how many notified gets an event is the try of: one or none
  abbrev pub notified_in : Ledger C → Act C → ℕ
  notified_in l (Try g) = one (gets_stand is_notified (get_of l g))
  notified_in l _ = 0

  -- nobody waits, or nothing is idle, or the event is the try of a notified get
  abbrev pub IsMet : Ledger C → Act C → Type 0
  IsMet l e = min (waiters l) (min (idle_count l) (1 - notified_in l e)) ≡ 0

  -- no more are notified, or have waited anew, than closes notified a get, but for one where a
  -- connection is idle
  abbrev pub LosesFew : Ledger C → Type 0
  LosesFew l = notified l + places_lost l ≤ closes_told l + min 1 (min (notified l) (idle_count l))

  -- who waits is provided for, as `IsProvided` says
  abbrev pub Provides : Ledger C → Type 0
  Provides l = min (handles l) (min (waiters l - (approved l + idle_count l + missed l)) ((start l).config.max_size - (conns l + approved l + missed l + unasked l))) ≡ 0

  -- where a get waits unnotified, one is first
  some_told : (l : Ledger C) (n : Option ℕ) → n ≡ oldest_waiter l → min 1 (unnotified l) ≤ one (is_some n)
  some_told l n is = grind (arith, nat_tests, told_sums l None)

  -- ---- the sums of a row

  -- An answer gives the next numbers, the size is kept, each connection that ends is counted as one
  -- that was there, and each get that began has one result or is alive.
  pub record Sums (l : Ledger C) (at : ℕ) (e : Act C) (a : Answer) : Type 0 where
    pub gives : GivesNext l at e a
    pub size : conns l + approved l ≤ (start l).config.max_size → conns (Later l at e a) + approved (Later l at e a) ≤ (start l).config.max_size
    pub all_few : conns (Later l at e a) + approved (Later l at e a) + ended_by a ≤ conns l + approved l + numbers_given a
    pub approved_few : approved (Later l at e a) + entered_by a ≤ approved l + numbers_given a
    pub created_are : created (Later l at e a) ≡ created l + entered_by a
    pub closed_few : broken (Later l at e a) + closed_retired (Later l at e a) + expired (Later l at e a) + detached (Later l at e a)
        ≤ broken l + closed_retired l + expired l + detached l + ended_by a
    pub invalid_few : invalid (Later l at e a) + idled_out (Later l at e a) ≤ invalid l + idled_out l + ended_by a
    pub started_are : started (Later l at e a) ≡ started l + gets_given a
    pub answered_are : direct (Later l at e a) + waited (Later l at e a) + timed_out (Later l at e a) + cancelled (Later l at e a) + alive
        (Later l at e a) ≡ direct l + waited l + timed_out l + cancelled l + alive l + gets_given a
    pub serves : conns l + approved l ≤ (start l).config.max_size → Serves l → Serves (Later l at e a)
    pub remembers : Lowers e (notified l - notified (Later l at e a)) (unnotified (Later l at e a))
    pub told_few : notified (Later l at e a) + notified_in l e ≤ notified l + one (is_some (notified_by a))
    pub settles : IsMet l e → min (waiters l) (idle_count l - 1) ≡ 0 → min (waiters (Later l at e a)) (idle_count (Later l at e a) - one (is_some (brought_by a))) ≡ 0
    pub loses : IsMet l e → LosesFew l → LosesFew (Later l at e a)
    pub provides : IsMet l e → Provides l → Provides (Later l at e a)
    pub asks : IsMet l e → notified l ≤ notified_in l e → unasked l ≤ notified_in l e - idle_count l → unasked (Later l at e a) ≤ one (is_some (notified_by a)) - idle_count (Later l at e a)

  pub row_sums : (l : Ledger C) (at : ℕ) (e : Act C) (a : Answer) → IsLegal l → fits l e ≡ true → Row l at e a → Sums l at e a
  row_sums l at _ _ legal f (begins {g} is few) = omega (arith, begun_sums l)
  row_sums l at _ _ legal f (waits_on {g} {grant} on nothing) = grind (arith, nat_tests, granted_sized false grant.count (stays_sized l), stays_sized l, waits_on_sums l, untold (get_of l g) on)
  row_sums l at _ _ legal f (serves {g} {k} {grant} not_waiting off first want) =
      let z = turned_sized (idle_turns l k Guarded first).1 in
      let t = trier_leaves l g f not_waiting in
      omega (arith, z, granted_sized false grant.count z, wanted_few l _ grant want, left_sums t, told_place l g t.standing t.was, either_one (is_some (waited_since l (Try g))))
  row_sums l at _ _ legal f (takes_out {g} {k} {grant} not_waiting on first want) =
      let z = turned_sized (idle_turns l k (Held g) first).1 in
      let t = trier_holds l g k f not_waiting in
      omega (arith, z, granted_sized false grant.count z, wanted_few l _ grant want, left_sums t, told_place l g t.standing t.was)
  row_sums l at _ _ legal f (waits {g} {grant} not_waiting none granted) =
      let asked : ℕ = one (ltb (approved l) (alive l)) in
      omega (
        arith,
        granted_sized false grant.count (stays_sized l),
        waits_sums l at g f not_waiting,
        due_few (start l).config (handles l) (conns l + approved l) asked,
        due_or_none (start l).config (handles l) (conns l + approved l) asked,
        one_or_enough (approved l) (alive l),
        idle_none l none,
        ap (λ (b : Bool). cond b (unasked l) (unasked l - 1)) not_waiting,
      )
  row_sums l at _ _ legal f (checks {g} {k} holds_it nothing) =
      let t = holder_ends l g k holds_it in
      omega (arith, turned_sized (checks_turn l g k legal holds_it), left_sums t.0, ap one t.1, either_one (is_some (waited_since l (CheckedOk g))))
  row_sums l at _ _ legal f (check_fails {g} {k} {broken = b} {grant} {n} holds_it want is) =
      let z = turned_sized (drops_turn l g k legal holds_it) in
      let t = holder_turns l g k holds_it in
      omega (
        arith,
        z,
        granted_sized false grant.count z,
        wanted_few l _ grant want,
        left_sums t.0,
        left_told t.0 n is,
        some_told l n is,
        one_if_some (waiters l),
        ap one t.1,
        one_of b (ltb k (retired l)) (expires l at k),
      )
  row_sums l at _ _ legal f (gives_up {g} {why} {broken} {n} is) = grind (arith, nat_tests, given_up_sums l g n, and_right (is_some (get_of l g)), gave_up l)
  row_sums l at _ _ legal f (gives_up_kept {g} {k} {why} {c} {broken = b} {n} holds_it keep is) =
      let t = holder_ends l g k holds_it in
      omega (arith, kept_open (is_doubtful (start l).config b) (expires l at k) (handles l) keep, turned_sized (hands_in_turn l at g k c legal holds_it), left_sums t.0, left_told t.0 n is, some_told l n is, ap one t.1, gave_up l at g why (Some c) b (Kept k n) (λ e. cc))
  row_sums l at _ _ legal f (gives_up_closed {g} {k} {why} {c} {broken = b} {grant} {n} holds_it shut want is) =
      let z = turned_sized (drops_turn l g k legal holds_it) in
      let t = holder_ends l g k holds_it in
      omega (
        arith,
        z,
        granted_sized false grant.count z,
        wanted_few l _ grant want,
        left_sums t.0,
        left_told t.0 n is,
        some_told l n is,
        one_if_some (waiters l),
        ap one t.1,
        one_of (is_doubtful (start l).config b) (ltb k (retired l)) (expires l at k),
        gave_up l at g why (Some c) b (Closed k grant n) (λ e. cc),
      )
  row_sums l at _ _ legal f (keeps {k} {c} {broken = b} {n} keep is) = omega (arith, kept_open b (expires l at k) (handles l) keep, turned_sized (returns_turn l at k c f), told_sums l n is, some_told l n is)
  row_sums l at _ _ legal f (returns_closed {k} {c} {broken = b} {grant} {n} shut want is) =
      let z = turned_sized (closes_turn l k f) in
      omega (arith, z, granted_sized false grant.count z, wanted_few l _ grant want, told_sums l n is, some_told l n is, one_if_some (waiters l), one_of b (ltb k (retired l)) (expires l at k))
  row_sums l at _ _ legal f (detaches {k} {grant} {n} want is) =
      let z = turned_sized (closes_turn l k f) in
      omega (arith, z, granted_sized false grant.count z, wanted_few l _ grant want, told_sums l n is, some_told l n is, one_if_some (waiters l))
  row_sums l at _ _ legal f (evicts {k} {grant} {n} want is) =
      let z = turned_sized (evicts_turn l k f).1 in
      omega (arith, z, granted_sized false grant.count z, wanted_few l _ grant want, told_sums l n is, some_told l n is, one_if_some (waiters l))
  row_sums l at _ _ legal f (fills {claimed} {grant} want) = omega (arith, granted_sized claimed grant.count (stays_sized l), wanted_few l _ grant want)
  row_sums l at _ _ legal f (asks_for {grant} granted) = omega (
    arith,
    granted_sized false grant.count (stays_sized l),
    due_few (start l).config (handles l) (conns l + approved l) (unprovided l),
    due_or_none (start l).config (handles l) (conns l + approved l) (unprovided l),
    none_or_some (notified l) grant.withheld (missed l),
    none_or_some (notified l) 0 (unasked l),
  )
  row_sums l at _ _ legal f (claims {k = Some k} open_now first) = omega (arith, turned_sized (unclaimed_turns l k first))
  row_sums l at _ _ legal f (opens {k} {c} {n} in_time is) = omega (arith, open_in_time (handles l) (ltb k (retired l)) in_time, turned_sized (opens_turn l at k c f), told_sums l n is, some_told l n is)
  row_sums l at _ _ legal f (opens_late {k} late) = omega (arith, turned_sized (ends_turn l k f))
  row_sums l at _ _ legal f (fails {k}) = omega (arith, turned_sized (ends_turn l k f))
  row_sums l at _ _ legal f (adds {k} {c} {n} room few is who) = omega (arith, is_open (handles l) f, adds_sized l at c, told_sums l n who, some_told l n who)
  row_sums l at _ _ legal f (reaps {closed} {by_idle} {by_life} {grant} open_now closed_is by_idle_is by_life_is want) =
      let z = reaped_sized l at in
      omega (arith, z, granted_reaped grant.count z, wanted_few l _ grant want, length-append (outlived_at l at) (idled_at l at))
  row_sums l at _ _ legal f (retires {closed} {grant} open_now closed_is want) =
      let z = retired_sized l at in
      omega (arith, z, granted_reaped grant.count z, wanted_few l _ grant want)
  row_sums l at _ _ legal f (joins few) = omega (arith, is_open (handles l) f)
  row_sums l at _ _ legal f (leaves {n} is) = omega (arith, left_sized l at n, (left_sized l at n).last)
  row_sums l at _ _ legal f (shuts {n} is) = omega (arith, shut_sized l)
  row_sums l at _ _ legal f _ = omega arith
