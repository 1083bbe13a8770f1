-- The ledger of a pool: its history, and what follows from it.
-- Only events with their results are stored. Records and gets are computed from the events, sizes
-- are tallies, order is read from positions, and peaks, handles and statistics are sums over the
-- history.
use Rattle.std.specs.Prelude.{ℕ, zero, suc, ◌+◌, ◌-◌, ◌*◌, max, min, Bool, true, false, ◌&&◌, ◌||◌, not, cond, eqb, List, [], ◌∷◌, ◌++◌, length, map, take, slice_get, Option, Some, None, is_some, ltb}
use Rattle.std.specs.Option.{option_map, option_and_then, unwrap_or}
use Rattle.bb8_types.specs.declared.standing.Place.{Place}
use Rattle.bb8_types.specs.declared.standing.Place.TheVariants.{Unclaimed, Claimed, Idle, Held, Guarded}
use Rattle.bb8_types.specs.declared.standing.Standing.{Standing}
use Rattle.bb8_types.specs.declared.standing.GetPlace.{GetPlace}
use Rattle.bb8_types.specs.declared.standing.GetPlace.TheVariants.{Active, Waiting, Holding}
use Rattle.bb8_types.specs.declared.standing.Getting.{Getting}
use Rattle.bb8_types.specs.Settings.{Settings}
use Rattle.bb8_types.specs.Figures.{Counts, Figures}
use Rattle.bb8_ledger.specs.Acts.{Act, Begin, Try, CheckedOk, CheckedErr, GiveUp, PutBack, Detach, Evict, Fill, Ask, Claim, Opened, Failed, Add, Reap, Retire, Leave, Close, TimedOut, Cancelled, get_in, says_broken}
use Rattle.bb8_ledger.specs.Answers.{Answer, Begun, Served, Taken, Kept, Closed, GaveUp, Granted, Entered, Late, GivenBack, Added, Reaped, Joined, Left, Unfit}
use Rattle.bb8_ledger.specs.Answers as answers
use Rattle.bb8_types.specs.Numbered.{Numbered, at, update, numbers, in_order, tally, one, standing_at, after_end, after_end_where}
use Rattle.bb8_types.specs.Places.{is_conn, is_unclaimed, is_idle, is_approval, is_out, stands, is_unnotified, is_notified, gets_stand, first_wait_of, is_expired, micros_since, idles_out, lives_out, is_left, with_place, birth_in, entered_in, is_checked, get_with_place, get_in_wait, first_of}
use Rattle.bb8_types.specs.Bounds.{most_micros}

-- The beginning of a pool.
pub record Start : Type 0 where
  pub config : Settings
  pub first : ℕ
  pub first_get : ℕ

-- Each event with its moment and its result, the latest one last.
pub data Ledger (C : Type 0) : Type 0 where
  Opening : Start → Ledger C
  Later : Ledger C → ℕ → Act C → Answer → Ledger C

-- ---- effects of events on records and gets

-- the configuration of a retire: each idle connection lives too long
abbrev pub retiring : Start → Start
retiring s = record s { config = record s.config { max_lifetime = Some 0 } }

-- a new approval, claimed or not
abbrev pub approval : {C : Type 0} → Bool → Numbered (Standing C)
approval claimed = record { standing = Some (record { place = cond claimed Claimed Unclaimed; birth = 0; entered = 0 }); position = 0 }

-- a get that has begun: active, without a wait so far
abbrev pub new_get : Numbered Getting
new_get = record { standing = Some (record { place = Active; first_wait = None }); position = 0 }

module _ {C : Type 0} where
  -- with n new approvals
  abbrev pub with_approvals : Bool → ℕ → List (Numbered (Standing C)) → List (Numbered (Standing C))
  with_approvals claimed zero rs = rs
  with_approvals claimed (suc n) rs = with_approvals claimed n rs ++ approval claimed ∷ []

  -- a record with another state
  abbrev pub at_place : Place C → Numbered (Standing C) → Numbered (Standing C)
  at_place p r = record r { standing = option_map (with_place p) r.standing }

  -- an idle connection with this birth, moment and position
  abbrev pub entry : C → ℕ → ℕ → ℕ → Numbered (Standing C)
  entry c birth now position = record { standing = Some (record { place = Idle c; birth = birth; entered = now }); position = position }

  -- enter: the record after it became idle; it keeps its birth
  abbrev pub at_entry : C → ℕ → ℕ → Numbered (Standing C) → Numbered (Standing C)
  at_entry c now position r = entry c (birth_in r.standing) now position

  -- the count of records that pass a test
  abbrev pub tally_places : (Place C → Bool) → List (Numbered (Standing C)) → ℕ
  tally_places test rs = tally (λ r. stands test r.standing) rs

  -- the count of connections
  abbrev pub conns_of : List (Numbered (Standing C)) → ℕ
  conns_of = tally_places is_conn

  -- the count of open approvals
  abbrev pub approved_of : List (Numbered (Standing C)) → ℕ
  approved_of = tally_places is_approval

  -- the count of idle records
  abbrev pub idle_of : List (Numbered (Standing C)) → ℕ
  idle_of = tally_places is_idle

  -- the records after those with these numbers ended
  abbrev pub with_ended : ℕ → List ℕ → List (Numbered (Standing C)) → List (Numbered (Standing C))
  with_ended first [] rs = rs
  with_ended first (k ∷ ks) rs = with_ended first ks (update first k after_end rs)

  -- the numbers of idle records that live too long at a moment
  abbrev pub outlived : Start → ℕ → List (Numbered (Standing C)) → List ℕ
  outlived s now rs = numbers (λ r. lives_out s.config now r.standing) s.first rs

  -- whether a record became idle at position p and is idle too long at a moment
  abbrev pub over_idle_at : Settings → ℕ → ℕ → Numbered (Standing C) → Bool
  over_idle_at config now p r = idles_out config now r.standing && eqb r.position p

  -- the numbers of those that are idle too long, the longest idle first, but no more than are idle
  -- beyond min_idle
  abbrev pub idled : Start → ℕ → ℕ → List (Numbered (Standing C)) → List ℕ
  idled s position now rs = take (idle_of rs - unwrap_or s.config.min_idle 0) (in_order (over_idle_at s.config now) s.first rs position)

  -- Reaped: the numbers of the records that a reap at a position and a moment ends. These are the
  -- idle ones that live too long; then, after those have ended, the ones that are idle too long.
  -- This rule is defined only here.
  abbrev pub reaped : Start → ℕ → ℕ → List (Numbered (Standing C)) → List ℕ
  reaped s position now rs = outlived s now rs ++ idled s position now (with_ended s.first (outlived s now rs) rs)

  -- the records after an event, given the beginning of the pool, its handles, and the position and
  -- effective moment of the event
  abbrev pub records_after : Start → ℕ → ℕ → ℕ → List (Numbered (Standing C)) → Act C → Answer → List (Numbered (Standing C))
  records_after s handles position now rs e Unfit = rs
  records_after s handles position now rs (Try g) (Served k grant) = with_approvals false grant.count (update s.first k (at_place Guarded) rs)
  records_after s handles position now rs (Try g) (Taken k grant) = with_approvals false grant.count (update s.first k (at_place (Held g)) rs)
  records_after s handles position now rs (Try g) (answers.Waiting grant) = with_approvals false grant.count rs
  records_after s handles position now rs (CheckedOk g) (Served k grant) = update s.first k (at_place Guarded) rs
  records_after s handles position now rs (CheckedErr g broken) (Closed k grant n) = with_approvals false grant.count (update s.first k after_end rs)
  records_after s handles position now rs (GiveUp g why (Some c) broken) (Kept k n) = update s.first k (at_entry c now position) rs
  records_after s handles position now rs (GiveUp g why held broken) (Closed k grant n) = with_approvals false grant.count (update s.first k after_end rs)
  records_after s handles position now rs (PutBack k c broken) (Kept m n) = update s.first k (at_entry c now position) rs
  records_after s handles position now rs (PutBack k c broken) (Closed m grant n) = with_approvals false grant.count (update s.first k after_end rs)
  records_after s handles position now rs (Detach k) (Closed m grant n) = with_approvals false grant.count (update s.first k after_end rs)
  records_after s handles position now rs (Evict k) (Closed m grant n) = with_approvals false grant.count (update s.first k after_end rs)
  records_after s handles position now rs (Fill claimed) (Granted grant) = with_approvals claimed grant.count rs
  records_after s handles position now rs Ask (Granted grant) = with_approvals false grant.count rs
  records_after s handles position now rs Claim (answers.Claimed (Some k)) = update s.first k (at_place Claimed) rs
  records_after s handles position now rs (Opened k c) (Entered m n) = update s.first k (λ r. entry c now now position) rs
  records_after s handles position now rs (Opened k c) (Late m) = update s.first k after_end rs
  records_after s handles position now rs (Failed k) GivenBack = update s.first k after_end rs
  records_after s handles position now rs (Add c broken) (Added k n) = rs ++ entry c now now position ∷ []
  records_after s handles position now rs Reap (Reaped closed by_idle by_life grant) = with_approvals false grant.count (with_ended s.first (reaped s position now rs) rs)
  records_after s handles position now rs Retire (Reaped closed by_idle by_life grant) = with_approvals false grant.count (with_ended s.first (reaped (retiring s) position now rs) rs)
  records_after s handles position now rs Leave (Left c) = cond (eqb handles 1) (map (after_end_where is_left) rs) rs
  records_after s handles position now rs Close (Left c) = map (after_end_where is_left) rs
  records_after s handles position now rs _ _ = rs

-- a get with another state; first wait and position stay
abbrev pub get_at_place : GetPlace → Numbered Getting → Numbered Getting
get_at_place p g = record g { standing = option_map (get_with_place p) g.standing }

-- a get after it began to wait; an unnotified waiter is unchanged
abbrev pub at_wait : ℕ → ℕ → Numbered Getting → Numbered Getting
at_wait now position g = cond (gets_stand is_unnotified g.standing) g (record { standing = option_map (get_in_wait now) g.standing; position = position })

-- the gets after the one named by a result was notified
abbrev pub with_notice : ℕ → Option ℕ → List (Numbered Getting) → List (Numbered Getting)
with_notice first None gs = gs
with_notice first (Some g) gs = update first g (get_at_place (Waiting true)) gs

-- the gets after an event
abbrev pub gets_after : {C : Type 0} → Start → ℕ → ℕ → List (Numbered Getting) → Act C → Answer → List (Numbered Getting)
gets_after s position now gs e Unfit = gs
gets_after s position now gs Begin (Begun g) = gs ++ new_get ∷ []
gets_after s position now gs (Try g) (Served k grant) = update s.first_get g after_end gs
gets_after s position now gs (Try g) (Taken k grant) = update s.first_get g (get_at_place (Holding k)) gs
gets_after s position now gs (Try g) (answers.Waiting grant) = update s.first_get g (at_wait now position) gs
gets_after s position now gs (CheckedOk g) (Served k grant) = update s.first_get g after_end gs
gets_after s position now gs (CheckedErr g broken) (Closed k grant n) = with_notice s.first_get n (update s.first_get g (get_at_place Active) gs)
gets_after s position now gs (GiveUp g why held broken) (GaveUp n) = with_notice s.first_get n (update s.first_get g after_end gs)
gets_after s position now gs (GiveUp g why held broken) (Kept k n) = with_notice s.first_get n (update s.first_get g after_end gs)
gets_after s position now gs (GiveUp g why held broken) (Closed k grant n) = with_notice s.first_get n (update s.first_get g after_end gs)
gets_after s position now gs (PutBack k c broken) (Kept m n) = with_notice s.first_get n gs
gets_after s position now gs (PutBack k c broken) (Closed m grant n) = with_notice s.first_get n gs
gets_after s position now gs (Detach k) (Closed m grant n) = with_notice s.first_get n gs
gets_after s position now gs (Evict k) (Closed m grant n) = with_notice s.first_get n gs
gets_after s position now gs (Opened k c) (Entered m n) = with_notice s.first_get n gs
gets_after s position now gs (Add c broken) (Added k n) = with_notice s.first_get n gs
gets_after s position now gs _ _ = gs

-- ---- what follows from the history

-- the latest effective moment after an event
abbrev pub moment_after : ℕ → ℕ → Answer → ℕ
moment_after latest at Unfit = latest
moment_after latest at _ = max latest at

-- the count of handles after an event; a close leaves none
abbrev pub handles_after : {C : Type 0} → ℕ → Act C → Answer → ℕ
handles_after handles e Joined = handles + 1
handles_after handles Close (Left c) = 0
handles_after handles e (Left c) = handles - 1
handles_after handles e _ = handles

module _ {C : Type 0} where
  -- the beginning of the pool
  abbrev pub start : Ledger C → Start
  start (Opening s) = s
  start (Later l at e a) = start l

  -- the position of the next event
  abbrev pub position : Ledger C → ℕ
  position (Opening s) = 0
  position (Later l at e a) = suc (position l)

  -- the latest effective moment
  abbrev pub latest : Ledger C → ℕ
  latest (Opening s) = 0
  latest (Later l at e a) = moment_after (latest l) at a

  -- the count of handles that are alive; the pool begins with one
  abbrev pub handles : Ledger C → ℕ
  handles (Opening s) = 1
  handles (Later l at e a) = handles_after (handles l) e a

  -- all connections and approvals there ever were, in the order of their numbers
  abbrev pub records : Ledger C → List (Numbered (Standing C))
  records (Opening s) = []
  records (Later l at e a) = records_after (start l) (handles l) (position l) (max (latest l) at) (records l) e a

  -- all gets there ever were, in the order of their numbers
  abbrev pub gets : Ledger C → List (Numbered Getting)
  gets (Opening s) = []
  gets (Later l at e a) = gets_after (start l) (position l) (max (latest l) at) (gets l) e a

  -- whether a record is idle since position p
  abbrev pub idle_at : ℕ → Numbered (Standing C) → Bool
  idle_at p r = stands is_idle r.standing && eqb r.position p

-- the count of gets that pass a test
abbrev pub tally_gets : (GetPlace → Bool) → List (Numbered Getting) → ℕ
tally_gets test gs = tally (λ g. gets_stand test g.standing) gs

-- the count of gets that are alive
abbrev pub alive_of : List (Numbered Getting) → ℕ
alive_of gs = tally (λ g. is_some g.standing) gs

-- whether a get was not notified and waits since position p
abbrev pub unnotified_at : ℕ → Numbered Getting → Bool
unnotified_at p g = gets_stand is_unnotified g.standing && eqb g.position p

module _ {C : Type 0} where
  -- the next number of a record
  abbrev pub next : Ledger C → ℕ
  next l = (start l).first + length (records l)

  -- the next number of a get
  abbrev pub next_get : Ledger C → ℕ
  next_get l = (start l).first_get + length (gets l)

  -- the count of connections
  abbrev pub conns : Ledger C → ℕ
  conns l = conns_of (records l)

  -- the count of open approvals
  abbrev pub approved : Ledger C → ℕ
  approved l = approved_of (records l)

  -- the count of idle connections
  abbrev pub idle_count : Ledger C → ℕ
  idle_count l = idle_of (records l)

  -- the count of checked-out connections
  abbrev pub out : Ledger C → ℕ
  out l = tally_places is_out (records l)

  -- the count of gets that are alive
  abbrev pub alive : Ledger C → ℕ
  alive l = alive_of (gets l)

  -- the count of waiters that were notified
  abbrev pub notified : Ledger C → ℕ
  notified l = tally_gets is_notified (gets l)

  -- the count of waiters that were not notified
  abbrev pub unnotified : Ledger C → ℕ
  unnotified l = tally_gets is_unnotified (gets l)

  -- the numbers of idle connections, the longest idle first
  abbrev pub idle : Ledger C → List ℕ
  idle l = in_order idle_at (start l).first (records l) (position l)

  -- the idle connection that goes out next
  abbrev pub first_idle : Ledger C → Option ℕ
  first_idle l = first_of (start l).config.queue_strategy (idle l)

  -- the numbers of unclaimed approvals, the lowest first
  abbrev pub unclaimed : Ledger C → List ℕ
  unclaimed l = numbers (λ r. stands is_unclaimed r.standing) (start l).first (records l)

  -- the waiters that were not notified, the longest waiting first
  abbrev pub waiting : Ledger C → List ℕ
  waiting l = in_order unnotified_at (start l).first_get (gets l) (position l)

  -- the waiter that is notified next
  abbrev pub oldest_waiter : Ledger C → Option ℕ
  oldest_waiter l = slice_get (waiting l) 0

  -- the greatest count of connections and open approvals so far
  abbrev pub peak : Ledger C → ℕ
  peak (Opening s) = 0
  peak (Later l at e a) = max (peak l) (conns (Later l at e a) + approved (Later l at e a))

  -- the greatest count of gets alive so far
  abbrev pub get_peak : Ledger C → ℕ
  get_peak (Opening s) = 0
  get_peak (Later l at e a) = max (get_peak l) (alive (Later l at e a))

  -- the state of a record, None if it has ended
  abbrev pub record_of : Ledger C → ℕ → Option (Standing C)
  record_of l k = standing_at (start l).first (records l) k

  -- the state of a get, None if it has ended
  abbrev pub get_of : Ledger C → ℕ → Option Getting
  get_of l g = standing_at (start l).first_get (gets l) g

  -- a get with its state and the position since which it waits
  abbrev pub numbered_get : Ledger C → ℕ → Option (Numbered Getting)
  numbered_get l g = at (start l).first_get (gets l) g

  -- ---- statistics: sums over the history, each read with the ledger before the event

  -- the next number at the latest retire, or 0: connections and approvals with smaller numbers are
  -- retired
  abbrev pub retired : Ledger C → ℕ
  retired (Opening s) = 0
  retired (Later l at e Unfit) = retired l
  retired (Later l at Retire a) = next l
  retired (Later l at e a) = retired l

  -- whether a connection lives too long at a moment, or was retired
  abbrev pub expires : Ledger C → ℕ → ℕ → Bool
  expires l at k = is_expired (start l).config.max_lifetime (max (latest l) at) (birth_in (record_of l k)) || ltb k (retired l)

  -- whether a connection that goes out at a moment must be checked first
  abbrev pub asks_check : Ledger C → ℕ → ℕ → Bool
  asks_check l at k = is_checked (start l).config (max (latest l) at) (entered_in (record_of l k))

  -- when the get of an event first waited
  abbrev pub waited_since : Ledger C → Act C → Option ℕ
  waited_since l e = option_and_then (λ g. first_wait_of (get_of l g)) (get_in e)

  -- gets that began
  abbrev pub started : Ledger C → ℕ
  started (Opening s) = 0
  started (Later l at e (Begun g)) = started l + 1
  started (Later l at e a) = started l

  -- gets that were served without having waited
  abbrev pub direct : Ledger C → ℕ
  direct (Opening s) = 0
  direct (Later l at e (Served k grant)) = direct l + one (not (is_some (waited_since l e)))
  direct (Later l at e a) = direct l

  -- gets that were served after a wait
  abbrev pub waited : Ledger C → ℕ
  waited (Opening s) = 0
  waited (Later l at e (Served k grant)) = waited l + one (is_some (waited_since l e))
  waited (Later l at e a) = waited l

  -- gets that timed out
  abbrev pub timed_out : Ledger C → ℕ
  timed_out (Opening s) = 0
  timed_out (Later l at e Unfit) = timed_out l
  timed_out (Later l at (GiveUp g TimedOut held broken) a) = timed_out l + 1
  timed_out (Later l at e a) = timed_out l

  -- gets that were cancelled
  abbrev pub cancelled : Ledger C → ℕ
  cancelled (Opening s) = 0
  cancelled (Later l at e Unfit) = cancelled l
  cancelled (Later l at (GiveUp g Cancelled held broken) a) = cancelled l + 1
  cancelled (Later l at e a) = cancelled l

  -- how long the get of an event had waited, in whole microseconds
  abbrev pub wait_of : Ledger C → ℕ → Act C → ℕ
  wait_of l at e = micros_since (max (latest l) at) (waited_since l e)

  -- the sum of the waits of served and timed out gets, in microseconds; it stops at the greatest
  -- u64
  abbrev pub wait_micros : Ledger C → ℕ
  wait_micros (Opening s) = 0
  wait_micros (Later l at e Unfit) = wait_micros l
  wait_micros (Later l at e (Served k grant)) = min most_micros (wait_micros l + wait_of l at e)
  wait_micros (Later l at (GiveUp g TimedOut held broken) a) = min most_micros (wait_micros l + wait_of l at (GiveUp g TimedOut held broken))
  wait_micros (Later l at e a) = wait_micros l

  -- connections opened for an approval
  abbrev pub created : Ledger C → ℕ
  created (Opening s) = 0
  created (Later l at e (Entered k n)) = created l + 1
  created (Later l at e a) = created l

  -- connections closed because they were broken
  abbrev pub broken : Ledger C → ℕ
  broken (Opening s) = 0
  broken (Later l at e (Closed k grant n)) = broken l + one (says_broken (start l).config e)
  broken (Later l at e a) = broken l

  -- connections closed because their check failed
  abbrev pub invalid : Ledger C → ℕ
  invalid (Opening s) = 0
  invalid (Later l at e Unfit) = invalid l
  invalid (Later l at (CheckedErr g broken) a) = invalid l + 1
  invalid (Later l at e a) = invalid l

  -- connections closed because they lived too long, and were neither broken nor retired
  abbrev pub expired : Ledger C → ℕ
  expired (Opening s) = 0
  expired (Later l at e (Reaped closed by_idle by_life grant)) = expired l + by_life
  expired (Later l at (Detach m) (Closed k grant n)) = expired l
  expired (Later l at (Evict m) (Closed k grant n)) = expired l
  expired (Later l at e (Closed k grant n)) = expired l + one (not (says_broken (start l).config e) && (not (ltb k (retired l)) && expires l at k))
  expired (Later l at e a) = expired l

  -- connections closed because they were retired, and not broken
  abbrev pub closed_retired : Ledger C → ℕ
  closed_retired (Opening s) = 0
  closed_retired (Later l at e Unfit) = closed_retired l
  closed_retired (Later l at Retire (Reaped closed by_idle by_life grant)) = closed_retired l + closed
  closed_retired (Later l at (Detach m) (Closed k grant n)) = closed_retired l
  closed_retired (Later l at (Evict m) (Closed k grant n)) = closed_retired l
  closed_retired (Later l at e (Closed k grant n)) = closed_retired l + one (not (says_broken (start l).config e) && ltb k (retired l))
  closed_retired (Later l at e a) = closed_retired l

  -- connections that were detached, by their guard or while idle
  abbrev pub detached : Ledger C → ℕ
  detached (Opening s) = 0
  detached (Later l at e Unfit) = detached l
  detached (Later l at (Detach k) a) = detached l + 1
  detached (Later l at (Evict k) a) = detached l + 1
  detached (Later l at e a) = detached l

  -- connections closed because they were idle too long
  abbrev pub idled_out : Ledger C → ℕ
  idled_out (Opening s) = 0
  idled_out (Later l at e (Reaped closed by_idle by_life grant)) = idled_out l + by_idle
  idled_out (Later l at e a) = idled_out l

  -- all statistics
  abbrev pub counts : Ledger C → Counts
  counts l = record {
    started = started l;
    direct = direct l;
    waited = waited l;
    timed_out = timed_out l;
    cancelled = cancelled l;
    wait_time = 1000 * wait_micros l;
    created = created l;
    broken = broken l;
    invalid = invalid l;
    max_lifetime = expired l;
    idle_timeout = idled_out l;
    retired = closed_retired l;
    detached = detached l;
  }

  -- the size and the statistics of the pool
  abbrev pub figures : Ledger C → Figures
  figures l = record { connections = conns l; idle = idle_count l; counts = counts l }

-- the empty ledger, with the first numbers
abbrev pub opening_with : {C : Type 0} → Settings → ℕ → ℕ → Ledger C
opening_with config first first_get = Opening (record { config = config; first = first; first_get = first_get })
