-- The limits that every state keeps, the laws of every run, and the promises to waiters.
use Rattle.std.specs.Prelude.{◌≡◌, ◌⊎◌, ◌↔◌, ◌+◌, ◌-◌, ◌<◌, ◌≤◌, ℕ, max, Bool, ◌&&◌, ◌||◌, not, cond, eqb, Option, Some, None, true, false, ⊤}
use Rattle.std.specs.Option.{unwrap_or}
use Rattle.bb8_types.specs.declared.grants.Grant.{Grant}
use Rattle.bb8_types.specs.declared.standing.Getting.{Getting}
use Rattle.bb8_ledger.specs.Acts.{Act, Try, CheckedOk, GiveUp, PutBack, Detach, Fill, Ask, Reap}
use Rattle.bb8_ledger.specs.Answers.{Answer, Begun, Served, Taken, Waiting, Kept, Closed, Granted, Late, GivenBack, Added, Reaped, Unfit}
use Rattle.bb8_types.specs.Figures.{pending}
use Rattle.bb8_types.specs.Numbered.{Numbered}
use Rattle.bb8_ledger.specs.Ledger.{Ledger, Opening, Later, start, position, latest, retired, handles, conns, approved, idle_count, out, unnotified, notified, record_of, get_of, numbered_get, next, next_get, alive, counts, asks_check}
use Rattle.bb8_types.specs.Places.{holds, stands, gets_stand, is_idle, is_held_by, is_notified, is_unnotified}

-- the count of numbers that a result gives to new approvals and connections
abbrev pub numbers_given : Answer → ℕ
numbers_given (Served k grant) = grant.count
numbers_given (Taken k grant) = grant.count
numbers_given (Waiting grant) = grant.count
numbers_given (Closed k grant n) = grant.count
numbers_given (Granted grant) = grant.count
numbers_given (Reaped closed by_idle by_life grant) = grant.count
numbers_given (Added k n) = 1
numbers_given _ = 0

-- whether the numbers that a result gives begin at `next`
abbrev pub GivesFrom : ℕ → Answer → Type 0
GivesFrom next (Served k grant) = grant.first ≡ next
GivesFrom next (Taken k grant) = grant.first ≡ next
GivesFrom next (Waiting grant) = grant.first ≡ next
GivesFrom next (Closed k grant n) = grant.first ≡ next
GivesFrom next (Granted grant) = grant.first ≡ next
GivesFrom next (Reaped closed by_idle by_life grant) = grant.first ≡ next
GivesFrom next (Added k n) = k ≡ next
GivesFrom next _ = ⊤

-- the count of numbers that a result gives to new gets
abbrev pub gets_given : Answer → ℕ
gets_given (Begun g) = 1
gets_given _ = 0

-- whether the number that a result gives to a new get is `next_get`
abbrev pub GivesGet : ℕ → Answer → Type 0
GivesGet next_get (Begun g) = g ≡ next_get
GivesGet next_get _ = ⊤

-- the count of approvals that a result loses to waiters: those returned, those whose connection
-- came too late, and those withheld from a waiter
abbrev pub lost_by : Answer → ℕ
lost_by GivenBack = 1
lost_by (Late k) = 1
lost_by (Waiting grant) = grant.withheld
lost_by _ = 0

module _ {C : Type 0} where
  -- whether each event of a history, with the ledger before it, has a property
  abbrev pub AtEach : (Ledger C → ℕ → Act C → Answer → Type 0) → Ledger C → Type 0
  AtEach P (Opening s) = ⊤
  AtEach P (Later l at e a) = AtEach P l × P l at e a

  -- Connections and open approvals are within the size. Each connection is idle or checked out. A
  -- get holds a connection exactly if that connection is checked out by it, so no connection has
  -- two holders, and none is held by a get that ended. While a waiter is not notified, there are at
  -- most as many idle connections as notified waiters. While no handle is alive, no connection is
  -- idle. No idle connection is retired, so no try takes a retired one.
  pub record KeepsLimits (l : Ledger C) : Type 0 where
    pub size : conns l + approved l ≤ (start l).config.max_size
    pub each : conns l ≡ idle_count l + out l
    pub held : (g k : ℕ) → (holds (get_of l g) ≡ Some k) ↔ (stands (is_held_by g) (record_of l k) ≡ true)
    pub served : (unnotified l ≡ 0) ⊎ (idle_count l ≤ notified l)
    pub none_idle : handles l ≡ 0 → idle_count l ≡ 0
    pub unretired : (k : ℕ) → stands is_idle (record_of l k) ≡ true → retired l ≤ k

  -- A result gives the next numbers, and the counters advance past them.
  pub record GivesNext (l : Ledger C) (at : ℕ) (e : Act C) (a : Answer) : Type 0 where
    pub first : GivesFrom (next l) a
    pub more : next (Later l at e a) ≡ next l + numbers_given a
    pub get : GivesGet (next_get l) a
    pub more_gets : next_get (Later l at e a) ≡ next_get l + gets_given a

  -- whether the connection k was served to a guard, and was neither returned nor detached since
  abbrev pub is_lent : Ledger C → ℕ → Bool
  is_lent (Opening s) k = false
  is_lent (Later l at e (Served m grant)) k = eqb k m || is_lent l k
  is_lent (Later l at (PutBack m c broken) (Kept j n)) k = not (eqb k m) && is_lent l k
  is_lent (Later l at (PutBack m c broken) (Closed j grant n)) k = not (eqb k m) && is_lent l k
  is_lent (Later l at (Detach m) (Closed j grant n)) k = not (eqb k m) && is_lent l k
  is_lent (Later l at e a) k = is_lent l k

  -- a connection that a result serves was not checked out by a guard: so none is served again before
  -- its guard returned it
  abbrev pub ServesUnlent : Ledger C → ℕ → Act C → Answer → Type 0
  ServesUnlent l at e (Served k grant) = is_lent l k ≡ false
  ServesUnlent l at e _ = ⊤

  -- the result of the last try of the get g that fitted
  abbrev pub last_try : Ledger C → ℕ → Option Answer
  last_try (Opening s) g = None
  last_try (Later l at e Unfit) g = last_try l g
  last_try (Later l at (Try h) a) g = cond (eqb g h) (Some a) (last_try l g)
  last_try (Later l at e a) g = last_try l g

  -- whether the last try of the get g that fitted took the connection k, to be checked
  abbrev pub HasTaken : Ledger C → ℕ → ℕ → Type 0
  HasTaken l g k = (grant : Grant) × (last_try l g ≡ Some (Taken k grant))

  -- a connection that must be checked is served only by a check that passed, and to the get whose
  -- last fitting try took it: with the check on, none is served unchecked that was idle for
  -- `test_after`, which is 0 by default
  abbrev pub ServesChecked : Ledger C → ℕ → Act C → Answer → Type 0
  ServesChecked l at e (Served k grant) = asks_check l at k ≡ true → (g : ℕ) × (e ≡ CheckedOk g) × HasTaken l g k
  ServesChecked l at e _ = ⊤

  -- while a handle is alive, idle connections and open approvals reach min_idle, or the size is
  -- reached, or something was withheld
  abbrev pub IsMadeGood : Ledger C → Grant → Type 0
  IsMadeGood l g = 0 < handles l → (unwrap_or (start l).config.min_idle 0 ≤ idle_count l + approved l) ⊎ ((start l).config.max_size ≤ conns l + approved l) ⊎ (0 < g.withheld)

  -- while a handle is alive, there is an open approval for each waiter that was not notified, or
  -- the size is reached, or something was withheld
  abbrev pub IsAskedFor : Ledger C → Grant → Type 0
  IsAskedFor l g = 0 < handles l → (unnotified l ≤ approved l) ⊎ ((start l).config.max_size ≤ conns l + approved l) ⊎ (0 < g.withheld)

  -- the first holds after a try that takes an idle connection, a close, a fill and a reap, with the
  -- grant of each; the second after an ask
  abbrev pub MakesGood : Ledger C → Act C → Answer → Type 0
  MakesGood l e (Closed k grant n) = IsMadeGood l grant
  MakesGood l e (Reaped closed by_idle by_life grant) = IsMadeGood l grant
  MakesGood l e (Taken k grant) = IsMadeGood l grant
  MakesGood l (Try g) (Served k grant) = IsMadeGood l grant
  MakesGood l (Fill claimed) (Granted grant) = IsMadeGood l grant
  MakesGood l Ask (Granted grant) = IsAskedFor l grant
  MakesGood l e _ = ⊤

  -- the grant of the latest event that fitted, if that was a reap
  abbrev pub reap_granted : Ledger C → Option Grant
  reap_granted (Later l at e Unfit) = reap_granted l
  reap_granted (Later l at Reap (Reaped closed by_idle by_life grant)) = Some grant
  reap_granted _ = None

  -- a second reap, at the effective moment of the first and with nothing between that fitted,
  -- closes nothing; it grants nothing if the first withheld nothing
  abbrev pub ReapsOnce : Ledger C → ℕ → Act C → Answer → Type 0
  ReapsOnce l at e Unfit = ⊤
  ReapsOnce l at Reap (Reaped closed by_idle by_life grant) = (before : Grant) → reap_granted l ≡ Some before → max (latest l) at ≡ latest l
      → (closed ≡ 0) × (before.withheld ≡ 0 → grant.count ≡ 0)
  ReapsOnce l at e _ = ⊤

  -- The laws of every run. No number is used again. No connection is served again before its guard
  -- returned it, and none unchecked that must be checked. What is lacking of min_idle, or of
  -- approvals for waiters at an ask, is granted as far as there is capacity. A reap leaves nothing
  -- to a second one. Each get that began has ended or is alive, so the gets that the statistics
  -- call pending are those that are alive.
  pub record KeepsLaws (l : Ledger C) : Type 0 where
    pub numbers : AtEach GivesNext l
    pub returned : AtEach ServesUnlent l
    pub checked : AtEach ServesChecked l
    pub replenished : AtEach (λ l at e a. MakesGood (Later l at e a) e a) l
    pub reaped : AtEach ReapsOnce l
    pub answered : (counts l).direct + (counts l).waited + (counts l).timed_out + (counts l).cancelled + alive l ≡ (counts l).started
    pub pending : pending (counts l) ≡ alive l

  -- the count of approvals lost to waiters since the latest ask that fitted: those it withheld,
  -- plus those lost after it
  abbrev pub lost : Ledger C → ℕ
  lost (Opening s) = 0
  lost (Later l at e Unfit) = lost l
  lost (Later l at Ask (Granted grant)) = grant.withheld
  lost (Later l at e a) = lost l + lost_by a

  -- While a handle is alive, each waiter that was not notified has an open approval, or all that
  -- could still serve is promised to notified ones; except for what was lost.
  abbrev pub IsPromised : Ledger C → Type 0
  IsPromised l = 0 < handles l → (unnotified l ≤ approved l + lost l) ⊎ ((start l).config.max_size - (conns l + approved l) + idle_count l ≤ notified l + lost l)

  -- whether an event may leave fewer waiters notified: a try, or a give-up after which no waiter is
  -- unnotified
  abbrev pub MayLower : Act C → ℕ → Type 0
  MayLower (Try g) unnotified_then = ⊤
  MayLower (GiveUp g why held broken) unnotified_then = unnotified_then ≡ 0
  MayLower _ _ = ⊥

  -- the count of notified waiters falls at no other event
  abbrev pub Remembers : Ledger C → ℕ → Act C → Answer → Type 0
  Remembers l at e a = (notified l ≤ notified (Later l at e a)) ⊎ MayLower e (unnotified (Later l at e a))

  -- each notified waiter waits since an earlier position than each that was not notified
  abbrev pub AreInTurn : Ledger C → Type 0
  AreInTurn l = (g h : ℕ) (a b : Numbered Getting) → numbered_get l g ≡ Some a → numbered_get l h ≡ Some b
      → gets_stand is_notified a.standing ≡ true → gets_stand is_unnotified b.standing ≡ true → a.position < b.position

  -- whether the get g waits since position p, notified or not
  abbrev pub WaitsSince : Ledger C → ℕ → ℕ → Type 0
  WaitsSince l g p = (a : Numbered Getting) × (numbered_get l g ≡ Some a) × (a.position ≡ p)
      × ((gets_stand is_notified a.standing ≡ true) ⊎ (gets_stand is_unnotified a.standing ≡ true))

  -- A get that waits before and after an event waits since the same position. Exception: a notified
  -- get that tries while no connection is idle waits since this event, and so behind all others.
  abbrev pub KeepsPlaces : Ledger C → ℕ → Act C → Answer → Type 0
  KeepsPlaces l at e a = (g p q : ℕ) → WaitsSince l g p → WaitsSince (Later l at e a) g q
      → (q ≡ p) ⊎ ((q ≡ position l) × (e ≡ Try g) × (gets_stand is_notified (get_of l g) ≡ true) × (idle_count l ≡ 0))

  -- The promises to waiters: no notification is lost or out of turn, and each waiter keeps its
  -- position until it tries in vain.
  pub record KeepsPromises (l : Ledger C) : Type 0 where
    pub promised : IsPromised l
    pub remembered : AtEach Remembers l
    pub in_turn : AreInTurn l
    pub kept : AtEach KeepsPlaces l
