-- Hand-off: the order in which gets are served if the notified get that waits longest tries as soon
-- as a connection is idle.
use Rattle.std.specs.Prelude.{◌≡◌, ◌≢◌, ◌⊎◌, ◌+◌, ◌-◌, ◌<◌, ◌≤◌, ℕ, suc, true, Bool, ◌&&◌, cond, eqb, ltb, slice_get, Option, Some, None, is_some, ⊤}
use Rattle.std.specs.Option.{IfSome}
use Rattle.bb8_types.specs.declared.standing.Getting.{Getting}
use Rattle.bb8_types.specs.Numbered.{Numbered, in_order, one}
use Rattle.bb8_types.specs.Places.{gets_stand, is_notified, is_unnotified}
use Rattle.bb8_ledger.specs.Acts.{Act, Try, Ask}
use Rattle.bb8_ledger.specs.Answers.{Answer, Served, Taken, Waiting, Kept, Closed, GaveUp, Granted, Entered, Added, Unfit}
use Rattle.bb8_ledger.specs.Ledger.{Ledger, Opening, Later, start, position, handles, conns, approved, gets, idle_count, unnotified, notified, get_of, numbered_get}
use Rattle.bb8_ledger.specs.Limits.{AtEach, lost, lost_by, WaitsSince}

-- the get that a result notifies
abbrev pub notified_by : Answer → Option ℕ
notified_by (Kept k n) = n
notified_by (Closed k grant n) = n
notified_by (GaveUp n) = n
notified_by (Entered k n) = n
notified_by (Added k n) = n
notified_by _ = None

-- the connection that became idle with a result
abbrev pub brought_by : Answer → Option ℕ
brought_by (Kept k n) = Some k
brought_by (Entered k n) = Some k
brought_by (Added k n) = Some k
brought_by _ = None

-- whether the try of a notified get matches what became idle: it takes that connection, or waits if
-- there was none
abbrev pub GoesWith : Option ℕ → Answer → Type 0
GoesWith (Some k) (Served j grant) = j ≡ k
GoesWith (Some k) (Taken j grant) = j ≡ k
GoesWith None (Waiting grant) = ⊤
GoesWith _ _ = ⊥

-- one past the position of a get if it was notified, else `before`
abbrev pub past : Option (Numbered Getting) → ℕ → ℕ
past None before = before
past (Some a) before = cond (gets_stand is_notified a.standing) (suc a.position) before

-- whether a get was notified and waits since position p
abbrev pub notified_at : ℕ → Numbered Getting → Bool
notified_at p g = gets_stand is_notified g.standing && eqb g.position p

module _ {C : Type 0} where
  -- the get that was notified just now: by the latest event that fitted
  abbrev pub just_notified : Ledger C → Option ℕ
  just_notified (Opening s) = None
  just_notified (Later l at e Unfit) = just_notified l
  just_notified (Later l at e a) = notified_by a

  -- the connection that became idle just now
  abbrev pub just_brought : Ledger C → Option ℕ
  just_brought (Opening s) = None
  just_brought (Later l at e Unfit) = just_brought l
  just_brought (Later l at e a) = brought_by a

  -- the count of waiters, notified or not
  abbrev pub waiters : Ledger C → ℕ
  waiters l = unnotified l + notified l

  -- the notified get that waits longest
  abbrev pub oldest_notified : Ledger C → Option ℕ
  oldest_notified l = slice_get (in_order notified_at (start l).first_get (gets l) (position l)) 0

  -- the get whose try is due: if a connection is idle, the notified get that waits longest
  abbrev pub due_try : Ledger C → Option ℕ
  due_try l = cond (eqb (idle_count l) 0) None (oldest_notified l)

  -- Whether a history has hand-off: if a try is due, it is the next event. Events that do not fit
  -- change nothing and are skipped.
  abbrev pub HandsOver : Ledger C → Type 0
  HandsOver (Opening s) = ⊤
  HandsOver (Later l at e Unfit) = HandsOver l
  HandsOver (Later l at e a) = HandsOver l × IfSome (due_try l) (λ g. e ≡ Try g)

  -- whether g waits, and longer than any other waiter; true if no other get waits
  abbrev pub IsFirst : Ledger C → ℕ → Type 0
  IsFirst l g = (h q : ℕ) → WaitsSince l h q → h ≢ g → (p : ℕ) × WaitsSince l g p × (p < q)

  -- Whether a try is in turn. One that takes a connection is of the first waiter and takes the
  -- connection that became idle just now, or nobody waited. One that waits finds nothing idle.
  abbrev pub TriesInTurn : Ledger C → ℕ → Act C → Answer → Type 0
  TriesInTurn l at (Try g) (Served k grant) = IsFirst l g × (0 < waiters l → just_brought l ≡ Some k)
  TriesInTurn l at (Try g) (Taken k grant) = IsFirst l g × (0 < waiters l → just_brought l ≡ Some k)
  TriesInTurn l at (Try g) (Waiting grant) = idle_count l ≡ 0
  TriesInTurn l at _ _ = ⊤

  -- the count of closes that notified a get
  abbrev pub closes_told : Ledger C → ℕ
  closes_told (Opening s) = 0
  closes_told (Later l at e (Closed k grant n)) = closes_told l + one (is_some n)
  closes_told (Later l at e a) = closes_told l

  -- how often a notified get tried and waited anew
  abbrev pub places_lost : Ledger C → ℕ
  places_lost (Opening s) = 0
  places_lost (Later l at e Unfit) = places_lost l
  places_lost (Later l at (Try g) (Waiting grant)) = places_lost l + one (gets_stand is_notified (get_of l g))
  places_lost (Later l at e a) = places_lost l

  -- the count of closes, made while a get waited, for which no connection was requested since: a
  -- try that begins a wait requests one, and an ask that finds no get notified requests all
  abbrev pub unasked : Ledger C → ℕ
  unasked (Opening s) = 0
  unasked (Later l at e Unfit) = unasked l
  unasked (Later l at e (Closed k grant n)) = unasked l + one (ltb 0 (waiters l))
  unasked (Later l at Ask (Granted grant)) = cond (eqb (notified l) 0) 0 (unasked l)
  unasked (Later l at (Try g) (Waiting grant)) = cond (gets_stand is_unnotified (get_of l g)) (unasked l) (unasked l - 1)
  unasked (Later l at e a) = unasked l

  -- the count of approvals lost to waiters since the latest ask that found no get notified: those
  -- it withheld, plus those lost after it
  abbrev pub missed : Ledger C → ℕ
  missed (Opening s) = 0
  missed (Later l at e Unfit) = missed l
  missed (Later l at Ask (Granted grant)) = cond (eqb (notified l) 0) grant.withheld (missed l)
  missed (Later l at e a) = missed l + lost_by a

  -- While a get waits, nothing is idle, except for one connection if a try is due.
  abbrev pub IsSettled : Ledger C → Type 0
  IsSettled l = (waiters l ≡ 0) ⊎ (idle_count l ≡ one (is_some (due_try l)))

  -- While a handle is alive, each waiter has an open approval or an idle connection, or the size is
  -- reached; except for what was missed, and for closes for which none was requested.
  abbrev pub IsProvided : Ledger C → Type 0
  IsProvided l = 0 < handles l → (waiters l ≤ approved l + idle_count l + missed l) ⊎ ((start l).config.max_size ≤ conns l + approved l + missed l + unasked l)

  -- one past the position at which the waiter that went out last had begun to wait, 0 if none has
  abbrev pub served_up_to : Ledger C → ℕ
  served_up_to (Opening s) = 0
  served_up_to (Later l at e Unfit) = served_up_to l
  served_up_to (Later l at (Try g) (Served k grant)) = past (numbered_get l g) (served_up_to l)
  served_up_to (Later l at (Try g) (Taken k grant)) = past (numbered_get l g) (served_up_to l)
  served_up_to (Later l at e a) = served_up_to l

  -- All waiters have waited since that position or later: so gets go out in the order in which
  -- their waits began.
  abbrev pub AllWaitBehind : Ledger C → Type 0
  AllWaitBehind l = (g p : ℕ) → WaitsSince l g p → served_up_to l ≤ p

  -- Waiters are served in order if the history has hand-off: nothing stays idle while a get waits,
  -- each try is in turn, and only closes cost positions, one each at most, whether lost already or
  -- still held by a notified get.
  pub record KeepsOrder (l : Ledger C) : Type 0 where
    pub settled : IsSettled l
    pub provided : IsProvided l
    pub in_turn : AtEach TriesInTurn l
    pub behind : AllWaitBehind l
    pub few_lost : places_lost l ≤ closes_told l
    pub few_told : notified l + places_lost l ≤ closes_told l + one (is_some (due_try l))

  -- A history in which each notified get tries at once, directly after the event that notified it.
  abbrev pub TriesWhenNotified : Ledger C → Type 0
  TriesWhenNotified (Opening s) = ⊤
  TriesWhenNotified (Later l at e Unfit) = TriesWhenNotified l
  TriesWhenNotified (Later l at e a) = TriesWhenNotified l × IfSome (just_notified l) (λ g. e ≡ Try g)

  -- A history in which each notified get has tried at once, the latest one too.
  abbrev pub IsPrompt : Ledger C → Type 0
  IsPrompt l = TriesWhenNotified l × (just_notified l ≡ None)

  -- It has hand-off; no get is notified except the one notified just now; and if there is none, a
  -- connection was requested for each close. Each ask finds no get notified, so what was missed is
  -- what was lost since the latest ask.
  pub record TriesAtOnce (l : Ledger C) : Type 0 where
    pub hands_over : HandsOver l
    pub few : notified l ≡ one (is_some (just_notified l))
    pub told : IfSome (just_notified l) (λ g. gets_stand is_notified (get_of l g) ≡ true)
    pub asked : just_notified l ≡ None → unasked l ≡ 0
    pub none_missed : missed l ≡ lost l

  -- Waiters are served in order if the history has hand-off, and so if each notified get tries at
  -- once.
  pub record IsOrderly (l : Ledger C) : Type 0 where
    pub handed : HandsOver l → KeepsOrder l
    pub at_once : TriesWhenNotified l → TriesAtOnce l
