-- The bounds of each step: how many connections are out of the pool, and what it reads.
use Rattle.std.proofs.lemmas.Bool.Decides.{nat_tests}
use Rattle.bb8_core.proofs.Words.{◌≡◌, ℕ, ◌+◌, ◌≤◌, length, Bool, one, true, false, Some, refl, ap, ◌∙◌, subst, arith, Act, Begin, Try, CheckedErr, GiveUp, PutBack, Detach, Answer, Begun, Served, Taken, Kept, Closed, Unfit, Guarded, Held, Ledger, Later, records, out, Row, waits_on, serves, takes_out, waits, checks, check_fails, gives_up_kept, gives_up_closed, keeps, returns_closed, detaches, evicts, fills, asks_for, claims, opens, opens_late, fails, adds, reaps, retires, leaves, shuts, fits, Allowed, IsLegal, AccessCount, StateView, shown_beside, Steps, HasLedger, idle_tally, conns_split, each_allowed, returns_turn, closes_turn, evicts_turn, opens_turn, ends_turn, idle_turns, unclaimed_turns, stays_sized, turned_sized, adds_sized, granted_sized, reaped_sized, retired_sized, granted_reaped, left_sized, shut_sized, checks_turn, drops_turn, hands_in_turn}
use Rattle.bb8_core.specs.StepBounds.{out_of, IsBounded}
use Rattle.bb8_core.proofs.Fitting.{shown}
use Rattle.bb8_tables.specs.AccessCount.{one_more}

pub one_few : (b : Bool) → one b ≤ 1
one_few b = grind (arith, nat_tests)

at_most : {i n k : ℕ} → i ≡ n → n ≤ k → i ≤ k
at_most is few = omega (arith, is, few)

module _ {C : Type 0} where
  -- what is out in a ledger, by what it shows
  out_shown : (l : Ledger C) → out_of (shown l) ≡ out l
  out_shown l = grind (arith, nat_tests, conns_split (records l), idle_tally l)

  -- how many go out with an answer: where a try is served or takes a connection to check
  abbrev pub going : Act C → Answer → ℕ
  going (Try g) (Served k grant) = 1
  going (Try g) (Taken k grant) = 1
  going _ _ = 0

  -- how many are returned: those that are kept or closed
  abbrev pub coming : Act C → Answer → ℕ
  coming (CheckedErr g broken) (Closed k grant n) = 1
  coming (GiveUp g why held broken) (Kept k n) = 1
  coming (GiveUp g why held broken) (Closed k grant n) = 1
  coming (PutBack k c broken) (Kept m n) = 1
  coming (PutBack k c broken) (Closed m grant n) = 1
  coming (Detach k) (Closed m grant n) = 1
  coming _ _ = 0

  -- an event that does not fit moves nothing
  unfit_moves : (e : Act C) (n : ℕ) → n + coming e Unfit ≡ n + going e Unfit
  unfit_moves Begin n = refl
  unfit_moves _ n = refl

  -- each row moves what is out as its answer says
  row_moves : (l : Ledger C) (at : ℕ) (e : Act C) (a : Answer) → IsLegal l → fits l e ≡ true → Row l at e a → out (Later l at e a) + coming e a ≡ out l + going e a
  row_moves l at _ _ legal f (waits_on {g} {grant} on nothing) = omega (arith, (granted_sized false grant.count (stays_sized l)).out_are)
  row_moves l at _ _ legal f (serves {g} {k} {grant} not_waiting off first want) = omega (arith, (granted_sized false grant.count (turned_sized (idle_turns l k Guarded first).1)).out_are)
  row_moves l at _ _ legal f (takes_out {g} {k} {grant} not_waiting on first want) = omega (arith, (granted_sized false grant.count (turned_sized (idle_turns l k (Held g) first).1)).out_are)
  row_moves l at _ _ legal f (waits {g} {grant} not_waiting none granted) = omega (arith, (granted_sized false grant.count (stays_sized l)).out_are)
  row_moves l at _ _ legal f (checks {g} {k} holds_it nothing) = omega (arith, (turned_sized (checks_turn l g k legal holds_it)).out_are)
  row_moves l at _ _ legal f (check_fails {g} {k} {grant} holds_it want is) = omega (arith, (granted_sized false grant.count (turned_sized (drops_turn l g k legal holds_it))).out_are)
  row_moves l at _ _ legal f (gives_up_kept {g} {k} {c} holds_it keep is) = omega (arith, (turned_sized (hands_in_turn l at g k c legal holds_it)).out_are)
  row_moves l at _ _ legal f (gives_up_closed {g} {k} {grant} holds_it shut want is) = omega (arith, (granted_sized false grant.count (turned_sized (drops_turn l g k legal holds_it))).out_are)
  row_moves l at _ _ legal f (keeps {k} {c} keep is) = omega (arith, (turned_sized (returns_turn l at k c f)).out_are)
  row_moves l at _ _ legal f (returns_closed {k} {grant} shut want is) = omega (arith, (granted_sized false grant.count (turned_sized (closes_turn l k f))).out_are)
  row_moves l at _ _ legal f (detaches {k} {grant} want is) = omega (arith, (granted_sized false grant.count (turned_sized (closes_turn l k f))).out_are)
  row_moves l at _ _ legal f (evicts {k} {grant} want is) = omega (arith, (granted_sized false grant.count (turned_sized (evicts_turn l k f).1)).out_are)
  row_moves l at _ _ legal f (fills {claimed} {grant} want) = omega (arith, (granted_sized claimed grant.count (stays_sized l)).out_are)
  row_moves l at _ _ legal f (asks_for {grant} asked) = omega (arith, (granted_sized false grant.count (stays_sized l)).out_are)
  row_moves l at _ _ legal f (claims {k = Some k} open_now first) = omega (arith, (turned_sized (unclaimed_turns l k first)).out_are)
  row_moves l at _ _ legal f (opens {k} {c} in_time is) = omega (arith, (turned_sized (opens_turn l at k c f)).out_are)
  row_moves l at _ _ legal f (opens_late {k} late) = omega (arith, (turned_sized (ends_turn l k f)).out_are)
  row_moves l at _ _ legal f (fails {k}) = omega (arith, (turned_sized (ends_turn l k f)).out_are)
  row_moves l at _ _ legal f (adds {c} room few is who) = omega (arith, (adds_sized l at c).out_are)
  row_moves l at _ _ legal f (reaps {grant} open_now closed_is by_idle_is by_life_is want) = omega (arith, (granted_reaped grant.count (reaped_sized l at)).out_are)
  row_moves l at _ _ legal f (retires {grant} open_now closed_is want) = omega (arith, (granted_reaped grant.count (retired_sized l at)).out_are)
  row_moves l at _ _ legal f (leaves {n} is) = omega (arith, (left_sized l at n).out_are)
  row_moves l at _ _ legal f (shuts {n} is) = omega (arith, (shut_sized l).out_are)
  row_moves l at _ _ legal f _ = refl

  -- so does each event that is allowed
  moved_out : (l : Ledger C) (at : ℕ) (e : Act C) (a : Answer) → IsLegal l → Allowed l at e a → out (Later l at e a) + coming e a ≡ out l + going e a
  moved_out l at e a legal allowed = each_allowed (λ b. out (Later l at e b) + coming e b ≡ out l + going e b) l at e a allowed (unfit_moves e (out l)) (row_moves l at e a legal)

  -- the settings stay, and so many connections are checked out and returned
  pub record IsCounted (old : StateView C) (out_now back : ℕ) (new : StateView C) : Type 0 where
    pub config : new.config ≡ old.config
    pub moves : out_of new + back ≡ out_of old + out_now

  pub counted_at : (l : Ledger C) (at : ℕ) (e : Act C) (a : Answer) (reads reads_now : AccessCount) → IsLegal l → Allowed l at e a
      → IsCounted (shown_beside reads l) (going e a) (coming e a) (shown_beside reads_now (Later l at e a))
  counted_at l at e a reads reads_now legal allowed = grind (arith, nat_tests, out_shown (Later l at e a), moved_out l, out_shown l)

  counted : {old : StateView C} (new : StateView C) (at : ℕ) (e : Act C) (a : Answer) → Steps old at e a new → IsCounted old (going e a) (coming e a) new
  counted {old} new at e a ((h, limits), meets) =
      let m = meets h.0 h.1 h.2 in
      subst (λ (x : StateView C). IsCounted x (going e a) (coming e a) new) h.2
      (subst (λ (x : StateView C). IsCounted (shown_beside old.reads h.0) (going e a) (coming e a) x) m.1 (counted_at h.0 at e a old.reads new.reads h.1 m.0))

  ended_one : {s old : StateView C} {now : AccessCount} {n m : ℕ} → s ≡ old → now ≡ record { ended = one_more s.reads; reads = n; searched = m } → now.ended ≡ one_more old.reads
  ended_one is counts = ap (λ (l : AccessCount). l.ended) counts ∙ ap (λ (x : StateView C). one_more x.reads) is

  -- A step is bounded by the access counter that it ends. The old state is the view of the fields.
  pub bounded : {s old : StateView C} {most more n m : ℕ} (new : StateView C) (at : ℕ) (e : Act C) (a : Answer) → Steps old at e a new
      → s ≡ old → new.reads ≡ record { ended = one_more s.reads; reads = n; searched = m } → n ≤ most → m ≤ more → IsBounded (going e a) (coming e a) most more old new
  bounded new at e a step is counts reads searched =
      let m = counted new at e a step in
      record { config = m.config; moves = m.moves; ended = ended_one is counts; reads = at_most (ap (λ (l : AccessCount). l.reads) counts) reads; searched = at_most (ap (λ (l : AccessCount). l.searched) counts) searched }

  -- So are a begin and a try.
  pub both_bounded : {s old between : StateView C} {most more n m : ℕ} (new : StateView C) (at g k : ℕ) (a : Answer) → Steps old at Begin (Begun g) between
      → Steps between at (Try k) a new → s ≡ old → new.reads ≡ record { ended = one_more s.reads; reads = n; searched = m } → n ≤ most → m ≤ more
      → IsBounded (going (Try k) a) 0 most more old new
  both_bounded {between = between} new at g k a begins tries is counts reads searched =
      let first = counted between at Begin (Begun g) begins in
      let second = counted new at (Try k) a tries in
      record { config = second.config ∙ first.config; moves = omega (arith, first.moves, second.moves); ended = ended_one is counts; reads = at_most (ap (λ (l : AccessCount). l.reads) counts) reads; searched = at_most (ap (λ (l : AccessCount). l.searched) counts) searched }

  -- the idle connections are among the connections
  pub idle_few : (s : StateView C) → HasLedger s → length s.records.idle ≤ s.records.conns
  idle_few s h = grind (arith, nat_tests, conns_split (records h.0), idle_tally h.0)
