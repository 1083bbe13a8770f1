-- No idle connection is retired.
use Rattle.bb8_ledger.proofs.Words.{◌≡◌, ℕ, zero, suc, ◌+◌, ◌≤◌, max, Bool, true, false, cond, eqb, ltb, ◌||◌, List, [], ◌∷◌, ◌++◌, map, length, Some, refl, ap, arith, nat_tests, Place, Claimed, Held, Guarded, Standing, Numbered, standing_at, tally, one, update, after_end, after_end_where, is_left, Act, Answer, Start, Ledger, Later, start, position, latest, handles, retired, records, idle_of, idle_count, next, approval, with_approvals, with_ended, at_place, entry, reaped_at, retired_at, retiring, lives_out, is_idle, stands, Row, serves, takes_out, waits_on, waits, checks, check_fails, gives_up_kept, gives_up_closed, keeps, returns_closed, detaches, evicts, fills, asks_for, claims, opens, opens_late, fails, adds, reaps, retires, retire_ended, leaves, shuts}
use Rattle.bb8_types.proofs.Numbered as numbered
use Rattle.bb8_ledger.proofs.Reaps.{reaped_none}

-- what is kept is not retired
kept_fresh : (broken old r over : Bool) → (broken || ((old || r) || over)) ≡ false → r ≡ false
kept_fresh broken old r over h = grind (arith, nat_tests)

-- nor is what comes in time
in_time_fresh : (over r : Bool) → (over || r) ≡ false → r ≡ false
in_time_fresh over r h = grind (arith, nat_tests)

not_below : (k b : ℕ) → ltb k b ≡ false → b ≤ k
not_below k b h = grind (arith, nat_tests, h)

module _ {C : Type 0} where
  -- each idle one of these records has this number at least; the first record has the number n
  abbrev pub AreFrom : ℕ → ℕ → List (Numbered (Standing C)) → Type 0
  AreFrom b n [] = Unit {0}
  AreFrom b n (r ∷ rs) = (stands is_idle r.standing ≡ true → b ≤ n) × AreFrom b (suc n) rs

  pub from : (b n k : ℕ) (rs : List (Numbered (Standing C))) → AreFrom b n rs → stands is_idle (standing_at n rs k) ≡ true → b ≤ k
  from b n k [] u h = cc
  from b n k (r ∷ rs) u h = grind (arith, nat_tests, numbered.same_or_not k n, from b (suc n) k rs u.1)

  none_idle : (b n : ℕ) (rs : List (Numbered (Standing C))) → idle_of rs ≡ 0 → AreFrom b n rs
  none_idle b n [] none = tt
  none_idle b n (r ∷ rs) none = (λ idle. absurd (omega (arith, none, ap one idle)), none_idle b (suc n) rs (omega (arith, none)))

  updated : (b n k : ℕ) (f : Numbered (Standing C) → Numbered (Standing C)) (rs : List (Numbered (Standing C)))
      → ((r : Numbered (Standing C)) → stands is_idle (f r).standing ≡ true → b ≤ k) → AreFrom b n rs → AreFrom b n (update n k f rs)
  updated b n k f [] new u = tt
  updated b n k f (r ∷ rs) new u = grind (arith, nat_tests, numbered.same_or_not k n, updated b (suc n) k f rs new u.1)

  ended : (b n k : ℕ) (rs : List (Numbered (Standing C))) → AreFrom b n rs → AreFrom b n (update n k after_end rs)
  ended b n k rs u = updated b n k after_end rs (λ r idle. cc) u

  placed : (b n k : ℕ) (p : Place C) (rs : List (Numbered (Standing C))) → is_idle p ≡ false → AreFrom b n rs → AreFrom b n (update n k (at_place p) rs)
  placed b n k p rs off u = grind (arith, nat_tests, updated b n k (at_place p) rs)

  appended : (b n : ℕ) (rs : List (Numbered (Standing C))) (r : Numbered (Standing C)) → (stands is_idle r.standing ≡ true → b ≤ n + length rs)
      → AreFrom b n rs → AreFrom b n (rs ++ r ∷ [])
  appended b n [] r new u = (λ idle. omega (arith, new idle), tt)
  appended b n (x ∷ rs) r new u = (u.0, appended b (suc n) rs r (λ idle. omega (arith, new idle)) u.1)

  granted : (b n : ℕ) (claimed : Bool) (m : ℕ) (rs : List (Numbered (Standing C))) → AreFrom b n rs → AreFrom b n (with_approvals claimed m rs)
  granted b n claimed zero rs u = u
  granted b n claimed (suc m) rs u = grind (arith, nat_tests, appended b n (with_approvals claimed m rs) (approval claimed), granted b n claimed m rs u)

  all_ended : (b n : ℕ) (ks : List ℕ) (rs : List (Numbered (Standing C))) → AreFrom b n rs → AreFrom b n (with_ended n ks rs)
  all_ended b n [] rs u = u
  all_ended b n (k ∷ ks) rs u = all_ended b n ks (update n k after_end rs) (ended b n k rs u)

  swept : (b n : ℕ) (rs : List (Numbered (Standing C))) → AreFrom b n rs → AreFrom b n (map (after_end_where is_left) rs)
  swept b n [] u = tt
  swept b n (r ∷ rs) u = grind (arith, nat_tests, swept b (suc n) rs u.1)

  -- at a retire each idle record has lived too long
  all_aged : (s : Start) (now : ℕ) (rs : List (Numbered (Standing C))) → tally (λ r. lives_out (retiring s).config now r.standing) rs ≡ idle_of rs
  all_aged s now [] = refl
  all_aged s now (r ∷ rs) = grind (arith, nat_tests, all_aged s now rs)

  -- so none is idle after it
  all_closed : (l : Ledger C) (at n : ℕ) → idle_of (with_approvals false n (with_ended (start l).first (retired_at l at) (records l))) ≡ 0
  all_closed l at n =
      let now : ℕ = max (latest l) at in
      let rs : List (Numbered (Standing C)) = with_approvals false n (with_ended (start l).first (retired_at l at) (records l)) in
      omega (
        arith,
        all_aged (start l) now rs,
        numbered.length-numbers (λ (r : Numbered (Standing C)). lives_out (retiring (start l)).config now r.standing) rs (start l).first,
        (reaped_none (retiring (start l)) (position l) now n (records l)).aged,
      )

  -- so it is after each event, where all that was retired had numbers, and nothing is idle while no
  -- handle is alive
  pub row_from : (l : Ledger C) (at : ℕ) (e : Act C) (a : Answer) → Row l at e a → retired l ≤ next l → (handles l ≡ 0 → idle_count l ≡ 0)
      → AreFrom (retired l) (start l).first (records l) → AreFrom (retired (Later l at e a)) (start l).first (records (Later l at e a))
  row_from l at _ _ (gives_up_kept {k} {c} {broken} holds_it keep is) few none u = grind (arith, nat_tests, kept_fresh, updated, not_below)
  row_from l at _ _ (keeps {k} {c} {broken} keep is) few none u = grind (arith, nat_tests, kept_fresh broken, updated, not_below k (retired l))
  row_from l at _ _ (opens {k} {c} in_time is) few none u = grind (arith, nat_tests, in_time_fresh (eqb (handles l) 0) (ltb k (retired l)) in_time, updated, not_below k (retired l))
  row_from l at _ _ (retires {grant} open_now closed_is want) few none u = none_idle _ _ _ (all_closed l at grant.count)
  row_from l at _ _ (retire_ended over) few none u = none_idle _ _ (records l) (none over)
  row_from l at _ _ _ few none u = grind (
    arith,
    nat_tests,
    granted (retired l) (start l).first,
    placed (retired l) (start l).first,
    ended (retired l) (start l).first,
    all_ended (retired l) (start l).first,
    swept (retired l) (start l).first,
    appended (retired l) (start l).first,
  )

  -- all that was retired had numbers
  pub row_few : (l : Ledger C) (at : ℕ) (e : Act C) (a : Answer) → Row l at e a → next l ≤ next (Later l at e a) → retired l ≤ next l → retired (Later l at e a) ≤ next (Later l at e a)
  row_few l at e a row more few = grind (arith, nat_tests)
