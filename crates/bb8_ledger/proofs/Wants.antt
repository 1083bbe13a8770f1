-- What is wanted is made good.
use Rattle.bb8_ledger.proofs.Words.{◌≡◌, ◌⊎◌, ℕ, ◌+◌, ◌-◌, ◌<◌, ◌≤◌, min, Bool, false, cond, List, ap, arith, unwrap_or, Grant, Held, Guarded, Standing, Settings, Act, Ask, Answer, Granted, IsGranted, Numbered, after_end, Ledger, Later, start, records, handles, next, peak, conns, approved, conns_of, approved_of, idle_of, at_place, with_approvals, Row, serves, takes_out, check_fails, gives_up_closed, returns_closed, detaches, evicts, fills, asks_for, unprovided, reaps, retires, IsWant, with_record, due, MakesGood, nat_tests}
use Rattle.bb8_ledger.specs.Limits.{IsAskedFor}
use Rattle.bb8_types.proofs.Numbered as numbered
use Rattle.bb8_ledger.proofs.Effects.{approves}

-- one of two numbers is nothing where the less of them is
pub either_none : (x y : ℕ) → min x y ≡ 0 → (x ≡ 0) ⊎ (y ≡ 0)
either_none x y h = grind (arith, nat_tests)

-- what is granted reaches what is wanted, or the size, or something was withheld
made_good : (least size had have took taken count withheld : ℕ) → count + withheld ≡ min (least - had) (size - took) → have ≡ had + count
    → taken ≡ took + count → (least ≤ have) ⊎ (size ≤ taken) ⊎ (0 < withheld)
made_good least size had have took taken count withheld split more full = grind (arith, nat_tests, either_none)

-- what is due while a handle is alive
pub due_open : (config : Settings) (handles taken asked : ℕ) → 0 < handles → due config handles taken asked ≡ min asked (config.max_size - taken)
due_open config handles taken asked open_now = ap (λ (b : Bool). cond b 0 (min asked (config.max_size - taken))) (numbered.ne_test handles 0 (λ e. omega arith))

-- or none is
pub due_or_none : (config : Settings) (handles taken asked : ℕ) → (handles ≡ 0) ⊎ (due config handles taken asked ≡ min asked (config.max_size - taken))
due_or_none config handles taken asked = grind (arith, nat_tests)

module _ {C : Type 0} where
  -- once what is wanted of records is granted
  want_made_good : (l : Ledger C) (rs : List (Numbered (Standing C))) (claimed : Bool) (g : Grant) → IsWant l rs g → 0 < handles l
      → (unwrap_or (start l).config.min_idle 0 ≤ idle_of (with_approvals claimed g.count rs) + approved_of
      (with_approvals claimed g.count rs)) ⊎ ((start l).config.max_size ≤ conns_of (with_approvals claimed g.count rs) + approved_of
      (with_approvals claimed g.count rs)) ⊎ (0 < g.withheld)
  want_made_good l rs claimed g want open_now = grind (arith, approves claimed g.count rs, made_good, due_open)

  -- so once what waiters lack is granted
  asked_good : (l : Ledger C) (at : ℕ) (g : Grant) → IsGranted (next l) (conns l + approved l) (peak l)
      (due (start l).config (handles l) (conns l + approved l) (unprovided l)) g → IsAskedFor (Later l at Ask (Granted g)) g
  asked_good l at g granted open_now = grind (arith, approves false g.count (records l), made_good, due_open)

  pub row_makes_good : (l : Ledger C) (at : ℕ) (e : Act C) (a : Answer) → Row l at e a → MakesGood (Later l at e a) e a
  row_makes_good l at _ _ (serves {k} {grant} not_waiting off first want) = want_made_good l (with_record l k (at_place Guarded)) false grant want
  row_makes_good l at _ _ (takes_out {g} {k} {grant} not_waiting on first want) = want_made_good l (with_record l k (at_place (Held g))) false grant want
  row_makes_good l at _ _ (check_fails {k} {grant} holds_it want is) = want_made_good l (with_record l k after_end) false grant want
  row_makes_good l at _ _ (gives_up_closed {k} {grant} holds_it shut want is) = want_made_good l (with_record l k after_end) false grant want
  row_makes_good l at _ _ (returns_closed {k} {grant} shut want is) = want_made_good l (with_record l k after_end) false grant want
  row_makes_good l at _ _ (detaches {k} {grant} want is) = want_made_good l (with_record l k after_end) false grant want
  row_makes_good l at _ _ (evicts {k} {grant} want is) = want_made_good l (with_record l k after_end) false grant want
  row_makes_good l at _ _ (fills {claimed} {grant} want) = want_made_good l (records l) claimed grant want
  row_makes_good l at _ _ (asks_for {grant} granted) = asked_good l at grant granted
  row_makes_good l at _ _ (reaps {grant} open_now closed_is by_idle_is by_life_is want) = grind (arith, nat_tests, want_made_good)
  row_makes_good l at _ _ (retires {grant} open_now closed_is want) = grind (arith, nat_tests, want_made_good)
  row_makes_good l at _ _ _ = tt
