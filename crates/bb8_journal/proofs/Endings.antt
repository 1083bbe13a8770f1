-- How many ending events may still come, step by step.
use Rattle.bb8_journal.proofs.Words.{◌≡◌, ℕ, ◌+◌, ◌<◌, ◌≤◌, max, Bool, true, false, ◌&&◌, ltb, is_some, refl, sym, ap, ◌∙◌, subst, arith, nat_tests, ReplayAnswer, no_accesses, Act, Ledger, Later, start, position, latest, handles, gets, alive, get_of, new_get, Row, begins, waits_on, serves, takes_out, waits, checks, check_fails, gives_up, gives_up_kept, gives_up_closed, keeps, returns_closed, detaches, evicts, opens, adds, leaves, shuts, fits, Allowed, IsLegal, and_right, StateView, HasLedger, act_of, answer_of, Happens, IsTaken, endings_of, unfit_now}
use Rattle.bb8_core.specs.declared.replay.events.Act.{Act as Named}
use Rattle.bb8_core.specs.declared.replay.events.Act.TheVariants as named
use Rattle.bb8_ledger.specs.Answers.{Answer}
use Rattle.bb8_types.proofs.Numbered as numbered
use Rattle.bb8_ledger.proofs.Waiters.{begins_alive, notify_alive}
use Rattle.bb8_ledger.proofs.Effects.{by_fit}
use Rattle.bb8_ledger.proofs.GetEffects.{given_up_sums, trier_leaves, trier_holds, holder_ends, holder_turns, left_alive, left_told_alive}
use Rattle.bb8_core.proofs.Fitting.{shown}
use Rattle.bb8_core.specs.StepBounds.{out_of}
use Rattle.bb8_core.proofs.StepBounds.{going, coming, counted_at}
use Rattle.bb8_journal.specs.Endings.{is_ending, is_named_ending, CountsDown}

-- a handle is alive
is_open : (n : ℕ) → ltb 0 n ≡ true → 0 < n
is_open n e = grind (arith, nat_tests, e)

-- by what a state shows
ends_shown : (ending : Bool) (before after m n : ℕ) → before ≡ m → after ≡ n → CountsDown ending before after → CountsDown ending m n
ends_shown true before after m n p q h = omega arith
ends_shown false before after m n p q h = omega arith

module _ {C : Type 0} where
  -- each row, where so many connections are out before and after it
  row_ends : (l : Ledger C) (at : ℕ) (e : Act C) (a : Answer) (before after : ℕ) → fits l e ≡ true → Row l at e a → after + coming e a ≡ before + going e a
      → CountsDown (is_ending e) (alive l + (handles l + before)) (alive (Later l at e a) + (handles (Later l at e a) + after))
  row_ends l at _ _ before after f (begins is few) moves = omega (arith, numbered.tally-append (λ r. is_some r.standing) (gets l) new_get)
  row_ends l at _ _ before after f (waits_on {g} {grant} on nothing) moves = omega (arith, begins_alive (start l).first_get (max (latest l) at) (position l) g (gets l))
  row_ends l at _ _ before after f (serves {g} {k} {grant} off unchecked first want) moves = omega (arith, left_alive (trier_leaves l g f off))
  row_ends l at _ _ before after f (takes_out {g} {k} {grant} off checked first want) moves = omega (arith, left_alive (trier_holds l g k f off))
  row_ends l at _ _ before after f (waits {g} {grant} off none granted) moves = omega (arith, begins_alive (start l).first_get (max (latest l) at) (position l) g (gets l))
  row_ends l at _ _ before after f (checks {g} {k} holds_it nothing) moves = omega (arith, left_alive (holder_ends l g k holds_it).0)
  row_ends l at _ _ before after f (check_fails {g} {k} {n = n} holds_it want is) moves = omega (arith, left_told_alive (holder_turns l g k holds_it).0 n)
  row_ends l at _ _ before after f (gives_up {g} {n = n} is) moves = omega (arith, (given_up_sums l g n (and_right (is_some (get_of l g)) _ f).0 is).0)
  row_ends l at _ _ before after f (gives_up_kept {g} {k} {n = n} holds_it keep is) moves = omega (arith, left_told_alive (holder_ends l g k holds_it).0 n)
  row_ends l at _ _ before after f (gives_up_closed {g} {k} {n = n} holds_it shut want is) moves = omega (arith, left_told_alive (holder_ends l g k holds_it).0 n)
  row_ends l at _ _ before after f (keeps {n = n} keep is) moves = omega (arith, notify_alive (start l).first_get n (gets l))
  row_ends l at _ _ before after f (returns_closed {n = n} shut want is) moves = omega (arith, notify_alive (start l).first_get n (gets l))
  row_ends l at _ _ before after f (detaches {n = n} want is) moves = omega (arith, notify_alive (start l).first_get n (gets l))
  row_ends l at _ _ before after f (evicts {n = n} want is) moves = omega (arith, notify_alive (start l).first_get n (gets l))
  row_ends l at _ _ before after f (opens {n = n} some is) moves = omega (arith, notify_alive (start l).first_get n (gets l))
  row_ends l at _ _ before after f (adds {n = n} room few is who) moves = omega (arith, notify_alive (start l).first_get n (gets l))
  row_ends l at _ _ before after f (leaves is) moves = omega (arith, is_open (handles l) f)
  row_ends l at _ _ before after f (shuts is) moves = omega (arith, is_open (handles l) f)
  row_ends l at _ _ before after f _ moves = omega arith

  -- the same of what is shown: an event that is taken ends as it says, and one that is not changes
  -- nothing
  ends_at : (l : Ledger C) (at : ℕ) (e : Act C) (a : Answer) → IsLegal l → Allowed l at e a
      → CountsDown (fits l e && is_ending e) (endings_of (shown l)) (endings_of (shown (Later l at e a)))
  ends_at l at e a legal allowed =
      by_fit (fits l e) _ _ (CountsDown (fits l e && is_ending e) (endings_of (shown l)) (endings_of (shown (Later l at e a)))) allowed
      (λ t row. subst (λ (b : Bool). CountsDown (b && is_ending e) (endings_of (shown l)) (endings_of (shown (Later l at e a)))) (sym t)
      (row_ends l at e a (out_of (shown l)) (out_of (shown (Later l at e a))) t row (counted_at l at e a no_accesses no_accesses legal allowed).moves))
      (λ t is. subst (λ (b : Bool). CountsDown (b && is_ending e) (endings_of (shown l)) (endings_of (shown (Later l at e a)))) (sym t)
      (let same : endings_of (shown (Later l at e a)) ≡ endings_of (shown l) =
      ap (λ (b : Answer). endings_of (shown (Later l at e b))) is ∙ ap endings_of (unfit_now l (shown l) at e t refl).1 in omega arith))

-- a named event is an ending one just if the event that it means is
named_ending : (l : Ledger ℕ) (e : Named) → is_ending (act_of l e) ≡ is_named_ending e
named_ending l named.Begin = refl
named_ending l _ = refl

-- it may be taken or not: at most one more
at_most : (taken : Bool) (before after : ℕ) → CountsDown taken before after → after ≤ before + 1
at_most true before after h = omega arith
at_most false before after h = h

-- In a replay an event leaves at most one ending event more to come.
pub one_more : (old : StateView ℕ) (at : ℕ) (e : Named) (a : ReplayAnswer) (new : StateView ℕ) → HasLedger old → Happens old at e a new → endings_of new ≤ endings_of old + 1
one_more old at e a new h happens =
    let m = happens h.0 h.1 h.2 in
    at_most (fits h.0 (act_of h.0 e) && is_ending (act_of h.0 e)) _ _
    (ends_shown _ _ _ _ _ (ap endings_of h.2) (ap endings_of m.1) (ends_at h.0 at (act_of h.0 e) (answer_of a) h.1 m.0))

-- An ending event that is taken leaves fewer.
pub one_less : (old : StateView ℕ) (at : ℕ) (e : Named) (a : ReplayAnswer) (new : StateView ℕ) → HasLedger old → Happens old at e a new
    → IsTaken old e → is_named_ending e ≡ true → endings_of new + 1 ≤ endings_of old
one_less old at e a new h happens taken ending =
    let m = happens h.0 h.1 h.2 in
    let is : (fits h.0 (act_of h.0 e) && is_ending (act_of h.0 e)) ≡ true =
    ap (λ (b : Bool). b && is_ending (act_of h.0 e)) (taken h.0 h.1 h.2) ∙ named_ending h.0 e ∙ ending in
    subst (λ (b : Bool). CountsDown b (endings_of old) (endings_of new)) is
    (ends_shown _ _ _ _ _ (ap endings_of h.2) (ap endings_of m.1) (ends_at h.0 at (act_of h.0 e) (answer_of a) h.1 m.0))
