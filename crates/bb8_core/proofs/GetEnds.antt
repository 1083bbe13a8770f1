-- The steps at which a get releases what it holds, or ends without being served: both ends of a
-- check, and a give-up.
use Rattle.std.proofs.lemmas.Bool.Decides.{nat_tests}
use Rattle.bb8_core.proofs.Words.{waiting, arith, refl, sym, ◌∙◌, ap, ℕ, ◌≡◌, ◌+◌, false, Some, true, Bool, Option, None, List, Numbered, cond, max, slice_get, suc, Ledger, update, start, one, ◌&&◌, Grant, Counts, Getting, in_order, latest, position, Later, standing_at, gets, get_of, with_notice, not, holds, GiveUp, counts, GaveUp, get_peak, Closed, unnotified_at, Kept, min, is_notified, ◌*◌, oldest_waiter, timed_out, cancelled, expires, ltb, retired, IfSome, get, most_micros, first_wait_of, micros_since, is_doubtful, counts_held, GetsView, Counters, holding_is, wait_micros, reason_of}
use Rattle.bb8_types.specs.declared.reasons.Reason.{Reason as Named}
use Rattle.bb8_types.specs.declared.reasons.Reason.TheVariants as reasons
use Rattle.bb8_tables.specs.Machine as machine
use Rattle.bb8_core.proofs.ShownGets.{noticed_later, first_waits, without_other, notified_out}
use Rattle.bb8_core.proofs.Fitting.{shown, shown_get}
use Rattle.bb8_core.proofs.Meets.{Notices, given_up, IsHeld}
use Rattle.bb8_core.proofs.Steps.{next_gets, same_micros}

-- the named get is alive
named_stands : (first p : ℕ) (gs : List (Numbered Getting)) (b : Bool) (n : Option ℕ)
    → n ≡ cond b (slice_get (in_order unnotified_at first gs p) 0) None → IfSome n (λ k. (s : Getting) × (standing_at first gs k ≡ Some s))
named_stands first p gs b None e = tt
named_stands first p gs true (Some k) e = let w = first_waits first p gs k (sym e) in (w.0, w.1)
named_stands first p gs false (Some k) e = cc

-- the first in line is notified, once the gets are these
pub notices : {left was gs : GetsView} {n : Option ℕ} → left ≡ was → n ≡ slice_get left.waiting 0 → gs ≡ machine.after_notice n left → Notices was n gs
notices {n = n} is who after = record { who = who ∙ ap (λ (x : GetsView). slice_get x.waiting 0) is; after = after ∙ ap (machine.after_notice n) is }

-- what the code says of the counters, one clause a reason
pub given_up_is : (reason : Named) (now : ℕ) (since : Option ℕ) {was is : Counters}
    → (reason ≡ reasons.TimedOut → is ≡ given_up reasons.TimedOut now since was)
    → (reason ≡ reasons.Cancelled → is ≡ given_up reasons.Cancelled now since was) → is ≡ given_up reason now since was
given_up_is reasons.TimedOut now since timed let_go = timed refl
given_up_is reasons.Cancelled now since timed let_go = let_go refl

-- a give-up closes nothing by itself
pub given_up_open : (reason : Named) (now : ℕ) (since : Option ℕ) (was : Counters) {is : Counters} → is ≡ given_up reason now since was → is.broken + is.retired + is.max_lifetime ≡ was.broken + was.retired + was.max_lifetime
given_up_open reasons.TimedOut now since was e = ap (λ (x : Counters). x.broken + x.retired + x.max_lifetime) e
given_up_open reasons.Cancelled now since was e = ap (λ (x : Counters). x.broken + x.retired + x.max_lifetime) e

-- the statistics after a closing
abbrev pub with_closing : Counts → Bool → Bool → Bool → Counts
with_closing x b r aged = record x { broken = x.broken + one b; retired = x.retired + one (not b && r); max_lifetime = x.max_lifetime + one (not b && (not r && aged)) }

module _ {C : Type 0} where
  -- the gets once one has changed, and who is named is notified
  pub told_shown : (l : Ledger C) (g : ℕ) (f : Numbered Getting → Numbered Getting) (b : Bool) (n : Option ℕ) (after : GetsView)
      → next_gets l (update (start l).first_get g f (gets l)) ≡ after → n ≡ cond b (slice_get after.waiting 0) None
      → next_gets l (with_notice (start l).first_get n (update (start l).first_get g f (gets l))) ≡ machine.after_notice n after
  told_shown l g f b n after is n_is = grind (arith, nat_tests, named_stands (start l).first_get (suc (position l)), noticed_later (start l).first_get (suc (position l)) (get_peak l))

  -- ---- a get that holds a connection

  pub holds_in : (l : Ledger C) (g k : ℕ) → IsHeld (shown l) g k → holds (get_of l g) ≡ Some k
  holds_in l g k held = ap (λ (x : Option Getting). holds x) (shown_get l (shown l) refl g) ∙ held

  -- the oldest waiter is the first of those that are left
  pub oldest_left : (l : Ledger C) (g k : ℕ) (n : Option ℕ) → holds (get_of l g) ≡ Some k → n ≡ slice_get (machine.after_get_end g (shown l).gets).waiting 0 → n ≡ oldest_waiter l
  oldest_left l g k n held n_is =
      grind (arith, nat_tests, holding_is (get_of l g) k held, without_other (start l).first_get (position l) (gets l) g (holding_is (get_of l g) k held).0 (holding_is (get_of l g) k held).1)

  -- ---- give up

  -- what a ledger counts of a give-up, but for what it closes
  abbrev given_up_counts : Ledger C → ℕ → ℕ → Named → Counts
  given_up_counts l at g reasons.TimedOut = record (counts l) {
    timed_out = timed_out l + 1;
    wait_time = 1000 * min most_micros (wait_micros l + micros_since (max (latest l) at) (first_wait_of (get_of l g)));
  }
  given_up_counts l at g reasons.Cancelled = record (counts l) { cancelled = cancelled l + 1 }

  pub count_given_up : (l : Ledger C) (at g : ℕ) (reason : Named) (was : Counters) → counts l ≡ counts_held was
      → given_up_counts l at g reason ≡ counts_held (given_up reason (max (latest l) at) (first_wait_of (get (shown l).gets.places g)) was)
  count_given_up l at g reason was were = grind (arith, nat_tests, same_micros l, shown_get l (shown l))

  pub count_gave_up : (l : Ledger C) (at g : ℕ) (reason : Named) (broken : Bool) (n : Option ℕ)
      → counts (Later l at (GiveUp g (reason_of reason) None broken) (GaveUp n)) ≡ given_up_counts l at g reason
  count_gave_up l at g reason broken n = grind (arith, nat_tests)

  pub count_kept : (l : Ledger C) (at g k : ℕ) (reason : Named) (c : C) (broken : Bool) (n : Option ℕ)
      → counts (Later l at (GiveUp g (reason_of reason) (Some c) broken) (Kept k n)) ≡ given_up_counts l at g reason
  count_kept l at g k reason c broken n = grind (arith, nat_tests)

  pub count_closed : (l : Ledger C) (at g k : ℕ) (reason : Named) (c : C) (broken : Bool) (grant : Grant) (n : Option ℕ)
      → counts (Later l at (GiveUp g (reason_of reason) (Some c) broken) (Closed k grant n)) ≡ with_closing
      (given_up_counts l at g reason) (is_doubtful (start l).config broken) (ltb k (retired l)) (expires l at k)
  count_closed l at g k reasons.TimedOut c broken grant n = refl
  count_closed l at g k reasons.Cancelled c broken grant n = refl

  -- whom a give-up notifies is the oldest waiter, where the get had been notified
  pub handed_is : (l : Ledger C) (g : ℕ) (st : Getting) (n : Option ℕ) → get_of l g ≡ Some st
      → n ≡ cond (is_notified st.place) (slice_get (machine.without g (waiting l)) 0) None
      → n ≡ cond (is_notified st.place) (oldest_waiter l) None
  handed_is l g st n is n_is = grind (arith, nat_tests, without_other (start l).first_get (position l) (gets l) g st is, notified_out st.place)
