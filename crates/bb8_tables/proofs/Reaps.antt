-- Idle connections that have ended, one after another.
use Rattle.bb8_tables.proofs.Words.{◌≡◌, ℕ, ◌+◌, Bool, true, List, [], ◌∷◌, ◌++◌, slice_get, Option, Some, refl, sym, ap, ◌∙◌, arith, length-append, append_assoc, get, remove, Buffer, Standing, Closed, offered, offered_all, closed_in, closed_of, Ends, after_reaped, after_reap, AreReaped, AreFirst, RecordsView, nat_tests}

-- a list is offered these, and then those
pub offered_both : {X : Type 0} (xs ys : List X) (b : Buffer X) → offered_all (xs ++ ys) b ≡ offered_all ys (offered_all xs b)
offered_both [] ys b = refl
offered_both (x ∷ xs) ys b = offered_both xs ys (offered x b)

module _ {C : Type 0} where
  -- these connections are offered, and then those
  pub listed_both : (ks js : List ℕ) (s : RecordsView C) (a : Buffer (Closed C)) {b c : Buffer (Closed C)} → b ≡ offered_all (closed_of ks s.places) a
      → c ≡ offered_all (closed_of js (after_reap ks s).places) b → c ≡ offered_all (closed_of (ks ++ js) s.places) a
  listed_both ks js s a {b} {c} front back = back ∙ ap (offered_all (closed_of js (after_reap ks s).places)) front
      ∙ sym (offered_both (closed_of ks s.places) (closed_of js (after_reap ks s).places) a)
      ∙ ap (λ (xs : List (Closed C)). offered_all xs a) (sym (closed_both ks s))
    where
      closed_both : (ks : List ℕ) (s : RecordsView C) → closed_of (ks ++ js) s.places ≡ closed_of ks s.places ++ closed_of js (after_reap ks s).places
      closed_both [] s = refl
      closed_both (k ∷ ks) s = ap (λ (xs : List (Closed C)). closed_in k (get s.places k) ++ xs) (closed_both ks (after_reaped k s))
          ∙ sym (append_assoc (closed_in k (get s.places k)) (closed_of ks (remove s.places k)) (closed_of js (after_reap ks (after_reaped k s)).places))

module _ {C : Type 0} (test : Option (Standing C) → Bool) where
  -- nothing has ended yet
  pub none_ended : (s : RecordsView C) (outcome : ℕ) (list : Buffer (Closed C)) → outcome ≡ 0 → Ends test s [] s outcome list list
  none_ended s outcome list is = record { each = tt; state = refl; closed = is; conns = omega arith; idle = omega arith; listed = refl }

  due_both : (ks js : List ℕ) (s : RecordsView C) → AreReaped test ks s → AreReaped test js (after_reap ks s) → AreReaped test (ks ++ js) s
  due_both [] js s a b = b
  due_both (k ∷ ks) js s a b = (a.0, due_both ks js (after_reaped k s) a.1 b)

  -- one more was the first in line
  pub first_more : (ks : List ℕ) (k : ℕ) (s : RecordsView C) → AreFirst test ks s → slice_get (after_reap ks s).idle 0 ≡ Some k
      → test (get (after_reap ks s).places k) ≡ true → AreFirst test (ks ++ k ∷ []) s
  first_more [] k s a here passing = (here, passing, tt)
  first_more (j ∷ ks) k s a here passing = (a.0, a.1, first_more ks k (after_reaped j s) a.2 here passing)

  -- these end, and then those
  reap_both : (ks js : List ℕ) (s : RecordsView C) → after_reap (ks ++ js) s ≡ after_reap js (after_reap ks s)
  reap_both [] js s = refl
  reap_both (k ∷ ks) js s = reap_both ks js (after_reaped k s)

  -- one more has ended
  pub ends_more : {k : ℕ} {old mid new : RecordsView C} {ks : List ℕ} {outcome more : ℕ} {list listed offered : Buffer (Closed C)} → Ends test old ks mid outcome list listed
      → Ends test mid (k ∷ []) new 1 listed offered → more ≡ outcome + 1 → Ends test old (ks ++ k ∷ []) new more list offered
  ends_more {k} {old} {mid} {new} {ks} {outcome} {more} {list} {listed} {offered} a e is = grind (arith, nat_tests, length-append, due_both, reap_both, listed_both)
