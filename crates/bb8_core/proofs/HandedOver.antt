-- A get that was notified may try, and what its try comes to.
use Rattle.std.proofs.lemmas.Bool.Decides.{nat_tests}
use Rattle.bb8_core.proofs.Words.{◌≡◌, ◌∙◌, ℕ, Bool, true, Option, None, Some, IfSome, sym, subst, MatchBool, Try, Unfit, Answer, Act, Ledger, Later, Row, fits, IsLegal, StateView, IsFitting, arith}
use Rattle.bb8_tables.specs.declared.keys.GetKey.{GetKey}
use Rattle.bb8_core.specs.declared.answers.TryAnswer.{TryAnswer}
use Rattle.bb8_core.specs.StepAnswers.{answer_of_try}
use Rattle.bb8_core.specs.StateView.{Represents, Steps}
use Rattle.bb8_tables.specs.Keys.{notified_of}
use Rattle.bb8_core.specs.HandedOver.{Follows, HandsOn, StepsAndTries, StaysPrompt}
use Rattle.bb8_ledger.specs.Handed.{notified_by}
use Rattle.bb8_ledger.proofs.Handed.{told_tries, handed_over}
use Rattle.bb8_core.proofs.Runs.{shown_try}

-- an answer that notifies, of an event that is allowed, is a row of the table
told_row : (b : Bool) (P : Type 0) (a : Answer) (g : ℕ) → MatchBool b P (a ≡ Unfit) → notified_by a ≡ Some g → P × (b ≡ true)
told_row b P a g p outcome = grind (arith, nat_tests)

module _ {C : Type 0} where
  -- on a legal ledger that the state represents, the get may try
  tries_on : {s t : StateView C} (at g : ℕ) (e : Act C) (a : Answer) (l : Ledger C) → IsLegal l → Represents l s → Steps s at e a t → notified_by a ≡ Some g
      → Row l at e a × (fits l e ≡ true) × (fits (Later l at e a) (Try g) ≡ true)
  tries_on at g e a l legal means step outcome = grind (arith, nat_tests, told_row (fits l e), told_tries l)

  may_try : {s t : StateView C} (at g : ℕ) (e : Act C) (a : Answer) → Steps s at e a t → notified_by a ≡ Some g → IsFitting t (Try g)
  may_try {s} {t} at g e a step outcome later legal means =
      let h = step.0.0 in
      shown_try later t g means ∙ sym (shown_try (Later h.0 at e a) t g (step.1 h.0 h.1 h.2).1) ∙ (tries_on at g e a h.0 h.1 h.2 step outcome).2

  hands_on : {s t u : StateView C} (at g : ℕ) (e : Act C) (a b : Answer) → Steps s at e a t → notified_by a ≡ Some g → Steps t at (Try g) b u → HandsOn s at e a g b
  hands_on {s} {t} {u} at g e a b step outcome next l legal means none =
      let now = step.1 l legal means in
      let row = tries_on at g e a l legal means step outcome in
      let later : IsLegal (Later l at e a) = (legal, now.0) in
      let tries : Row (Later l at e a) at (Try g) b =
      subst (λ (x : Bool). MatchBool x (Row (Later l at e a) at (Try g) b) (b ≡ Unfit)) row.2 (next.1 (Later l at e a) later now.1).0 in
      handed_over l at at g e a b later row.1 row.0 outcome tries none

  -- so where a step notified a get, it may
  pub fits_told : {s t : StateView C} (at : ℕ) (e : Act C) (a : Answer) (n : Option GetKey) → Steps s at e a t → notified_by a ≡ notified_of n → IfSome n (λ g. IsFitting t (Try g.number))
  fits_told at e a None step outcome = tt
  fits_told at e a (Some g) step outcome = may_try at g.number e a step outcome

  -- and no try that fits is reported as unfit
  no_row : (l : Ledger C) (at g : ℕ) → Row l at (Try g) Unfit → ⊥
  no_row l at g r = elim r [ ]

  pub made_once_fitting : {s t : StateView C} {G : Type 0} (at g : ℕ) → IsFitting s (Try g) → Steps s at (Try g) Unfit t → G
  made_once_fitting at g fit ((h, limits), step) = grind (arith, nat_tests, no_row h.0)

  -- and a step and this try are a hand-off
  pub hands_over : {s t : StateView C} (u : StateView C) (at : ℕ) (e : Act C) (a : Answer) (n : Option GetKey) (o : Option (TryAnswer C))
      → Steps s at e a t → notified_by a ≡ notified_of n → Follows t at n o u → StepsAndTries o s at e a u
  hands_over {s} {t} u at e a None None step is same = (subst (λ (x : StateView C). Steps s at e a x) (sym same) step, is)
  hands_over {s} {t} u at e a (Some g) (Some tried) step is next = (g.number, is, t, step, next.0, next.1, hands_on at g.number e a (answer_of_try tried) step is next.0)
  hands_over {s} {t} u at e a None (Some tried) step is next = absurd next
  hands_over {s} {t} u at e a (Some g) None step is next = absurd next

  -- so a prompt history stays prompt
  pub stays_prompt : (s u : StateView C) (o : Option (TryAnswer C)) (at : ℕ) (e : Act C) (a : Answer) → StepsAndTries o s at e a u → StaysPrompt o s at e a
  stays_prompt s u o at e a h = grind (arith, nat_tests)
