-- What holds of the sections of a pool.
use Rattle.bb8_lock.proofs.Words.{◌≡◌, ℕ, ◌+◌, ◌^◌, ◌<◌, Bool, true, false, refl, sym, subst, arith, Ledger, answer_of_add}
use Rattle.std.specs.Prelude.{not, eqb, ltb}
use Rattle.std.proofs.Common.{IfOk, Result, Ok, Err}
use Rattle.std.proofs.lemmas.Bool.Decides.{nat_tests}
use Rattle.bb8_core.specs.declared.answers.AddAnswer.{AddAnswer}
use Rattle.bb8_core.specs.declared.answers.Started.TheVariants as starting
use Rattle.bb8_core.specs.declared.answers.Unfit.{Unfit as Refused}
use Rattle.bb8_core.specs.declared.answers.TryAnswer.{TryAnswer}
use Rattle.bb8_core.specs.StepAnswers.{Starts}
use Rattle.bb8_lock.specs.declared.gets.home.FirstTry.{FirstTry}
use Rattle.bb8_lock.specs.declared.gets.home.FirstTry.TheVariants as first
use Rattle.bb8_lock.specs.declared.gets.home.Tried.{Tried}
use Rattle.bb8_lock.specs.Steps.{IsSorted, StartsBy}
use Rattle.bb8_lock.specs.Outcomes.{in_core}
use Rattle.bb8_tables.specs.declared.keys.GetKey.{GetKey}
use Rattle.bb8_types.specs.declared.api.configuration.Config.{Config}
use Rattle.bb8_types.specs.declared.api.moments.Moment.{Moment}
use Rattle.bb8_types.specs.declared.grants.Grant.{Grant}
use Rattle.bb8_ledger.specs.Acts.{Begin, Fill, Add, Leave}
use Rattle.bb8_ledger.specs.Answers.{Answer, Begun, Broken, Exhausted, Granted, Memory, Unfit}
use Rattle.bb8_ledger.specs.Table.{Allowed, Row, add_broken}
use Rattle.bb8_core.specs.StateView.{StateView, HasLedger, IsAsBefore, IsWithinLimits, Steps, ReportsFitting}
use Rattle.bb8_core.specs.Unfit.{answered}
use Rattle.bb8_core.specs.Run.{opening}
use Rattle.bb8_core.proofs.Fitting.{step_still}
use Rattle.bb8_ledger.proofs.Effects.{by_fit}

-- an answer that a connection was refused as broken
abbrev refuses_broken : Answer → Bool
refuses_broken Broken = true
refuses_broken _ = false

no_fewer : (n : ℕ) → not (ltb 0 n) ≡ eqb n 0
no_fewer n = grind (arith, nat_tests)

module _ {C : Type 0} where
  -- a handle that cannot leave is none
  pub none_left : (s : StateView C) (fitting : Bool) → HasLedger s → ReportsFitting s Leave fitting → not fitting ≡ eqb s.handles 0
  none_left s fitting (l, legal, means) reports = grind (arith, nat_tests)

  -- a get that begins and tries, with its permit
  pub starts_in : {P : Type 0} (old new : StateView C) (at : Moment) (g : GetKey) (t : Tried C P) {outcome : TryAnswer C} → in_core t ≡ outcome
      → Starts old at.0 (starting.Tried g outcome) new → StartsBy old at.0 (Ok (first.Tried g t)) new
  starts_in old new at g t is starts = subst (λ (q : TryAnswer C). Starts old at.0 (starting.Tried g q) new) (sym is) starts

  -- a start from a state as before, but for the count of accesses, is one from the former state
  pub starts_still : {P : Type 0} (old mid new : StateView C) (at : ℕ) (r : Result (FirstTry C P) Refused) → IsAsBefore old mid → IsWithinLimits old
      → StartsBy mid at r new → StartsBy old at r new
  starts_still old mid new at (Ok (first.Tried g t)) same limits (between, begins, tries, out) =
      (between, step_still between at Begin (Begun g.number) same limits begins, tries, out)
  starts_still old mid new at (Ok first.Memory) same limits begins = step_still new at Begin Memory same limits begins
  starts_still old mid new at (Ok first.Exhausted) same limits begins = step_still new at Begin Exhausted same limits begins
  starts_still old mid new at (Err u) same limits (begins, as_mid) = grind (arith, nat_tests)

  -- an adding is refused as broken just where the connection is broken
  add_row : (l : Ledger C) (at : ℕ) (c : C) (b : Bool) (a : Answer) → Row l at (Add c b) a → refuses_broken a ≡ b
  add_row l at c _ _ add_broken = refl
  add_row l at c _ _ _ = refl

  sorted_as : (answer : AddAnswer C) (b : Bool) → refuses_broken (answer_of_add answer) ≡ b → IsSorted b answer
  sorted_as answer b is = grind (arith, nat_tests)

  adds_fit : (answer : AddAnswer C) (P : Type 0) → answer_of_add answer ≡ Unfit → P
  adds_fit answer P is = grind (arith, nat_tests)

  pub add_sorted : {old new : StateView C} (at : ℕ) (c : C) (b : Bool) (r : Result (AddAnswer C) C)
      → Steps old at (Add c b) (answered answer_of_add r) new → IfOk r (IsSorted b)
  add_sorted at c b (Err same) s = tt
  add_sorted at c b (Ok answer) s = grind (arith, nat_tests, sorted_as answer, by_fit, add_row s.0.0.0, adds_fit answer)

  -- what a new pool is granted for its first connections has numbers that a u64 can be
  pub first_numbers : (config : Config) (at : ℕ) (claimed : Bool) (grant : Grant) → Allowed {C = C} (opening config 0 0) at (Fill claimed) (Granted grant)
      → grant.first + grant.count < 2 ^ 64
  first_numbers config at claimed grant allowed = grind (arith, nat_tests)
