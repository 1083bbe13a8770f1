-- The pool that a building returns is made of what was planned, and its error is one that may end
-- it.
use Rattle.std.proofs.Common.{◌≡◌, Result, Ok, Err, IfOk, IfErr, refl, sym, ◌∙◌}
use Rattle.std.specs.Prelude.{List, ⊤}
use Rattle.std.specs.Arc.{arc_value}
use Rattle.std.specs.declared.sync.ledger.Ledger.{Ghosts as LedgerOf}
use Rattle.futures.specs.declared.task.Poll.{Poll}
use Rattle.futures.specs.declared.task.Poll.TheVariants.{Ready, Pending}
use Rattle.bb8_types.specs.declared.api.errors.Memory.{Memory}
use Rattle.bb8_types.specs.declared.api.errors.RunError.{RunError}
use Rattle.bb8_types.specs.declared.api.errors.RunError.TheVariants as errors
use Rattle.bb8_tasks.specs.declared.building.BuildingStage.{BuildingStage}
use Rattle.bb8_tasks.specs.declared.building.BuildingStage.TheVariants.{Planned, Opening, Done}
use Rattle.bb8_tasks.specs.declared.replenish.Replenish.{Replenish}
use Rattle.bb8_tasks.specs.declared.rounds.Round.{Round}
use Rattle.bb8_tasks.specs.declared.rounds.Round.TheVariants.{Failed, Complete, Going}
use Rattle.bb8_tasks.specs.Building.{AfterFirstRound, BuildingPolls}
use Rattle.bb8_lock.specs.Traces.{Answers}
use Rattle.bb8_lock.specs.declared.locked.Permits.{Ghosts as PermitsOf}
use Rattle.bb8_lock.specs.Words.{ManagerOf, DebugOf, SinkOf, CustomizerOf, ClockOf}
use Rattle.bb8.specs.declared.building.Plan.{Plan}
use Rattle.bb8.specs.declared.pool.Pool.{Pool}
use Rattle.bb8.specs.Buildings.{IsBuildError, PoolIsMade, PlansStage, PollsStage, PoolRounds}
use Rattle.bb8.specs.Choices.{Choices}
use Rattle.bb8.specs.Services.{basis, basis_of, Basis}
use Rattle.bb8.proofs.Failing.{round_failed, Ended}

-- what is here is of that basis
abbrev pub Stands : {B I P T : Type 0} → (I → B) → (P → B) → B → BuildingStage I P T → Type 0
Stands of has b (Planned i) = of i ≡ b
Stands of has b (Opening p ts) = has p ≡ b
Stands of has b Done = ⊤

-- so is a pool that is returned, and an error is one of these
abbrev pub Answered : {B P E : Type 0} → (P → B) → B → (RunError E → Type 0) → Result P (RunError E) → Type 0
Answered has b Error (Ok p) = has p ≡ b
Answered has b Error (Err e) = Error e

abbrev Reports : {B P E : Type 0} → (P → B) → B → (RunError E → Type 0) → Poll (Result P (RunError E)) → Type 0
Reports has b Error (Ready x) = Answered has b Error x
Reports has b Error Pending = ⊤

module _ {B I P T E : Type 0} (makes : I → Result (P × T) Memory → Type 0) (rounds : P → T → Round T E → Type 0) (of : I → B) (has : P → B)
    (is_made : (i : I) (made : P × T) → makes i (Ok made) → has made.0 ≡ of i) (b : B) (Error : RunError E → Type 0) (refused : Error errors.Memory)
    (failed : (p : P) (ts : T) (round : Round T E) → has p ≡ b → rounds p ts round → Ended (λ e. Error (errors.User e)) round) where
  swept : (p : P) (round : Round T E) (r : Poll (Result P (RunError E))) (s : BuildingStage I P T) → AfterFirstRound rounds round p r s → Ended (λ e. Error (errors.User e)) round → has p ≡ b
      → Reports has b Error r × Stands of has b s
  swept p (Failed e) r s (results, at) ended is = rw (results, at) (ended, tt)
  swept p Complete r s (results, at) ended is = rw (results, at) (is, tt)
  swept p (Going ts) r s (results, at) ended is = rw (results, at) (tt, is)

  polled : (s s' : BuildingStage I P T) (r : Poll (Result P (RunError E))) → BuildingPolls makes rounds s r s' → Stands of has b s → Reports has b Error r × Stands of has b s'
  polled (Planned i) s' r (Ok made, of_plan, (round, at, after)) is =
      let of_b = is_made i made of_plan ∙ is in swept made.0 round r s' after (failed made.0 made.1 round of_b at) of_b
  polled (Planned i) s' r (Err none, of_plan, (results, at)) is = rw (results, at) (refused, tt)
  polled (Opening p ts) s' r (round, at, after) is = swept p round r s' after (failed p ts round is at) is
  polled Done s' r (results, at) is = rw (results, at) (tt, tt)

  pub built : (s : BuildingStage I P T) (x : Result P (RunError E)) → Answers (BuildingPolls makes rounds) s x → Stands of has b s → Answered has b Error x
  built _ _ (Answers.now s t x polls) is = (polled s t (Ready x) polls is).0
  built _ _ (Answers.later s t x polls more) is = built t x more (polled s t Pending polls is).1

-- what may end a building of this basis
abbrev pub ErrorAt : {M S Z K C E N V A : Type 0} → ManagerOf M C E N V → CustomizerOf Z C E A → Basis M S Z K → RunError E → Type 0
ErrorAt m z of = IsBuildError (m.connect_answers of.manager) (z.acquire_answers of.customizer)

module _ {G L M S Z K R C E N V A : Type 0} {m : ManagerOf M C E N V} {d : DebugOf E} {s : SinkOf S E} {z : CustomizerOf Z C E A} {k : ClockOf K} {l : PermitsOf L} where
  failed : (of : Basis M S Z K) (pool : Pool G L M S Z K R C E N V A m d s z k l) (tasks : List (Replenish C N A)) (round : Round (List (Replenish C N A)) E) → basis_of pool ≡ of
      → PoolRounds pool tasks round → Ended (λ e. ErrorAt m z of (errors.User e)) round
  failed of pool tasks round is rounds = rw (sym is) (round_failed (arc_value pool.shared) tasks round rounds.0)

  results : (of : Basis M S Z K) (x : Result (Pool G L M S Z K R C E N V A m d s z k l) (RunError E)) → Answered basis_of of (ErrorAt m z of) x
      → IfOk x (λ pool. basis_of pool ≡ of) × IfErr x (ErrorAt m z of)
  results of (Ok pool) is = (is, tt)
  results of (Err e) is = (tt, is)

module _ {G L M S Z K R C E N V A : Type 0} {m : ManagerOf M C E N V} {d : DebugOf E} {s : SinkOf S E} {z : CustomizerOf Z C E A} {k : ClockOf K} {l : PermitsOf L} {p : LedgerOf L} where
  -- what is planned of it
  abbrev basis_in : Plan G L M S Z K R C E N V A m d s z k l p → Basis M S Z K
  basis_in plan = basis plan.builder plan.manager plan.clock

  -- a pool is made of what its plan has
  is_made : (plan : Plan G L M S Z K R C E N V A m d s z k l p) (made : Pool G L M S Z K R C E N V A m d s z k l × List (Replenish C N A)) → PoolIsMade plan made.0 made.1
      → basis_of made.0 ≡ basis_in plan
  is_made plan made (grant, opened, tasks) = rw (opened.settings, opened.manager, opened.clock, opened.sink, opened.customizer) refl

  -- a building that was not polled yet is at its plan
  planned : (builder : Choices S Z) (manager : M) (clock : K) (stage : BuildingStage (Plan G L M S Z K R C E N V A m d s z k l p) (Pool G L M S Z K R C E N V A m d s z k l) (List (Replenish C N A)))
      → PlansStage builder manager clock stage → Stands basis_in basis_of (basis builder manager clock) stage
  planned builder manager clock (Planned plan) (is, by, at) = rw (is, by, at) refl
  planned builder manager clock (Opening pool tasks) never = absurd never
  planned builder manager clock Done never = tt

  -- the answer of a building that was planned: a pool of its basis, or an error that may end it
  pub answered : (builder : Choices S Z) (manager : M) (clock : K)
      (stage : BuildingStage (Plan G L M S Z K R C E N V A m d s z k l p) (Pool G L M S Z K R C E N V A m d s z k l) (List (Replenish C N A)))
      → (x : Result (Pool G L M S Z K R C E N V A m d s z k l) (RunError E)) → PlansStage builder manager clock stage → Answers PollsStage stage x
      → IfOk x (λ pool. basis_of pool ≡ basis builder manager clock) × IfErr x (IsBuildError (m.connect_answers manager) (z.acquire_answers builder.connection_customizer))
  answered builder manager clock stage x is answers =
      let of = basis builder manager clock in
      results of x (built _ _ basis_in basis_of is_made of (ErrorAt m z of) tt (failed of) stage x answers (planned builder manager clock stage is))
