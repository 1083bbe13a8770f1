-- What callers see of the building of a pool: its polls, and its final result.
use Rattle.std.specs.Prelude.{◌≡◌, Bool, true, Option, Some, None, Result, Err, IfOk, List, ⊤, ◌⊎◌}
use Rattle.std.specs.Arc.{arc_value}
use Rattle.std.specs.declared.sync.ledger.Ledger.{Ghosts as LedgerOf}
use Rattle.futures.specs.declared.task.Poll.{Poll}
use Rattle.futures.specs.declared.task.Poll.TheVariants.{Ready}
use Rattle.futures.specs.Poll.{OnPending}
use Rattle.bb8_types.specs.declared.api.errors.Memory.{Memory}
use Rattle.bb8_types.specs.declared.api.errors.RunError.{RunError}
use Rattle.bb8_types.specs.declared.api.errors.RunError.TheVariants as errors
use Rattle.bb8_types.specs.declared.api.moments.Moment.{Moment}
use Rattle.bb8_types.specs.declared.grants.Grant.{Grant}
use Rattle.bb8_tasks.specs.declared.building.BuildingStage.{BuildingStage}
use Rattle.bb8_tasks.specs.declared.building.BuildingStage.TheVariants.{Planned, Opening, Done}
use Rattle.bb8_tasks.specs.declared.replenish.Replenish.{Replenish}
use Rattle.bb8_tasks.specs.declared.rounds.Round.{Round}
use Rattle.bb8_tasks.specs.declared.rounds.Round.TheVariants.{Failed, Complete, Going}
use Rattle.bb8_tasks.specs.Building.{BuildingPolls}
use Rattle.bb8_tasks.specs.Dues.{earliest}
use Rattle.bb8_tasks.specs.Sweeping.{AreFor}
use Rattle.bb8_lock.specs.Permits.{HasBegun}
use Rattle.bb8.specs.declared.building.Building.{Building}
use Rattle.bb8.specs.declared.building.Plan.{Plan}
use Rattle.bb8.specs.declared.pool.Pool.{Pool}
use Rattle.bb8.specs.Choices.{Choices}
use Rattle.bb8.specs.Drivers.{RestsBriefly}
use Rattle.bb8_lock.specs.Traces.{Answers}
use Rattle.bb8_lock.specs.Scope.{Own, OwnLeaves, rests}
use Rattle.bb8_lock.specs.Opening.{opener, OwnRounds, OwnDropsTasks}
use Rattle.bb8_lock.specs.declared.locked.Permits.{Ghosts as PermitsOf}
use Rattle.bb8_lock.specs.Words.{ManagerOf, DebugOf, SinkOf, CustomizerOf, ClockOf}
use Rattle.bb8.specs.Pools.{clock_in, customizer_in, made_in, manager_in, settings_in, sink_in}

module _ {G L M S Z K R C E N V A : Type 0} {m : ManagerOf M C E N V} {d : DebugOf E} {s : SinkOf S E} {z : CustomizerOf Z C E A} {k : ClockOf K} {l : PermitsOf L} {p : LedgerOf L} where
  -- The pool has what was planned, and began at a clock reading with this grant for its first
  -- connections.
  pub record IsOpened (plan : Plan G L M S Z K R C E N V A m d s z k l p) (claimed : Bool) (pool : Pool G L M S Z K R C E N V A m d s z k l) (grant : Grant) : Type 0 where
    pub settings : settings_in pool ≡ plan.builder.settings
    pub first : HasBegun C (λ at. k.reports plan.clock at × (made_in pool ≡ at)) plan.builder.settings claimed grant
    pub manager : manager_in pool ≡ plan.manager
    pub clock : clock_in pool ≡ plan.clock
    pub sink : sink_in pool ≡ plan.builder.error_sink
    pub customizer : customizer_in pool ≡ plan.builder.connection_customizer

  -- as `IsOpened`, with a task for each of the approvals, which are claimed
  abbrev pub PoolIsMade : Plan G L M S Z K R C E N V A m d s z k l p → Pool G L M S Z K R C E N V A m d s z k l → List (Replenish C N A) → Type 0
  PoolIsMade plan pool tasks = (grant : Grant) × IsOpened plan true pool grant × AreFor grant.first grant.count tasks

  -- the build of a pool by this builder, manager and clock; it was not polled yet
  abbrev pub PlansStage : Choices S Z → M → K → BuildingStage (Plan G L M S Z K R C E N V A m d s z k l p) (Pool G L M S Z K R C E N V A m d s z k l) (List (Replenish C N A)) → Type 0
  PlansStage builder manager clock (Planned plan) = (plan.builder ≡ builder) × (plan.manager ≡ manager) × (plan.clock ≡ clock)
  PlansStage builder manager clock _ = ⊥

  abbrev pub IsPlanned : Choices S Z → M → K → Building G L M S Z K R C E N V A m d s z k l p → Type 0
  IsPlanned builder manager clock building = PlansStage builder manager clock building.stage

module _ {G L M S Z K R C E N V A : Type 0} {m : ManagerOf M C E N V} {d : DebugOf E} {s : SinkOf S E} {z : CustomizerOf Z C E A} {k : ClockOf K} {l : PermitsOf L} where
  -- if the first connections of a pool failed, the pool is dropped
  abbrev pub AfterFirst : Pool G L M S Z K R C E N V A m d s z k l → Round (List (Replenish C N A)) E → Type 0
  AfterFirst pool (Failed e) = OwnLeaves (arc_value pool.shared)
  AfterFirst pool Complete = ⊤
  AfterFirst pool (Going tasks) = ⊤

  -- a round of the tasks that open a pool's first connections
  abbrev pub PoolRounds : Pool G L M S Z K R C E N V A m d s z k l → List (Replenish C N A) → Round (List (Replenish C N A)) E → Type 0
  PoolRounds pool tasks round = OwnRounds (arc_value pool.shared) tasks round × AfterFirst pool round

module _ {G L M S Z K R C E N V A : Type 0} {m : ManagerOf M C E N V} {d : DebugOf E} {s : SinkOf S E} {z : CustomizerOf Z C E A} {k : ClockOf K} {l : PermitsOf L} {p : LedgerOf L} where
  -- a poll of a build in this stage: its result, and the stage after it
  abbrev pub PollsStage : BuildingStage (Plan G L M S Z K R C E N V A m d s z k l p) (Pool G L M S Z K R C E N V A m d s z k l) (List (Replenish C N A))
      → Poll (Result (Pool G L M S Z K R C E N V A m d s z k l) (RunError E))
      → BuildingStage (Plan G L M S Z K R C E N V A m d s z k l p) (Pool G L M S Z K R C E N V A m d s z k l) (List (Replenish C N A)) → Type 0
  PollsStage = BuildingPolls (λ plan (made : Result (Pool G L M S Z K R C E N V A m d s z k l × List (Replenish C N A)) Memory). IfOk made (λ x. PoolIsMade plan x.0 x.1)) PoolRounds

  abbrev pub PollsBuilding : Building G L M S Z K R C E N V A m d s z k l p → Poll (Result (Pool G L M S Z K R C E N V A m d s z k l) (RunError E))
      → Building G L M S Z K R C E N V A m d s z k l p → Type 0
  PollsBuilding building answer after = PollsStage building.stage answer after.stage

  -- the final results that the build may have
  abbrev pub GivesBuilding : Building G L M S Z K R C E N V A m d s z k l p → Result (Pool G L M S Z K R C E N V A m d s z k l) (RunError E) → Type 0
  GivesBuilding building out = Answers PollsStage building.stage out

  -- Between two polls of a build in this stage a thread sleeps until something is due. No clause says
  -- that this is a task.
  abbrev pub RestsAt : BuildingStage (Plan G L M S Z K R C E N V A m d s z k l p) (Pool G L M S Z K R C E N V A m d s z k l) (List (Replenish C N A)) → Type 0
  RestsAt (Opening pool tasks) =
      Own (arc_value pool.shared) (RestsBriefly (opener (arc_value pool.shared)) (rests (arc_value pool.shared)))
  RestsAt _ = ⊤

  -- the result for a thread that polls the build until it is ready, and sleeps after each pending
  -- poll
  abbrev pub WaitsBuilding : Building G L M S Z K R C E N V A m d s z k l p → Result (Pool G L M S Z K R C E N V A m d s z k l) (RunError E) → Type 0
  WaitsBuilding building out = Answers (λ stage answer after. PollsStage stage answer after × OnPending answer (RestsAt after)) building.stage out

  -- when a build in this stage is due: at once before its first poll, then as soon as one of its
  -- tasks is
  abbrev pub due_at : BuildingStage (Plan G L M S Z K R C E N V A m d s z k l p) (Pool G L M S Z K R C E N V A m d s z k l) (List (Replenish C N A)) → Option Moment
  due_at (Planned plan) = Some (record { 0 = 0 })
  due_at (Opening pool tasks) = earliest None tasks
  due_at Done = None

  abbrev pub building_due : Building G L M S Z K R C E N V A m d s z k l p → Option Moment
  building_due building = due_at building.stage

  -- a build in this stage is cancelled: its tasks are, and its pool is dropped
  abbrev pub EndsAt : BuildingStage (Plan G L M S Z K R C E N V A m d s z k l p) (Pool G L M S Z K R C E N V A m d s z k l) (List (Replenish C N A)) → Type 0
  EndsAt (Planned plan) = ⊤
  EndsAt (Opening pool tasks) = OwnDropsTasks (arc_value pool.shared) tasks × OwnLeaves (arc_value pool.shared)
  EndsAt Done = ⊤

  abbrev pub CancelsBuilding : Building G L M S Z K R C E N V A m d s z k l p → Type 0
  CancelsBuilding building = EndsAt building.stage

-- The errors of a build, given the possible polls of a connection attempt and of a preparation: an
-- error of an attempt or of a preparation, or a refusal of memory.
abbrev pub IsBuildError : {C E N A : Type 0} → (N → Moment → Poll (Result C E) → N → Type 0) → (C → A → Moment → Poll (Result (Unit {0}) E) → C → A → Type 0) → RunError E → Type 0
IsBuildError {C = C} {N = N} {A = A} Opens Prepares (errors.User e) =
    ((v : N) × (at : Moment) × (v' : N) × Opens v at (Ready (Err e)) v')
    ⊎ ((c : C) × (a : A) × (at : Moment) × (c' : C) × (a' : A) × Prepares c a at (Ready (Err e)) c' a')
IsBuildError Opens Prepares errors.Memory = ⊤
IsBuildError Opens Prepares errors.TimedOut = ⊥
IsBuildError Opens Prepares errors.Exhausted = ⊥
