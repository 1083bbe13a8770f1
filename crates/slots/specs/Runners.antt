-- The contract's view of a runner (its jobs, its next id, its pool and its driver), and the effect
-- of its calls on them.
use Rattle.std.specs.Prelude.{◌≡◌, ℕ, List}
use Rattle.std.specs.Arc.{arc_value}
use Rattle.bb8_types.specs.declared.api.moments.Moment.{Moment}
use Rattle.bb8_lock.specs.declared.gets.state.Stage.TheVariants.{Fresh}
use Rattle.bb8_lock.specs.declared.locked.Permits.{Ghosts as PermitsOf}
use Rattle.bb8_lock.specs.Words.{ManagerOf, DebugOf, SinkOf, CustomizerOf, ClockOf}
use Rattle.bb8_tasks.specs.declared.turning.Turn.{Turn}
use Rattle.bb8.specs.declared.driver.Driver.{Driver}
use Rattle.bb8.specs.declared.get.future.GetFuture.{GetFuture}
use Rattle.bb8.specs.declared.pool.Pool.{Pool}
use Rattle.bb8.specs.Drivers.{TurnsDriver}
use Rattle.bb8.specs.Gets.{CancelsGet, PollsGet}
use Rattle.bb8.specs.GuardLists.{ReturnsEach}
use Rattle.bb8.specs.Pools.{settings_in, stage_of, IsOf}
use Rattle.bb8.specs.Turning.{OwnDropsTurning}
use Rattle.slots.specs.declared.entries.JobEntry.{JobEntry}
use Rattle.slots.specs.declared.job.Job.{Ghosts as JobOf}
use Rattle.slots.specs.declared.job.Outcome.{Outcome}
use Rattle.slots.specs.declared.runner.Runner.{Runner}
use Rattle.slots.specs.Entries.{running, AddsJob, EachGet}
use Rattle.slots.specs.Guards.{GivesBack}
use Rattle.slots.specs.Turns.{StepsEach}

module _ {J G L O M S Z K R C E N V A : Type 0} {j : JobOf J O} {m : ManagerOf M C E N V} {d : DebugOf E} {s : SinkOf S E} {z : CustomizerOf Z C E A} {k : ClockOf K} {l : PermitsOf L} where
  -- the jobs of a runner whose outcomes were not taken, in the order of ids
  abbrev pub jobs_in : Runner J G L O M S Z K R C E N V A j m d s z k l → List (JobEntry J (Outcome O E) (GetFuture G L M S Z K R C E N V A m d s z k l))
  jobs_in runner = runner.entries.items

  -- how many of them run
  abbrev pub running_in : Runner J G L O M S Z K R C E N V A j m d s z k l → ℕ
  running_in runner = running (jobs_in runner)

  -- the id of the next job
  abbrev pub next_id : Runner J G L O M S Z K R C E N V A j m d s z k l → ℕ
  next_id runner = runner.next

  -- the pool of a runner
  abbrev pub pool_of : Runner J G L O M S Z K R C E N V A j m d s z k l → Pool G L M S Z K R C E N V A m d s z k l
  pool_of runner = runner.pool.now

  -- the driver of a runner
  abbrev pub driver_of : Runner J G L O M S Z K R C E N V A j m d s z k l → Driver G L M S Z K R C E N V A m d s z k l
  driver_of runner = runner.driver

  -- a runner is dropped: the get of each waiting job is cancelled, each of its guards returns its
  -- connection, and its driver is dropped
  abbrev pub LetsRunnerGo : Runner J G L O M S Z K R C E N V A j m d s z k l → Type 0
  LetsRunnerGo runner =
      EachGet CancelsGet (jobs_in runner) × ReturnsEach runner.guards × OwnDropsTurning (arc_value runner.driver.shared) runner.driver.turning

  -- how many jobs may run: the pool's maximum of connections
  abbrev pub most_running : Runner J G L O M S Z K R C E N V A j m d s z k l → ℕ
  most_running runner = (settings_in (pool_of runner)).max_size

  -- a job is added: it is behind the others, with the next id, and waits, with a get of the pool
  -- that was not polled
  abbrev pub TakesJobOn : Runner J G L O M S Z K R C E N V A j m d s z k l → J → Runner J G L O M S Z K R C E N V A j m d s z k l → Type 0
  TakesJobOn runner job runner' =
      AddsJob (λ get. (stage_of get ≡ Fresh) × IsOf get (pool_of runner)) (next_id runner) job (jobs_in runner) (jobs_in runner')

  -- both runners have the same pool and the same next id
  abbrev pub AreAlike : Runner J G L O M S Z K R C E N V A j m d s z k l → Runner J G L O M S Z K R C E N V A j m d s z k l → Type 0
  AreAlike runner runner' = (pool_of runner' ≡ pool_of runner) × (next_id runner' ≡ next_id runner)

  -- the driver makes a turn at a moment, and the jobs do not change
  abbrev pub TurnsDriverOf : Runner J G L O M S Z K R C E N V A j m d s z k l → Moment → Runner J G L O M S Z K R C E N V A j m d s z k l → Type 0
  TurnsDriverOf runner moment runner' =
      ((turn : Turn) × TurnsDriver moment (driver_of runner) turn (driver_of runner')) × (jobs_in runner' ≡ jobs_in runner) × AreAlike runner runner'

  -- each job makes a step at a moment, this many end, and the driver does not change
  abbrev pub StepsJobsOf : Runner J G L O M S Z K R C E N V A j m d s z k l → Moment → ℕ → Runner J G L O M S Z K R C E N V A j m d s z k l → Type 0
  StepsJobsOf runner moment ended runner' =
      StepsEach j.polls PollsGet GivesBack moment (jobs_in runner) (jobs_in runner') ended × (driver_of runner' ≡ driver_of runner)
      × AreAlike runner runner'
