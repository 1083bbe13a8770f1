-- The table of a task's polls, over the relations of any value that is a home and an opener: one
-- trace of steps and callbacks.
use Rattle.std.specs.Prelude.{◌≡◌, ℕ, ◌+◌, ◌-◌, ◌<◌, ◌≤◌, max, min, Bool, true, false, Option, Some, None, Result, Ok, Err, ◌⊎◌}
use Rattle.bb8_tasks.specs.Words.{MatchBool, Poll, Ready, Pending, Moment, last_moment, Key, wait, Looked, FailedAnswer, HomeOf, OpenedAnswer, OpenerOf, Unfit, Replenish, ReplenishAnswer}
use Rattle.bb8_types.specs.declared.grants.Grant.{Grant}
use Rattle.bb8_core.specs.declared.answers.OpenedAnswer.TheVariants as opened
use Rattle.bb8_tasks.specs.declared.replenish.ReplenishStep.{ReplenishStep}
use Rattle.bb8_tasks.specs.declared.replenish.ReplenishAnswer.TheVariants as answers
use Rattle.bb8_tasks.specs.declared.replenish.ReplenishStage.TheVariants.{Start, Connecting, Acquiring, Sleeping, Done}
use Rattle.bb8_tasks.specs.declared.replenish.ReplenishStage.{ReplenishStage}
use Rattle.bb8_tasks.specs.declared.replenish.Tries.{Tries}
use Rattle.bb8_tasks.specs.TaskSteps as task

-- the moment at which a task wakes that sleeps from m on; None (never) if it exceeds the greatest
-- moment
abbrev pub IsDue : Moment → ℕ → Option Moment → Type 0
IsDue m span (Some due) = due.0 ≡ m.0 + span
IsDue m span None = last_moment < m.0 + span

-- the tries after one more failure; the count saturates
abbrev pub failed_once_more : Tries → Tries
failed_once_more tries = record { start = tries.start; failures = min (tries.failures + 1) 4294967295 }

module _ {C V A : Type 0} where
  -- a task for this approval; it was not polled yet
  abbrev pub fresh : Key → Replenish C V A
  fresh approval = record { approval = approval; latest = record { 0 = 0 }; stage = Start }

  -- whether a task in this stage has ended
  abbrev pub is_done : ReplenishStage C V A → Bool
  is_done Done = true
  is_done _ = false

-- a task in this stage drops what it holds: its attempt or preparation ends, then the connection is
-- dropped
abbrev pub DropsTask : {C E V A X : Type 0} → OpenerOf X C E V A → ReplenishStage C V A → X → X → Type 0
DropsTask opener (Connecting tries connecting) x x' = opener.ends_connect x connecting x'
DropsTask {X = X} opener (Acquiring tries c acquiring) x x' = (x1 : X) × opener.ends_acquire x acquiring x1 × opener.lets_go x1 c x'
DropsTask opener stage x x' = x' ≡ x

module _ {C E V A X : Type 0} (home : HomeOf X C) (timeout : ℕ) (retry : Bool) (approval : Key) (m : Moment) where
  -- this result and stage, without a step or callback
  abbrev pub TaskIsAt : ReplenishAnswer E → ReplenishStage C V A → X → ReplenishStep C V A E → X → Type 0
  TaskIsAt answer stage x next x' = (next.answer ≡ answer) × (next.stage ≡ stage) × (x' ≡ x)

  -- the approval is returned and the task ends with this result, whatever the step's result is
  abbrev pub GivesApprovalBack : ReplenishAnswer E → X → ReplenishStep C V A E → X → Type 0
  GivesApprovalBack answer x next x' = (step : Result FailedAnswer Unfit) × home.steps x m (task.Fails approval step) x' × (next.answer ≡ answer) × (next.stage ≡ Done)

  -- the task sleeps until its wait is over, and tries again then
  abbrev pub Sleeps : Tries → E → X → ReplenishStep C V A E → X → Type 0
  Sleeps tries e x next x' =
      (due : Option Moment) × IsDue m (wait timeout tries.failures) due × TaskIsAt (answers.Retrying e) (Sleeping tries due) x next x'

  -- a failed try, after these tries
  abbrev pub TaskFails : Tries → E → X → ReplenishStep C V A E → X → Type 0
  TaskFails tries e x next x' =
      ((retry ≡ false) ⊎ (timeout < m.0 - tries.start.0) → GivesApprovalBack (answers.Failed e) x next x')
      × (retry ≡ true → m.0 - tries.start.0 ≤ timeout → Sleeps (failed_once_more tries) e x next x')

  module _ (opener : OpenerOf X C E V A) where
    -- after the step `opened`: a connection that it returns is dropped; if it came too late, the
    -- home is then asked to grant approvals for waiters
    abbrev pub AfterOpened : Result (OpenedAnswer C) C → X → ReplenishStep C V A E → X → Type 0
    AfterOpened (Ok (opened.Entered notified)) x next x' = TaskIsAt answers.Entered Done x next x'
    AfterOpened (Ok (opened.Late c)) x next x' =
        (x1 : X) × opener.lets_go x c x1 × ((grant : Grant) × (x2 : X) × home.steps x1 m (task.Asks grant) x2 × TaskIsAt answers.Late Done x2 next x')
    AfterOpened (Err c) x next x' = (x1 : X) × opener.lets_go x c x1 × TaskIsAt answers.GivenBack Done x1 next x'

    -- the connection is added to the pool
    abbrev pub Enters : C → X → ReplenishStep C V A E → X → Type 0
    Enters c x next x' = (step : Result (OpenedAnswer C) C) × (x1 : X) × home.steps x m (task.Opens approval c step) x1 × AfterOpened step x1 next x'

    -- after a poll of the preparation, which left the connection and the preparation in these
    -- states: a finished preparation is ended first; if it failed, the connection is dropped before
    -- the home's step
    abbrev pub AfterTaskAcquire : Poll (Result (Unit {0}) E) → Tries → C → A → X → ReplenishStep C V A E → X → Type 0
    AfterTaskAcquire Pending tries c acquiring x next x' = TaskIsAt answers.Pending (Acquiring tries c acquiring) x next x'
    AfterTaskAcquire (Ready (Ok u)) tries c acquiring x next x' = (x1 : X) × opener.ends_acquire x acquiring x1 × Enters c x1 next x'
    AfterTaskAcquire (Ready (Err e)) tries c acquiring x next x' =
        (x1 : X) × opener.ends_acquire x acquiring x1 × ((x2 : X) × opener.lets_go x1 c x2 × TaskFails tries e x2 next x')

    -- the preparation is polled
    abbrev pub TaskAcquires : Tries → C → A → X → ReplenishStep C V A E → X → Type 0
    TaskAcquires tries c acquiring x next x' =
        (answer : Poll (Result (Unit {0}) E)) × (c1 : C) × (acquiring1 : A) × (x1 : X)
        × opener.acquire_answers x c acquiring m answer c1 acquiring1 x1 × AfterTaskAcquire answer tries c1 acquiring1 x1 next x'

    -- after a poll of the attempt, which left it in this state: a finished attempt is ended first
    abbrev pub AfterTaskConnect : Poll (Result C E) → Tries → V → X → ReplenishStep C V A E → X → Type 0
    AfterTaskConnect Pending tries connecting x next x' = TaskIsAt answers.Pending (Connecting tries connecting) x next x'
    AfterTaskConnect (Ready (Ok c)) tries connecting x next x' =
        (x1 : X) × opener.ends_connect x connecting x1
        × ((acquiring : A) × (c1 : C) × (x2 : X) × opener.acquires x1 c acquiring c1 x2 × TaskAcquires tries c1 acquiring x2 next x')
    AfterTaskConnect (Ready (Err e)) tries connecting x next x' = (x1 : X) × opener.ends_connect x connecting x1 × TaskFails tries e x1 next x'

    -- the attempt is polled
    abbrev pub TaskConnects : Tries → V → X → ReplenishStep C V A E → X → Type 0
    TaskConnects tries connecting x next x' =
        (answer : Poll (Result C E)) × (connecting1 : V) × (x1 : X)
        × opener.connect_answers x connecting m answer connecting1 x1 × AfterTaskConnect answer tries connecting1 x1 next x'

    -- the one attempt of this poll is begun
    abbrev pub TaskBegins : Tries → X → ReplenishStep C V A E → X → Type 0
    TaskBegins tries x next x' = (connecting : V) × (x1 : X) × opener.connects x connecting x1 × TaskConnects tries connecting x1 next x'

    -- a sleeping task
    abbrev pub Wakes : Tries → Option Moment → X → ReplenishStep C V A E → X → Type 0
    Wakes tries None x next x' = TaskIsAt answers.Pending (Sleeping tries None) x next x'
    Wakes tries (Some due) x next x' =
        (due.0 ≤ m.0 → TaskBegins tries x next x')
        × (m.0 < due.0 → TaskIsAt answers.Pending (Sleeping tries (Some due)) x next x')

    -- the rows of each stage, if a handle is alive
    abbrev pub TaskAdvances : ReplenishStage C V A → X → ReplenishStep C V A E → X → Type 0
    TaskAdvances Start x next x' = TaskBegins (record { start = m; failures = 0 }) x next x'
    TaskAdvances (Connecting tries connecting) x next x' = TaskConnects tries connecting x next x'
    TaskAdvances (Acquiring tries c acquiring) x next x' = TaskAcquires tries c acquiring x next x'
    TaskAdvances (Sleeping tries due) x next x' = Wakes tries due x next x'
    TaskAdvances Done x next x' = TaskIsAt answers.GivenBack Done x next x'

    -- after the look at the home: if no handle is alive, the task drops what it holds, and then its
    -- approval is returned
    abbrev pub TaskProceeds : Bool → ReplenishStage C V A → X → ReplenishStep C V A E → X → Type 0
    TaskProceeds true stage x next x' = TaskAdvances stage x next x'
    TaskProceeds false stage x next x' = (x1 : X) × DropsTask opener stage x x1 × GivesApprovalBack answers.GivenBack x1 next x'

module _ {C E V A X : Type 0} (home : HomeOf X C) (opener : OpenerOf X C E V A) where
  -- a poll of a task that has not ended: its moment is the later of the look's and the previous
  -- poll's
  abbrev pub TaskTurns : ℕ → Bool → Moment → Replenish C V A → X → ReplenishAnswer E → Replenish C V A → X → Type 0
  TaskTurns timeout retry at t x answer t' x' =
      (seen : Looked) × (x1 : X) × home.steps x at (task.Looks seen) x1
      × (t'.latest.0 ≡ max seen.moment.0 t.latest.0) × (t'.approval ≡ t.approval)
      × TaskProceeds home timeout retry t.approval t'.latest opener seen.alive t.stage x1 (record { answer = answer; stage = t'.stage }) x'

  -- The whole poll at a clock reading: its result, and the task, the home and the opener after it.
  -- A task that has ended makes no call.
  abbrev pub TaskPolls : ℕ → Bool → Moment → Replenish C V A → X → ReplenishAnswer E → Replenish C V A → X → Type 0
  TaskPolls timeout retry at t x answer t' x' =
      MatchBool (is_done t.stage) ((answer ≡ answers.GivenBack) × (t' ≡ t) × (x' ≡ x)) (TaskTurns timeout retry at t x answer t' x')

  -- a cancelled task: if it has not ended, it drops what it holds, and then its approval is given
  -- back
  abbrev pub LetsGo : Moment → Replenish C V A → X → X → Type 0
  LetsGo at t x x' =
      MatchBool (is_done t.stage) (x' ≡ x)
      ((x1 : X) × DropsTask opener t.stage x x1 × ((step : Result FailedAnswer Unfit) × home.steps x1 at (task.Fails t.approval step) x'))
