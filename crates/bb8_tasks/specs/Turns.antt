-- A driver's turn, over the relations of any value that is a home and an opener: one trace of steps
-- and callbacks.
use Rattle.std.specs.Prelude.{◌≡◌, ℕ, Bool, true, false, Some, None, List, [], ◌∷◌, ◌++◌, map, length, ◌⊎◌}
use Rattle.bb8_tasks.specs.Words.{Moment, Key, HomeOf, OpenerOf, Replenish}
use Rattle.bb8_types.specs.Settings.{Settings}
use Rattle.bb8_core.specs.declared.answers.ClaimAnswer.TheVariants as claim
use Rattle.bb8_tasks.specs.Replenishing.{fresh, TaskPolls, LetsGo}
use Rattle.bb8_tasks.specs.Sweeping.{LetsGoEach}
use Rattle.bb8_tasks.specs.TaskSteps as task
use Rattle.bb8_tasks.specs.Rounds.{PollsEach}
use Rattle.bb8_tasks.specs.declared.turning.Turn.{Turn}
use Rattle.bb8_tasks.specs.declared.turning.Turning.{Turning}
use Rattle.bb8_tasks.specs.declared.turning.Turning.TheVariants.{Going, Ended}
use Rattle.bb8_tasks.specs.declared.upkeep.Upkeep.{Upkeep}
use Rattle.bb8_tasks.specs.Upkeep.{IsFresh, KeepsUp}

module _ {C V A : Type 0} where
  -- a driver's first state: no task, and ticks that count from this moment
  abbrev pub DriverBegins : Settings → Moment → Turning C V A → Type 0
  DriverBegins s start (Going upkeep ts) = IsFresh s start upkeep × (ts ≡ [])
  DriverBegins s start Ended = ⊥

  -- whether a driver has ended
  abbrev pub is_ended : Turning C V A → Bool
  is_ended (Going upkeep ts) = false
  is_ended Ended = true

module _ {C H : Type 0} (home : HomeOf H C) (at : Moment) where
  -- these approvals are claimed, in order
  abbrev pub ClaimsEach : List Key → H → H → Type 0
  ClaimsEach [] h h' = h' ≡ h
  ClaimsEach (key ∷ keys) h h' = (h1 : H) × home.steps h at (task.Claims (claim.Claimed (Some key))) h1 × ClaimsEach keys h1 h'

  -- why the claims stop: no handle is alive; or no approval is unclaimed; or memory for a task is
  -- refused, and no claim is made
  abbrev pub Stops : Bool → H → H → Type 0
  Stops true h h' = home.steps h at (task.Claims claim.Ended) h'
  Stops false h h' = home.steps h at (task.Claims (claim.Claimed None)) h' ⊎ (h' ≡ h)

  module _ {V A : Type 0} where
    -- approvals are claimed in order; their tasks are appended in the order of the claims
    abbrev pub TakesOnEach : List (Replenish C V A) → H → List (Replenish C V A) → H → Type 0
    TakesOnEach ts h ts' h' = (keys : List Key) × ClaimsEach keys h h' × (ts' ≡ ts ++ map fresh keys)

    -- the claims of a turn, and whether the last one found no handle alive
    abbrev pub Claims : List (Replenish C V A) → H → Bool → List (Replenish C V A) → H → Type 0
    Claims ts h ended ts' h' = (h1 : H) × TakesOnEach ts h ts' h1 × Stops ended h1 h'

module _ {C E V A X : Type 0} (home : HomeOf X C) (opener : OpenerOf X C E V A) (at : Moment) where
  -- a cancelled driver: its tasks are cancelled in order
  abbrev pub DriverLetsGo : Turning C V A → X → X → Type 0
  DriverLetsGo (Going upkeep ts) x x' = LetsGoEach (LetsGo home opener at) ts x x'
  DriverLetsGo Ended x x' = x' ≡ x

module _ {C E V A X : Type 0} (home : HomeOf X C) (opener : OpenerOf X C E V A) (timeout : ℕ) (retry : Bool) (at : Moment) where
  -- after the claims: each task is polled; or, if no handle is alive, each is cancelled, and the
  -- driver has ended
  abbrev pub DriverProceeds : Bool → Upkeep → List (Replenish C V A) → X → Turn → Turning C V A → X → Type 0
  DriverProceeds false upkeep ts x turn t' x' =
      (left : List (Replenish C V A)) × PollsEach (TaskPolls home opener timeout retry at) opener.sinks ts x left x'
      × (turn ≡ record { polled = length ts; ended = false }) × (t' ≡ Going upkeep left)
  DriverProceeds true upkeep ts x turn t' x' =
      LetsGoEach (LetsGo home opener at) ts x x' × (turn ≡ record { polled = 0; ended = true }) × (t' ≡ Ended)

  -- A turn: the work of a due tick is done, approvals are claimed, and then all tasks are polled. A
  -- driver that has ended makes no call.
  abbrev pub DriverTurns : Turning C V A → X → Turn → Turning C V A → X → Type 0
  DriverTurns (Going upkeep ts) x turn t' x' =
      (upkeep1 : Upkeep) × (x1 : X) × KeepsUp home at upkeep x upkeep1 x1
      × ((ended : Bool) × (ts1 : List (Replenish C V A)) × (x2 : X) × Claims home at ts x1 ended ts1 x2
      × DriverProceeds ended upkeep1 ts1 x2 turn t' x')
  DriverTurns Ended x turn t' x' = (turn ≡ record { polled = 0; ended = true }) × (t' ≡ Ended) × (x' ≡ x)
