-- The jobs of a runner, in the order of their ids.
use Rattle.std.specs.Prelude.{◌≡◌, ℕ, ◌+◌, ◌≤◌, ◌==◌, cond, Bool, true, false, Option, Some, None, List, [], ◌∷◌, ◌++◌, ⊤}
use Rattle.std.specs.Coded.{×_prop, le_prop}
use Rattle.slots.specs.declared.entries.JobEntry.{JobEntry}
use Rattle.slots.specs.declared.entries.JobPlace.{JobPlace}
use Rattle.slots.specs.declared.entries.JobPlace.TheVariants.{Waiting, Running, Ended}
use Rattle.slots.specs.declared.job.Phase.{Phase}
use Rattle.slots.specs.declared.job.Phase.TheVariants as phase

-- whether the ids rise, from `low` on, and all are below `high`
abbrev pub AreIds : ℕ → ℕ → List ℕ → Type 0
AreIds low high [] = low ≤ high
AreIds low high (id ∷ more) = (low ≤ id) × AreIds (id + 1) high more

pub AreIds-prop : (low high : ℕ) (all : List ℕ) → IsProp (AreIds low high all)
AreIds-prop low high [] = le_prop
AreIds-prop low high (id ∷ more) = ×_prop le_prop (AreIds-prop (id + 1) high more)

module _ {J O G : Type 0} where
  -- the ids of jobs
  abbrev pub ids : List (JobEntry J O G) → List ℕ
  ids [] = []
  ids (e ∷ es) = e.id ∷ ids es

  -- how many guards are held for a job in this state: one while it runs
  abbrev pub guards_for : JobPlace J O G → ℕ
  guards_for (Running job) = 1
  guards_for _ = 0

  -- how many jobs run
  abbrev pub running : List (JobEntry J O G) → ℕ
  running [] = 0
  running (e ∷ es) = guards_for e.place + running es

  -- the state of the job with an id, None if there is none
  abbrev pub place_of : ℕ → List (JobEntry J O G) → Option (JobPlace J O G)
  place_of id [] = None
  place_of id (e ∷ es) = cond (e.id == id) (Some e.place) (place_of id es)

  -- P holds of the get of a job in this state, if it waits
  abbrev pub OfGet : (G → Type 0) → JobPlace J O G → Type 0
  OfGet P (Waiting job get) = P get
  OfGet P _ = ⊤

  -- P holds of the get of each waiting job
  abbrev pub EachGet : (G → Type 0) → List (JobEntry J O G) → Type 0
  EachGet P [] = ⊤
  EachGet P (e ∷ es) = OfGet P e.place × EachGet P es

  -- the phase of a job in this state
  abbrev pub phase_in : JobPlace J O G → Phase
  phase_in (Waiting job get) = phase.Waiting
  phase_in (Running job) = phase.Running
  phase_in (Ended outcome) = phase.Ended

  -- the phase of a job, None if there is none
  abbrev pub phase_of : Option (JobPlace J O G) → Option Phase
  phase_of None = None
  phase_of (Some place) = Some (phase_in place)

  -- whether a job in this state has ended
  abbrev pub is_ended : JobPlace J O G → Bool
  is_ended (Ended outcome) = true
  is_ended _ = false

  -- the outcome of a job, None if there is none or it has not ended
  abbrev pub outcome_of : Option (JobPlace J O G) → Option O
  outcome_of (Some (Ended outcome)) = Some outcome
  outcome_of _ = None

  -- the jobs without the one with an id
  abbrev pub without : ℕ → List (JobEntry J O G) → List (JobEntry J O G)
  without id [] = []
  without id (e ∷ es) = cond (e.id == id) es (e ∷ without id es)

  -- the jobs left after the outcome of an id was requested: without that one, if it was returned
  abbrev pub left_after : Option O → ℕ → List (JobEntry J O G) → List (JobEntry J O G)
  left_after None id es = es
  left_after (Some outcome) id es = without id es

  -- a job was added behind the others, with this id; it waits, with a get that is `fresh`
  abbrev pub AddsJob : (G → Type 0) → ℕ → J → List (JobEntry J O G) → List (JobEntry J O G) → Type 0
  AddsJob fresh id job es es' = (get : G) × fresh get × (es' ≡ es ++ record { id = id; place = Waiting job get } ∷ [])
