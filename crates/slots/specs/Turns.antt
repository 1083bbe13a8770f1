-- The effect of a turn on a runner's jobs, for any poll of a job and of a get.
use Rattle.std.specs.Prelude.{◌≡◌, ℕ, ◌+◌, List, [], ◌∷◌, ◌++◌, Result, Ok, Err, ◌⊎◌}
use Rattle.futures.specs.declared.task.Poll.{Poll}
use Rattle.futures.specs.declared.task.Poll.TheVariants.{Ready, Pending}
use Rattle.bb8_types.specs.declared.api.errors.RunError.{RunError}
use Rattle.bb8_types.specs.declared.api.errors.RunError.TheVariants.{Memory}
use Rattle.bb8_types.specs.declared.api.moments.Moment.{Moment}
use Rattle.slots.specs.declared.entries.JobEntry.{JobEntry}
use Rattle.slots.specs.declared.entries.JobPlace.{JobPlace}
use Rattle.slots.specs.declared.entries.JobPlace.TheVariants.{Waiting, Running, Ended}
use Rattle.slots.specs.declared.job.Outcome.{Outcome}
use Rattle.slots.specs.declared.job.Outcome.TheVariants.{Done, Refused}

module _ {J O E G : Type 0} (returned : Type 0) where
  -- after a poll of a job: it continues; or it has ended with its output, and a guard was returned
  abbrev pub AfterJob : Poll O → J → JobPlace J (Outcome O E) G → ℕ → Type 0
  AfterJob Pending job place ended = (place ≡ Running job) × (ended ≡ 0)
  AfterJob (Ready out) job place ended = (place ≡ Ended (Done out)) × (ended ≡ 1) × returned

module _ {J O E G D : Type 0} (back : D → Type 0) where
  -- After a poll of a job's get: it continues to wait; or it runs from now on, or has ended because
  -- there was no memory to keep its guard, which was returned; or it has ended with the get's
  -- error.
  abbrev pub AfterGet : Poll (Result D (RunError E)) → J → G → JobPlace J (Outcome O E) G → ℕ → Type 0
  AfterGet Pending job get place ended = (place ≡ Waiting job get) × (ended ≡ 0)
  AfterGet (Ready (Ok guard)) job get place ended =
      ((place ≡ Running job) × (ended ≡ 0)) ⊎ ((place ≡ Ended (Refused Memory)) × (ended ≡ 1) × back guard)
  AfterGet (Ready (Err error)) job get place ended = (place ≡ Ended (Refused error)) × (ended ≡ 1)

module _ {J O E G : Type 0} (polls : J → Moment → Poll O → J → Type 0) (returned : Type 0) (now : Moment) where
  -- a running job is polled once
  abbrev pub StepsJob : J → JobPlace J (Outcome O E) G → ℕ → Type 0
  StepsJob job place ended = (answer : Poll O) × (job' : J) × polls job now answer job' × AfterJob returned answer job' place ended

module _ {J O E G D : Type 0} (polls_get : G → Poll (Result D (RunError E)) → G → Type 0) (back : D → Type 0) where
  -- the get of a waiting job is polled once, and the job is not
  abbrev pub StepsGet : J → G → JobPlace J (Outcome O E) G → ℕ → Type 0
  StepsGet job get place ended = (answer : Poll (Result D (RunError E))) × (get' : G) × polls_get get answer get' × AfterGet back answer job get' place ended

module _ {J O E G D : Type 0} (polls : J → Moment → Poll O → J → Type 0) (polls_get : G → Poll (Result D (RunError E)) → G → Type 0)
    (back : D → Type 0) (now : Moment) where
  -- the effect of a turn on a job in this state, and how many jobs end in it; an ended job does not
  -- change
  abbrev pub JobSteps : JobPlace J (Outcome O E) G → JobPlace J (Outcome O E) G → ℕ → Type 0
  JobSteps (Waiting job get) place ended = StepsGet polls_get back job get place ended
  JobSteps (Running job) place ended = StepsJob polls ((guard : D) × back guard) now job place ended
  JobSteps (Ended outcome) place ended = (place ≡ Ended outcome) × (ended ≡ 0)

  -- the effect of a turn on all jobs: one step of each, with its id and in their order, and how
  -- many end
  abbrev pub StepsEach : List (JobEntry J (Outcome O E) G) → List (JobEntry J (Outcome O E) G) → ℕ → Type 0
  StepsEach [] es' ended = (es' ≡ []) × (ended ≡ 0)
  StepsEach (e ∷ es) es' ended =
      (place : JobPlace J (Outcome O E) G) × (one : ℕ) × JobSteps e.place place one
      × ((rest : List (JobEntry J (Outcome O E) G)) × (more : ℕ) × StepsEach es rest more × (es' ≡ record { id = e.id; place = place } ∷ rest) × (ended ≡ one + more))

  -- one step of the first job of a queue, which moves to the back
  abbrev pub StepsFirst : List (JobEntry J (Outcome O E) G) → List (JobEntry J (Outcome O E) G) → ℕ → Type 0
  StepsFirst queue queue' ended =
      (e : JobEntry J (Outcome O E) G) × (rest : List (JobEntry J (Outcome O E) G)) × (place : JobPlace J (Outcome O E) G) × (queue ≡ e ∷ rest) × JobSteps e.place place ended
      × (queue' ≡ rest ++ record { id = e.id; place = place } ∷ [])
