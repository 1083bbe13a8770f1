-- What guards and handles do with a pool, over the relations of any home and any user callbacks. As
-- these relations are arbitrary, each definition fixes which callbacks and steps are made, how
-- many, and in which order.
use Rattle.std.specs.Prelude.{◌≡◌, ℕ, ◌<◌, Bool, Option, Some, None, Result, Ok, Err, List, [], ◌∷◌, ◌⊎◌, not}
use Rattle.circular_buffer.specs.Buffer.{Buffer, buffer}
use Rattle.bb8_lock.specs.Words.{Poll, Ready, Pending, AddError, RunError, State, Moment, AddAnswer, HomeOf, Taken, OutsideOf, Settled, Stage, Asks, Cancels, Starts, GetPolls, Joining}
use Rattle.bb8_lock.specs.declared.gets.state.Stage.TheVariants.{Fresh}
use Rattle.bb8_types.specs.declared.api.errors.AddError.TheVariants.{Broken, NoCapacity, Withheld}
use Rattle.bb8_core.specs.declared.answers.AddAnswer.TheVariants as adding
use Rattle.bb8_core.specs.declared.answers.DetachAnswer.{DetachAnswer}
use Rattle.bb8_core.specs.declared.answers.LeaveAnswer.{LeaveAnswer}
use Rattle.bb8_core.specs.declared.answers.Looked.{Looked}
use Rattle.bb8_core.specs.declared.answers.PutBackAnswer.{PutBackAnswer}
use Rattle.bb8_core.specs.declared.answers.PutBackAnswer.TheVariants as put_back
use Rattle.bb8_core.specs.declared.answers.ReapAnswer.{ReapAnswer}
use Rattle.bb8_tables.specs.declared.closed.Closed.{Closed}
use Rattle.bb8_lock.specs.declared.gets.home.Returned.{Returned}
use Rattle.bb8_core.specs.declared.answers.Unfit.{Unfit}
use Rattle.bb8_lock.specs.Polls.{rest_of}
use Rattle.bb8_lock.specs.declared.signal.Rests.{Ghosts as RestsOf}
use Rattle.bb8_lock.specs.declared.signal.Sleeper.TheVariants.{Get}
use Rattle.bb8_lock.specs.Steps as step

-- The caller's result of an add: if no handle is alive, there is no capacity.
abbrev pub IsAddResult : {C : Type 0} → Result (AddAnswer C) C → Result (Unit {0}) (AddError C) → Type 0
IsAddResult (Ok (adding.Added k n)) outcome = outcome ≡ Ok tt
IsAddResult (Ok (adding.Broken c)) outcome = outcome ≡ Err (Broken c)
IsAddResult (Ok (adding.NoCapacity c)) outcome = outcome ≡ Err (NoCapacity c)
IsAddResult (Ok (adding.Withheld c)) outcome = outcome ≡ Err (Withheld c)
IsAddResult (Err c) outcome = outcome ≡ Err (NoCapacity c)

-- an empty list for `size` closed connections; it has no capacity if memory for it was refused
abbrev pub IsListFor : {C : Type 0} → ℕ → Buffer (Closed C) → Type 0
IsListFor size list = (list ≡ buffer [] size) ⊎ (list ≡ buffer [] 0)

-- the result of a poll; None if it is pending
abbrev pub served_in : {A E : Type 0} → Poll (Result A E) → Result (Option A) E
served_in (Ready (Ok a)) = Ok (Some a)
served_in (Ready (Err e)) = Err e
served_in Pending = Ok None

-- x is the result of this poll or of a later one, where each poll is a step
pub data Answers {S A : Type 0} (step : S → Poll A → S → Type 0) : S → A → Type 0 where
  now : (s t : S) (x : A) → step s (Ready x) t → Answers step s x
  later : (s t : S) (x : A) → step s Pending t → Answers step t x → Answers step s x

-- as `Answers`, with the state after the last poll
pub data EndsAt {S A : Type 0} (step : S → Poll A → S → Type 0) : S → A → S → Type 0 where
  now : (s t : S) (x : A) → step s (Ready x) t → EndsAt step s x t
  later : (s t u : S) (x : A) → step s Pending t → EndsAt step t x u → EndsAt step s x u

module _ {C E V X : Type 0} (outside : OutsideOf X C E V) where
  -- a connection that the pool did not keep is dropped
  abbrev pub AfterReturn : Result (PutBackAnswer C) C → X → X → Type 0
  AfterReturn (Ok (put_back.Kept n)) x x' = x' ≡ x
  AfterReturn (Ok (put_back.Closed c grant n)) x x' = outside.lets_go x c x'
  AfterReturn (Err c) x x' = outside.lets_go x c x'

  -- these connections are dropped, one after another
  abbrev pub DropsEach : List (Closed C) → X → X → Type 0
  DropsEach [] x x' = x' ≡ x
  DropsEach (closed ∷ more) x x' = (x1 : X) × outside.lets_go x closed.conn x1 × DropsEach more x1 x'

module _ {C E V P H X : Type 0} (home : HomeOf X C P H) (outside : OutsideOf X C E V) where
  -- the clock is read, a critical section is made, and the home is released
  abbrev pub CriticalSection : (X → Moment → X → Type 0) → X → X → Type 0
  CriticalSection Step x x' = (at : Moment) × (x1 : X) × (x2 : X) × outside.reports x at x1 × Step x1 at x2 × home.releases x2 x'

  -- a guard's connection is returned: it is asked whether it is broken, the home takes it, and it
  -- is dropped if the pool does not keep it
  abbrev pub Returns : Taken C P → X → X → Type 0
  Returns taken x x' =
      (r : Returned C P) × (x1 : X) × Asks outside taken x r x1
      × ((a : Result (PutBackAnswer C) C) × (x2 : X) × CriticalSection (λ s at s'. home.steps s at (step.PutsBack r a) s') x1 x2 × AfterReturn outside a x2 x')

  -- a connection is added: it is asked whether it is broken, and the home accepts or refuses it
  abbrev pub AddsOutside : C → X → Result (Unit {0}) (AddError C) → X → Type 0
  AddsOutside conn x result x' =
      (broken : Bool) × (after : C) × (x1 : X) × outside.breaks x conn broken after x1
      × ((a : Result (AddAnswer C) C) × CriticalSection (λ s at s'. home.steps s at (step.Adds after broken a) s') x1 x' × IsAddResult a result)

  -- the home returns its statistics
  abbrev pub Shows : X → State → X → Type 0
  Shows x state x' = CriticalSection (λ s at s'. home.steps s at (step.Shows state) s') x x'

  -- one more handle is counted, or refused
  abbrev pub Joins : X → Joining H → X → Type 0
  Joins x a x' = CriticalSection (λ s at s'. home.steps s at (step.Joins a) s') x x'

  -- a handle leaves
  abbrev pub HandleLeaves : X → X → Type 0
  HandleLeaves x x' = (a : Result LeaveAnswer Unfit) × CriticalSection (λ s at s'. home.steps s at (step.Leaves a) s') x x'

  -- a guard's connection is returned, and then its handle leaves
  abbrev pub ReturnsAndLeaves : Taken C P → X → X → Type 0
  ReturnsAndLeaves taken x x' = (x1 : X) × Returns taken x x1 × HandleLeaves x1 x'

  -- A connection leaves the pool for good: the home ends its record and takes its permit. The
  -- connection is asked nothing, and nothing is dropped.
  abbrev pub Detaches : Taken C P → X → X → Type 0
  Detaches taken x x' =
      (a : Result DetachAnswer Unfit) × CriticalSection (λ s at s'. home.steps s at (step.Detaches taken.key taken.permit a) s') x x'

  -- as `Detaches`, for a guard with its own handle, which leaves then
  abbrev pub DetachesAndLeaves : Taken C P → X → X → Type 0
  DetachesAndLeaves taken x x' = (x1 : X) × Detaches taken x x1 × HandleLeaves x1 x'

  -- the pool is closed, and then each connection is dropped that the home put into the list
  abbrev pub ClosesInto : Buffer (Closed C) → X → X → Type 0
  ClosesInto list x x' =
      (closed : Buffer (Closed C)) × (a : Result LeaveAnswer Unfit) × (x1 : X)
      × CriticalSection (λ s at s'. home.steps s at (step.Closes list closed a) s') x x1 × DropsEach outside closed.items x1 x'

  -- The pool is closed: all handles end at once, and the closed connections are dropped once the
  -- home is released. The list for them has capacity for `size` connections; if memory for it is
  -- refused, the home drops them.
  abbrev pub Closes : ℕ → X → X → Type 0
  Closes size x x' = (list : Buffer (Closed C)) × IsListFor size list × ClosesInto list x x'

  -- whether the pool is closed: no handle is alive
  abbrev pub ReportsClosed : X → Bool → X → Type 0
  ReportsClosed x closed x' =
      (seen : Looked) × CriticalSection (λ s at s'. home.steps s at (step.Looks seen) s') x x' × (closed ≡ not seen.alive)

  -- a get is cancelled, the home is released, and then the get's handle leaves
  abbrev pub CancelsAndLeaves : Stage C V P → X → X → Type 0
  CancelsAndLeaves stage x x' = (x1 : X) × (x2 : X) × Cancels home outside stage x x1 × home.releases x1 x2 × HandleLeaves x2 x'

  -- all connections are retired, and then each one is dropped that the home put into the list
  abbrev pub RetiresInto : Buffer (Closed C) → X → X → Type 0
  RetiresInto list x x' =
      (a : ReapAnswer) × (offered : Buffer (Closed C)) × (x1 : X)
      × CriticalSection (λ s at s'. home.steps s at (step.Retires list a offered) s') x x1 × DropsEach outside offered.items x1 x'

  -- All connections are retired, and the closed ones are dropped once the home is released, as in
  -- `Closes`.
  abbrev pub Retires : ℕ → X → X → Type 0
  Retires size x x' = (list : Buffer (Closed C)) × IsListFor size list × RetiresInto list x x'

  -- a get begins and tries at this reading of the clock, the home is released, and the get is
  -- cancelled if it has no result
  abbrev pub TriesOnce : Moment → ℕ → X → Result (Option (Taken C P)) (RunError E) → X → Type 0
  TriesOnce at timeout x result x' =
      (settled : Settled C V P E) × (x1 : X) × (x2 : X) × Starts home outside at timeout x settled x1 × home.releases x1 x2
      × Cancels home outside settled.stage x2 x' × (result ≡ served_in settled.answer)

  -- A connection at once, or None: the clock is read, and the home is asked for its statistics. If
  -- none is idle, the home is released and no get begins. Otherwise a get tries once before the home
  -- is released.
  abbrev pub TakesNow : ℕ → X → Result (Option (Taken C P)) (RunError E) → X → Type 0
  TakesNow timeout x result x' =
      (at : Moment) × (x1 : X) × outside.reports x at x1
      × ((state : State) × (x2 : X) × home.steps x1 at (step.Shows state) x2
      × (state.idle_connections ≡ 0 → (result ≡ Ok None) × home.releases x2 x')
      × (0 < state.idle_connections → TriesOnce at timeout x2 result x'))

-- a get that blocks its thread, over any home and any user callbacks
module _ {C E V P H X : Type 0} (home : HomeOf X C P H) (outside : OutsideOf X C E V) (rests : RestsOf X) where
  -- What follows a poll before which the gets' signal had been notified this often. If it is
  -- pending, the home is released, the clock is read, and the thread sleeps until the signal is
  -- notified again, or as long as the get may rest. A get that has resolved is cancelled, which
  -- calls nothing more.
  abbrev pub AfterPoll : ℕ → Poll (Result (Taken C P) (RunError E)) → Stage C V P → X → X → Type 0
  AfterPoll signals Pending stage x x' =
      (x1 : X) × home.releases x x1
      × ((at : Moment) × (x2 : X) × outside.reports x1 at x2 × rests.sleeps x2 Get signals (rest_of stage at.0) x')
  AfterPoll signals (Ready r) stage x x' = Cancels home outside stage x x'

  -- one poll of such a get with this timeout, and what follows it
  abbrev pub WaitsOnce : ℕ → Stage C V P × X → Poll (Result (Taken C P) (RunError E)) → Stage C V P × X → Type 0
  WaitsOnce timeout before answer after =
      (signals : ℕ) × (x : X) × rests.counts before.1 Get signals x
      × ((x1 : X) × GetPolls home outside timeout before.0 x (record { answer = answer; stage = after.0 }) x1
      × AfterPoll signals answer after.0 x1 after.1)

  -- a new get is polled until it resolves
  abbrev pub Waits : ℕ → X → Result (Taken C P) (RunError E) → X → Type 0
  Waits timeout x result x' = (stage : Stage C V P) × EndsAt (WaitsOnce timeout) (Fresh, x) result (stage, x')
