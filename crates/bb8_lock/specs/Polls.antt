-- The table of a get's polls, over the relations of any home and any user callbacks. These are
-- parameters, so the table defines which calls are made, how many, and in which order.
use Rattle.std.specs.Prelude.{◌≡◌, ℕ, ◌+◌, ◌-◌, ◌<◌, ◌≤◌, min, Bool, true, false, Option, Some, None, Result, Ok, Err}
use Rattle.std.specs.Result.{MatchResult}
use Rattle.futures.specs.Poll.{IfReady, OnPending}
use Rattle.futures.specs.declared.task.Poll.{Poll}
use Rattle.futures.specs.declared.task.Poll.TheVariants.{Ready, Pending}
use Rattle.bb8_types.specs.declared.api.moments.Moment.{Moment}
use Rattle.bb8_types.specs.declared.api.errors.RunError.TheVariants as errors
use Rattle.bb8_types.specs.declared.reasons.Reason.{Reason}
use Rattle.bb8_types.specs.declared.reasons.Reason.TheVariants.{TimedOut, Cancelled}
use Rattle.bb8_tables.specs.declared.keys.GetKey.{GetKey}
use Rattle.bb8_core.specs.declared.answers.CheckedErrAnswer.{CheckedErrAnswer}
use Rattle.bb8_core.specs.declared.answers.CheckedErrAnswer.TheVariants as failed
use Rattle.bb8_core.specs.declared.answers.GiveUpAnswer.{GiveUpAnswer}
use Rattle.bb8_core.specs.declared.answers.GiveUpAnswer.TheVariants as given_up
use Rattle.bb8_core.specs.declared.answers.Looked.{Looked}
use Rattle.bb8_lock.specs.declared.gets.home.FirstTry.{FirstTry}
use Rattle.bb8_lock.specs.declared.gets.home.FirstTry.TheVariants as first
use Rattle.bb8_lock.specs.declared.gets.home.GetHome.{Ghosts as HomeOf}
use Rattle.bb8_lock.specs.declared.gets.home.Passed.{Passed}
use Rattle.bb8_lock.specs.declared.gets.home.Returned.{Returned}
use Rattle.bb8_lock.specs.declared.gets.home.Taken.{Taken}
use Rattle.bb8_lock.specs.declared.gets.home.Tried.{Tried}
use Rattle.bb8_lock.specs.declared.gets.home.Tried.TheVariants as tried
use Rattle.bb8_core.specs.declared.answers.Unfit.{Unfit}
use Rattle.bb8_lock.specs.declared.gets.outside.Outside.{Ghosts as OutsideOf}
use Rattle.bb8_lock.specs.declared.gets.state.Begun.{Begun as Open}
use Rattle.bb8_lock.specs.declared.gets.state.CheckUnderWay.{CheckUnderWay}
use Rattle.bb8_lock.specs.declared.gets.state.Next.{Next}
use Rattle.bb8_lock.specs.declared.gets.state.Next.TheVariants.{Answer, Stand}
use Rattle.bb8_lock.specs.declared.gets.state.Settled.{Settled}
use Rattle.bb8_lock.specs.declared.gets.state.Stage.{Stage}
use Rattle.bb8_lock.specs.declared.gets.state.Stage.TheVariants.{Fresh, Trying, Waiting, Checking, Done}
use Rattle.bb8_types.specs.Bounds.{last_moment}
use Rattle.bb8_lock.specs.Steps as step

-- whether a get in this state holds nothing, because it has not begun or has ended
abbrev pub holds_nothing : {C V P : Type 0} → Stage C V P → Bool
holds_nothing Fresh = true
holds_nothing (Trying b) = false
holds_nothing (Waiting b) = false
holds_nothing (Checking b held) = false
holds_nothing Done = true

-- whether this is the deadline of a get that was first polled at a moment: None if it is past the
-- greatest moment
abbrev pub IsDeadline : Moment → ℕ → Option Moment → Type 0
IsDeadline m timeout (Some deadline) = deadline.0 ≡ m.0 + timeout
IsDeadline m timeout None = last_moment < m.0 + timeout

-- at most this long, and not past the deadline
abbrev pub within : ℕ → Option Moment → ℕ → ℕ
within most (Some deadline) now = min most (deadline.0 - now)
within most None now = most

-- the nanoseconds for which a thread may sleep before it polls the get again
abbrev pub rest_of : {C V P : Type 0} → Stage C V P → ℕ → ℕ
rest_of Fresh now = 0
rest_of (Trying b) now = 0
rest_of (Waiting b) now = within 50000000 b.deadline now
rest_of (Checking b held) now = within 1000000 b.deadline now
rest_of Done now = 0

-- the connection that is closed because its check failed
abbrev pub closed_in : {C : Type 0} → CheckedErrAnswer C → C
closed_in (failed.Closed k c grant n) = c

module _ {C E V P X : Type 0} (outside : OutsideOf X C E V) where
  -- has_broken is called for a connection that is returned
  abbrev pub Asks : Taken C P → X → Returned C P → X → Type 0
  Asks t x r x' = outside.breaks x t.connection r.broken r.taken.connection x' × (r.taken.key ≡ t.key) × (r.taken.permit ≡ t.permit)

module _ {C E V P H X : Type 0} (home : HomeOf X C P H) (outside : OutsideOf X C E V) where
  -- a connection is dropped after a step
  abbrev pub DropsAfterStep : C → X → X → Type 0
  DropsAfterStep c x x' = (x1 : X) × home.releases x x1 × outside.lets_go x1 c x'

  -- after a get gave up: a connection that was closed is dropped
  abbrev pub AfterGiveUp : GiveUpAnswer C → X → X → Type 0
  AfterGiveUp (given_up.GaveUp n) x x' = (x' ≡ x)
  AfterGiveUp (given_up.Kept k n) x x' = (x' ≡ x)
  AfterGiveUp (given_up.Closed k c grant n) x x' = DropsAfterStep c x x'

module _ {C E V P H X : Type 0} (home : HomeOf X C P H) (outside : OutsideOf X C E V) (m : Moment) where
  -- a get that holds no connection ends
  abbrev pub LeavesLine : GetKey → Reason → X → X → Type 0
  LeavesLine g why x x' =
      (a : Result (GiveUpAnswer C) Unfit) × (x1 : X) × home.steps x m (step.GivesUp g why a) x1
      × MatchResult a (λ r. AfterGiveUp home outside r x1 x') (λ u. x' ≡ x1)

  -- a get that held a connection ends; a connection that the home does not take is dropped, too
  abbrev pub TakesBack : GetKey → Reason → Returned C P → X → X → Type 0
  TakesBack g why r x x' =
      (a : Result (GiveUpAnswer C) C) × (x1 : X) × home.steps x m (step.GivesBack g why r a) x1
      × MatchResult a (λ r. AfterGiveUp home outside r x1 x') (λ c. DropsAfterStep home outside c x1 x')

  -- a row with this outcome that makes no call
  abbrev pub MovesTo : Next C V P E → X → Next C V P E → X → Type 0
  MovesTo to x next x' = (next ≡ to) × (x' ≡ x)

  -- a failed check: the sink gets the error, has_broken is called for the connection, the home
  -- closes it, and it is dropped
  abbrev pub CheckFails : Open → Taken C P → E → X → Next C V P E → X → Type 0
  CheckFails b t e x next x' =
      (x1 : X) × outside.sinks x e x1
      × ((r : Returned C P) × (x2 : X) × Asks outside t x1 r x2
      × ((a : Result (CheckedErrAnswer C) C) × (x3 : X) × home.steps x2 m (step.Fails b.get r a) x3
      × MatchResult a (λ r. DropsAfterStep home outside (closed_in r) x3 x' × (next ≡ Stand (Trying b)))
      (λ c. DropsAfterStep home outside c x3 x' × (next ≡ Answer (Err errors.TimedOut)))))

  -- A check is polled, and dropped if it has a result. If it passed, the home serves the get, or the
  -- connection is dropped.
  abbrev pub Checks : Open → CheckUnderWay C V P → X → Next C V P E → X → Type 0
  Checks b held x next x' =
      (answer : Poll (Result (Unit {0}) E)) × (c : C) × (v : V) × (x1 : X)
      × outside.check_answers x held.taken.connection held.checking m answer c v x1
      × OnPending answer (MovesTo (Stand (Checking b (record { taken = record held.taken { connection = c }; checking = v }))) x1 next x')
      × IfReady answer (λ result. (x2 : X) × outside.ends_check x1 v x2
      × MatchResult result
      (λ _. (a : Result (Passed P) Unfit) × (x3 : X) × home.steps x2 m (step.Passes b.get held.taken.key held.taken.permit a) x3
      × MatchResult a (λ p. MovesTo (Answer (Ok (record held.taken { connection = c; key = p.key; permit = p.permit }))) x3 next x')
      (λ u. DropsAfterStep home outside c x3 x' × (next ≡ Answer (Err errors.TimedOut))))
      (λ e. CheckFails b (record held.taken { connection = c }) e x2 next x'))

  -- After a try of a get with this deadline, or its begin and first try: a connection that must be
  -- checked is polled in the same poll.
  abbrev pub AfterTry : Result (FirstTry C P) Unfit → Option Moment → X → Next C V P E → X → Type 0
  AfterTry (Ok (first.Tried g (tried.Served t grant))) due x next x' = MovesTo (Answer (Ok t)) x next x'
  AfterTry (Ok (first.Tried g (tried.Taken t grant))) due x next x' =
      (x1 : X) × home.releases x x1
      × ((v : V) × (c : C) × (x2 : X) × outside.checks x1 t.connection v c x2
      × Checks (record { get = g; deadline = due }) (record { taken = record t { connection = c }; checking = v }) x2 next x')
  AfterTry (Ok (first.Tried g (tried.Waiting grant))) due x next x' = MovesTo (Stand (Waiting (record { get = g; deadline = due }))) x next x'
  AfterTry (Ok first.Memory) due x next x' = MovesTo (Answer (Err errors.Memory)) x next x'
  AfterTry (Ok first.Exhausted) due x next x' = MovesTo (Answer (Err errors.Exhausted)) x next x'
  AfterTry (Err u) due x next x' = MovesTo (Answer (Err errors.TimedOut)) x next x'

  abbrev pub Tries : Open → X → Next C V P E → X → Type 0
  Tries b x next x' =
      (t : Result (Tried C P) Unfit) × (x1 : X) × home.steps x m (step.Tries b.get t) x1
      × MatchResult t (λ a. AfterTry (Ok (first.Tried b.get a)) b.deadline x1 next x') (λ u. MovesTo (Answer (Err errors.TimedOut)) x1 next x')

  -- A get that holds no connection tries while a handle is alive. If the pool was closed, it ends,
  -- whatever its deadline.
  abbrev pub Retries : Bool → Open → X → Next C V P E → X → Type 0
  Retries true b x next x' = Tries b x next x'
  Retries false b x next x' = LeavesLine b.get TimedOut x x' × (next ≡ Answer (Err errors.TimedOut))

  -- a get ends because its deadline has passed: has_broken is called for a connection that it holds
  abbrev pub TimesOut : Stage C V P → X → X → Type 0
  TimesOut (Trying b) x x' = LeavesLine b.get TimedOut x x'
  TimesOut (Waiting b) x x' = LeavesLine b.get TimedOut x x'
  TimesOut (Checking b held) x x' =
      (x1 : X) × outside.ends_check x held.checking x1
      × ((r : Returned C P) × (x2 : X) × Asks outside held.taken x1 r x2 × TakesBack b.get TimedOut r x2 x')
  TimesOut Fresh x x' = (x' ≡ x)
  TimesOut Done x x' = (x' ≡ x)

  -- a get keeps its state
  abbrev pub Stays : Stage C V P → X → Settled C V P E → X → Type 0
  Stays stage x settled x' = (settled.answer ≡ Pending) × (settled.stage ≡ stage) × (x' ≡ x)

  -- the rows of the deadline
  abbrev pub Compares : Option Moment → Stage C V P → X → Settled C V P E → X → Type 0
  Compares None stage x settled x' = Stays stage x settled x'
  Compares (Some deadline) stage x settled x' =
      (deadline.0 ≤ m.0 → TimesOut stage x x' × (settled.answer ≡ Ready (Err errors.TimedOut)) × (settled.stage ≡ Done))
      × (m.0 < deadline.0 → Stays stage x settled x')

  abbrev pub Settles : Stage C V P → X → Settled C V P E → X → Type 0
  Settles (Trying b) x settled x' = Compares b.deadline (Trying b) x settled x'
  Settles (Waiting b) x settled x' = Compares b.deadline (Waiting b) x settled x'
  Settles (Checking b held) x settled x' = Compares b.deadline (Checking b held) x settled x'
  Settles Fresh x settled x' = Stays Fresh x settled x'
  Settles Done x settled x' = Stays Done x settled x'

  -- the end of a poll: there is a result, or the deadline is compared
  abbrev pub EndsPoll : Next C V P E → X → Settled C V P E → X → Type 0
  EndsPoll (Answer a) x settled x' = (settled.answer ≡ Ready a) × (settled.stage ≡ Done) × (x' ≡ x)
  EndsPoll (Stand stage) x settled x' = Settles stage x settled x'

module _ {C E V P H X : Type 0} (home : HomeOf X C P H) (outside : OutsideOf X C E V) where
  -- a first poll at a reading of the clock: the get begins and tries
  abbrev pub Starts : Moment → ℕ → X → Settled C V P E → X → Type 0
  Starts at timeout x settled x' =
      (m : Moment) × (r : Result (FirstTry C P) Unfit) × (x1 : X) × home.steps x at (step.Starts m r) x1
      × ((next : Next C V P E) × (due : Option Moment) × (x2 : X) × IsDeadline m timeout due × AfterTry home outside m r due x1 next x2 × EndsPoll home outside m next x2 settled x')

  -- a later poll: the clock is read, the home looked at, and the get continues by its row
  abbrev pub Continues : (Looked → X → Next C V P E → X → Type 0) → X → Settled C V P E → X → Type 0
  Continues Row x settled x' =
      (at : Moment) × (x1 : X) × outside.reports x at x1
      × ((seen : Looked) × (x2 : X) × home.steps x1 at (step.Looks seen) x2
      × ((next : Next C V P E) × (x3 : X) × Row seen x2 next x3 × EndsPoll home outside seen.moment next x3 settled x'))

  -- The whole poll: its result, and the state, the home and the user callbacks after it. In Done no
  -- call is made.
  abbrev pub GetPolls : ℕ → Stage C V P → X → Settled C V P E → X → Type 0
  GetPolls timeout Fresh x settled x' = (at : Moment) × (x1 : X) × outside.reports x at x1 × Starts at timeout x1 settled x'
  GetPolls timeout (Trying b) x settled x' = Continues (λ seen. Retries home outside seen.moment seen.alive b) x settled x'
  GetPolls timeout (Waiting b) x settled x' = Continues (λ seen. Retries home outside seen.moment seen.alive b) x settled x'
  GetPolls timeout (Checking b held) x settled x' =
      Continues (λ seen y next y'. (y1 : X) × home.releases y y1 × Checks home outside seen.moment b held y1 next y') x settled x'
  GetPolls timeout Done x settled x' = (settled.answer ≡ Pending) × (settled.stage ≡ Done) × (x' ≡ x)

  -- a get that has begun and holds no connection is cancelled
  abbrev pub CancelsFree : GetKey → X → X → Type 0
  CancelsFree g x x' = (at : Moment) × (x1 : X) × outside.reports x at x1 × LeavesLine home outside at g Cancelled x1 x'

  -- a get whose connection is being checked is cancelled
  abbrev pub CancelsHeld : GetKey → CheckUnderWay C V P → X → X → Type 0
  CancelsHeld g held x x' =
      (x1 : X) × outside.ends_check x held.checking x1
      × ((r : Returned C P) × (x2 : X) × Asks outside held.taken x1 r x2
      × ((at : Moment) × (x3 : X) × outside.reports x2 at x3 × TakesBack home outside at g Cancelled r x3 x'))

  -- A get is cancelled: has_broken is called for a connection that it holds, the clock is read, and
  -- the get ends as cancelled. In Fresh and Done no call is made.
  abbrev pub Cancels : Stage C V P → X → X → Type 0
  Cancels (Trying b) x x' = CancelsFree b.get x x'
  Cancels (Waiting b) x x' = CancelsFree b.get x x'
  Cancels (Checking b held) x x' = CancelsHeld b.get held x x'
  Cancels Fresh x x' = (x' ≡ x)
  Cancels Done x x' = (x' ≡ x)
