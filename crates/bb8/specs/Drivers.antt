-- What callers see of a driver: its beginning, its turns, and a run of turns.
use Rattle.std.specs.Prelude.{◌≡◌, ℕ, ◌+◌, ◌-◌, ◌^◌, max, min, Bool, true, false, Option, Some, None}
use Rattle.std.specs.Arc.{arc_value}
use Rattle.bb8_types.specs.declared.api.moments.Moment.{Moment}
use Rattle.bb8_tasks.specs.declared.turning.Turn.{Turn}
use Rattle.bb8_tasks.specs.declared.turning.Turning.{Turning}
use Rattle.bb8_tasks.specs.Dues.{driver_due}
use Rattle.bb8_tasks.specs.Turns.{is_ended, DriverBegins, DriverTurns}
use Rattle.bb8_lock.specs.declared.shared.Shared.{Shared}
use Rattle.bb8_lock.specs.declared.signal.Rests.{Ghosts as RestsOf}
use Rattle.bb8_lock.specs.declared.signal.Sleeper.TheVariants.{Driver as Sleeping}
use Rattle.bb8_lock.specs.Scope.{rests, IsScopeOf, Scope}
use Rattle.bb8_lock.specs.Opening.{opener, tasks_home}
use Rattle.bb8_lock.specs.Turning.{OwnTurns}
use Rattle.bb8_lock.specs.declared.locked.Permits.{Ghosts as PermitsOf}
use Rattle.bb8_lock.specs.Words.{as_nanos, ManagerOf, DebugOf, SinkOf, CustomizerOf, ClockOf, OpenerOf}
use Rattle.bb8_tasks.specs.declared.home.Home.{Ghosts as HomeOf}
use Rattle.bb8.specs.declared.driver.Driver.{Driver}
use Rattle.bb8.specs.declared.driver.Driven.{Driven}
use Rattle.bb8.specs.declared.pool.Pool.{Pool}
use Rattle.bb8.specs.Pools.{made_in, settings_in}

-- one more turn; the count saturates
abbrev pub one_more : ℕ → ℕ
one_more n = min (n + 1) (2 ^ 64 - 1)

-- How long a driver's thread sleeps after a turn at a moment, in nanoseconds: until something is
-- due, at least a millisecond, and at most `longest`.
abbrev pub driver_rest : Option Moment → ℕ → ℕ → ℕ
driver_rest (Some due) now longest = min (max (due.0 - now) 1000000) longest
driver_rest None now longest = longest

-- A thread counts the drivers' signals, reads the clock, and sleeps until the next signal, no longer
-- than until something is due, and 50 milliseconds at most.
abbrev pub RestsUntil : {C E V A X : Type 0} → OpenerOf X C E V A → RestsOf X → Option Moment → X → X → Type 0
RestsUntil {X = X} opener rests due x x' =
    (signals : ℕ) × (x1 : X) × rests.counts x Sleeping signals x1
    × ((at : Moment) × (x2 : X) × opener.reports x1 at x2 × rests.sleeps x2 Sleeping signals (driver_rest due at.0 50000000) x')

-- the same, whenever something is due
abbrev pub RestsBriefly : {C E V A X : Type 0} → OpenerOf X C E V A → RestsOf X → X → X → Type 0
RestsBriefly opener rests x x' = (due : Option Moment) × RestsUntil opener rests due x x'

-- The result of a run of turns after this many. A turn that ended is the last one. After any other
-- turn the gate is asked, and may stop the run; otherwise the thread sleeps, unless the signal was
-- notified since it was counted, and the next turn follows.
pub data Runs {T P : Type 0} (turns : T → ℕ → Moment → Turn → T → Type 0) (pauses : P → Bool → P → Type 0)
    (sleeps : ℕ → Moment → T → T → Type 0) : T → P → ℕ → Driven → T → Type 0 where
  ends : (t t' : T) (signals : ℕ) (at : Moment) (g : P) (n : ℕ) (turn : Turn) (d : Driven) → turns t signals at turn t' → turn.ended ≡ true
      → d ≡ record { turns = one_more n; ended = true } → Runs turns pauses sleeps t g n d t'
  stops : (t t' : T) (signals : ℕ) (at : Moment) (g g' : P) (n : ℕ) (turn : Turn) (d : Driven) → turns t signals at turn t' → turn.ended ≡ false
      → pauses g false g' → d ≡ record { turns = one_more n; ended = false } → Runs turns pauses sleeps t g n d t'
  goes_on : (t t' t'' last : T) (signals : ℕ) (at : Moment) (g g' : P) (n : ℕ) (turn : Turn) (d : Driven) → turns t signals at turn t'
      → turn.ended ≡ false → pauses g true g' → sleeps signals at t' t'' → Runs turns pauses sleeps t'' g' (one_more n) d last
      → Runs turns pauses sleeps t g n d last

-- the notifications of the drivers' signal are counted, the clock is read, and a turn is made at
-- that moment
abbrev pub TurnsOnce : {C E V A X : Type 0} → HomeOf X C → OpenerOf X C E V A → RestsOf X → ℕ → Bool → Turning C V A × X → ℕ → Moment → Turn
    → Turning C V A × X → Type 0
TurnsOnce {X = X} home opener rests timeout retry before signals at turn after =
    (x1 : X) × (x2 : X) × rests.counts before.1 Sleeping signals x1 × opener.reports x1 at x2
    × DriverTurns home opener timeout retry at before.0 x2 turn after.0 after.1

-- the thread sleeps on that signal until something is due, and no longer than some bound; no clause
-- says that it is the gate's
abbrev pub SleepsOnce : {C V A X : Type 0} → RestsOf X → ℕ → Moment → Turning C V A × X → Turning C V A × X → Type 0
SleepsOnce rests signals at before after =
    (longest : ℕ) × rests.sleeps before.1 Sleeping signals (driver_rest (driver_due before.0) at.0 longest) after.1
    × (after.0 ≡ before.0)

-- a run of such turns on a pool, given what its handles share
module _ {G L M S Z K R C E N V A : Type 0} {m : ManagerOf M C E N V} {d : DebugOf E} {s : SinkOf S E} {z : CustomizerOf Z C E A} {k : ClockOf K} {l : PermitsOf L}
    (shared : Shared G L M S Z K R C E N V A m d s z k l) where
  abbrev pub OwnRuns : {P : Type 0} → (P → Bool → P → Type 0) → Turning C N A → P → Driven → Type 0
  OwnRuns pauses turning gate d =
      (x : Scope shared) × (last : Turning C N A × Scope shared) × IsScopeOf shared x
      × Runs (TurnsOnce (tasks_home shared) (opener shared) (rests shared) (as_nanos shared.config.connection_timeout)
      shared.config.retry_connection) pauses (SleepsOnce (rests shared)) (turning, x) gate 0 d last

module _ {G L M S Z K R C E N V A : Type 0} {m : ManagerOf M C E N V} {d : DebugOf E} {s : SinkOf S E} {z : CustomizerOf Z C E A} {k : ClockOf K} {l : PermitsOf L} where
  -- whether a driver has ended
  abbrev pub has_ended : Driver G L M S Z K R C E N V A m d s z k l → Bool
  has_ended driver = is_ended driver.turning

  -- the driver belongs to that pool and has made no turn yet; the ticks of its reaper count from
  -- the moment at which the pool was made
  abbrev pub IsDriverOf : Driver G L M S Z K R C E N V A m d s z k l → Pool G L M S Z K R C E N V A m d s z k l → Type 0
  IsDriverOf driver pool = (arc_value driver.shared ≡ arc_value pool.shared) × DriverBegins (settings_in pool) (made_in pool) driver.turning

  -- a turn of a driver at a moment, on its pool
  abbrev pub TurnsDriver : Moment → Driver G L M S Z K R C E N V A m d s z k l → Turn → Driver G L M S Z K R C E N V A m d s z k l → Type 0
  TurnsDriver at driver turn driver' =
      (arc_value driver'.shared ≡ arc_value driver.shared) × OwnTurns (arc_value driver.shared) at driver.turning turn driver'.turning

  -- the pool's clock is read, and a turn made at that moment
  abbrev pub TurnsDriverNow : Driver G L M S Z K R C E N V A m d s z k l → Turn → Driver G L M S Z K R C E N V A m d s z k l → Type 0
  TurnsDriverNow driver turn driver' =
      (at : Moment) × k.reports (arc_value driver.shared).clock at × TurnsDriver at driver turn driver'

  -- a run of a driver's turns, each at a reading of the pool's clock
  abbrev pub RunsDriver : {P : Type 0} → (P → Bool → P → Type 0) → Driver G L M S Z K R C E N V A m d s z k l → P → Driven → Type 0
  RunsDriver pauses driver gate d = OwnRuns (arc_value driver.shared) pauses driver.turning gate d
