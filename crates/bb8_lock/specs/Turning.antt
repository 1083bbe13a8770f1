-- The turns of a driver on a pool's lock, which is acquired for each step alone, with the pool's
-- own manager, customizer, error sink and clock.
use Rattle.bb8_lock.specs.Words.{as_nanos, DebugOf, CustomizerOf, ManagerOf, SinkOf, ClockOf, Moment, PermitsOf, Shared}
use Rattle.bb8_tasks.specs.declared.turning.Turn.{Turn}
use Rattle.bb8_tasks.specs.declared.turning.Turning.{Turning}
use Rattle.bb8_tasks.specs.Sweeping.{AtReading}
use Rattle.bb8_tasks.specs.Turns.{DriverLetsGo, DriverTurns}
use Rattle.bb8_lock.specs.Scope.{Own}
use Rattle.bb8_lock.specs.Opening.{opener, tasks_home}

module _ {G L M S Z K R C E N V A : Type 0} {m : ManagerOf M C E N V} {d : DebugOf E} {s : SinkOf S E} {z : CustomizerOf Z C E A} {k : ClockOf K} {l : PermitsOf L}
    (shared : Shared G L M S Z K R C E N V A m d s z k l) where
  -- a turn at a moment
  abbrev pub OwnTurns : Moment → Turning C N A → Turn → Turning C N A → Type 0
  OwnTurns at turning turn turning' =
      Own shared (λ x x'. DriverTurns (tasks_home shared) (opener shared) (as_nanos shared.config.connection_timeout)
      shared.config.retry_connection at turning x turn turning' x')

  -- a driver is ended: the clock is read, then each of its tasks is cancelled and its approval
  -- given back
  abbrev pub OwnDropsTurning : Turning C N A → Type 0
  OwnDropsTurning turning = Own shared (AtReading (opener shared).reports (λ at. DriverLetsGo (tasks_home shared) (opener shared) at turning))
