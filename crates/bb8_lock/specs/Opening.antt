-- Connection tasks on a pool's lock, which is acquired for each step alone, with the pool's own
-- manager, customizer, error sink and clock.
use Rattle.std.specs.Prelude.{◌≡◌, None, Result, List}
use Rattle.bb8_lock.specs.Words.{as_nanos, DebugOf, Poll, CustomizerOf, ManagerOf, SinkOf, ClockOf, OpenerOf, PermitsOf, LockScope, Shared}
use Rattle.bb8_tasks.specs.declared.dedicated.Dedicated.{Dedicated}
use Rattle.bb8_tasks.specs.declared.home.Home.{Ghosts as HomeOf}
use Rattle.bb8_tasks.specs.declared.replenish.Replenish.{Replenish}
use Rattle.bb8_tasks.specs.declared.rounds.Round.{Round}
use Rattle.bb8_tasks.specs.Dedicating as dedicating
use Rattle.bb8_tasks.specs.Homes.{TaskStepsBy}
use Rattle.bb8_tasks.specs.TaskSteps.{TaskStep}
use Rattle.bb8_tasks.specs.Replenishing.{TaskPolls, LetsGo}
use Rattle.bb8_tasks.specs.Sweeping.{AtReading, Rounds, LetsGoEach}
use Rattle.bb8_lock.specs.declared.signal.Signals.{Signals}
use Rattle.bb8_lock.specs.Signals.{SignalsFor}
use Rattle.bb8_lock.specs.Scope.{Scope, Own, Notified, StartsAt}

-- A step on the held data, or else on whatever is under the lock, which is acquired for it. Its
-- signals are notified. Afterwards the lock is free, and the noted signals are as before.
abbrev pub Visits : {S T C : Type 0} → (S → Signals → Type 0) → (T → T → Type 0) → TaskStep C → LockScope S T → LockScope S T → Type 0
Visits {T = T} Notified Step s x x' =
    ((t : T) × (t' : T) × StartsAt x.held t × Step t t') × SignalsFor (Notified x.shared.now) s
    × (x'.held ≡ None) × (x'.signals ≡ x.signals) × (x'.shared ≡ x.shared)

-- What a pool does with its tasks, given what its handles and guards share: on the pool's lock,
-- with its own manager, customizer, error sink and clock.
module _ {G L M S Z K R C E N V A : Type 0} {m : ManagerOf M C E N V} {d : DebugOf E} {s : SinkOf S E} {z : CustomizerOf Z C E A} {k : ClockOf K} {l : PermitsOf L}
    (shared : Shared G L M S Z K R C E N V A m d s z k l) where
  -- the relations of the lock as a home of tasks
  abbrev pub tasks_home : HomeOf (Scope shared) C
  tasks_home = record { steps = λ x at s x'. Visits (Notified shared) (λ t t'. (t.core.config ≡ l.settings) × TaskStepsBy t.core at s t'.core) s x x' }

  -- the relations of the callbacks of a pool's manager, customizer, clock and error sink
  abbrev pub opener : OpenerOf (Scope shared) C E N A
  opener = record {
    reports = λ x at x'. k.reports x.shared.now.clock at × (x' ≡ x);
    sinks = λ x e x'. s.sinks x.shared.now.error_sink e × (x' ≡ x);
    connects = λ x v x'. m.connects x.shared.now.manager v × (x' ≡ x);
    connect_answers = λ x v at answer v' x'. m.connect_answers x.shared.now.manager v at answer v' × (x' ≡ x);
    ends_connect = λ x _ x'. x' ≡ x;
    acquires = λ x c a c' x'. z.acquires x.shared.now.customizer c a c' × (x' ≡ x);
    acquire_answers = λ x c a at answer c' a' x'. z.acquire_answers x.shared.now.customizer c a at answer c' a' × (x' ≡ x);
    ends_acquire = λ x _ x'. x' ≡ x;
    lets_go = λ x _ x'. x' ≡ x;
  }

  -- a round of the tasks that open the pool's first connections; it stops at the first failure
  abbrev pub OwnRounds : List (Replenish C N A) → Round (List (Replenish C N A)) E → Type 0
  OwnRounds tasks round =
      Own shared (AtReading opener.reports (λ at x x'. Rounds (TaskPolls tasks_home opener (as_nanos shared.config.connection_timeout) shared.config.retry_connection at)
      opener.sinks (LetsGo tasks_home opener at) tasks x round x'))

  -- the tasks of the pool are cancelled: each drops what it holds, and its approval is returned
  abbrev pub OwnDropsTasks : List (Replenish C N A) → Type 0
  OwnDropsTasks tasks = Own shared (AtReading opener.reports (λ at. LetsGoEach (LetsGo tasks_home opener at) tasks))

  -- a poll of an attempt to open a connection that the pool does not count
  abbrev pub OwnDedicates : Dedicated C N A → Poll (Result C E) → Dedicated C N A → Type 0
  OwnDedicates opening answer opening' =
      Own shared (λ x x'. dedicating.AttemptPolls opener opening x answer opening' x')

  -- such an attempt is cancelled
  abbrev pub OwnDropsAttempt : Dedicated C N A → Type 0
  OwnDropsAttempt opening = Own shared (dedicating.DropsAttempt opener opening.stage)
