-- What gets, guards and handles do on a pool: the tables over the data under the pool's lock, while
-- it is held, and over the pool's own manager, error sink and clock.
use Rattle.std.specs.Prelude.{◌≡◌, ℕ, eqb, IfSome, None, Option, Some, Result, Ok, Err, ⊤, Bool}
use Rattle.bb8_lock.specs.Words.{MutexGuard, DebugOf, Poll, Ready, Pending, AddError, RunError, State, ManagerOf, SinkOf, CustomizerOf, ClockOf, settings_of, HomeOf, Taken, OutsideOf, Stage, Joining, Locked, Permit, PermitsOf, LockScope, Shared, GetPolls, Cancels}
use Rattle.std.specs.Sync.Mutex.{mutex_guard_value}
use Rattle.bb8_lock.specs.declared.signal.Signals.{Signals}
use Rattle.bb8_lock.specs.Signals.{signals_of_step, joined, silent}
use Rattle.bb8_lock.specs.Traces.{AddsOutside, Answers, CancelsAndLeaves, Joins, HandleLeaves, Returns, ReturnsAndLeaves, Retires, Shows, TakesNow, Waits, Closes, Detaches, DetachesAndLeaves, ReportsClosed}
use Rattle.bb8_lock.specs.Steps.{StepsBy}
use Rattle.bb8_lock.specs.declared.signal.Rests.{Ghosts as RestsOf}
use Rattle.bb8_lock.specs.declared.handle.Handle.{Handle}

module _ {T : Type 0} where
  -- the data at which a step starts: what is held, or, if the lock is free, whatever is under it
  abbrev pub StartsAt : Option (MutexGuard T) → T → Type 0
  StartsAt held t = IfSome held (λ guard. mutex_guard_value guard ≡ t)

  -- this is held
  abbrev pub Holds : Option (MutexGuard T) → T → Type 0
  Holds (Some guard) t = mutex_guard_value guard ≡ t
  Holds None t = ⊥

-- A lock with the user callbacks outside it, as one value.
module _ {S T : Type 0} where
  -- the scope shares this; the lock is free, and no signal is noted
  abbrev pub IsScopeOf : S → LockScope S T → Type 0
  IsScopeOf shared x = (x.shared.now ≡ shared) × (x.held ≡ None) × (x.signals ≡ silent)

  -- A step leads from the held data, or else from whatever is under the lock, to the data held
  -- then. Its signals, which may depend on that, are added to the noted ones, and no others.
  abbrev pub Leads : (T → T → Type 0) → (T → Signals) → LockScope S T → LockScope S T → Type 0
  Leads Step its_signals x x' =
      ((t : T) × (t' : T) × StartsAt x.held t × Holds x'.held t' × Step t t' × (x'.signals ≡ joined (its_signals t') x.signals)) × (x'.shared ≡ x.shared)

  -- the noted signals are notified; afterwards the lock is free, and no signal is noted
  abbrev pub Frees : (S → Signals → Type 0) → LockScope S T → LockScope S T → Type 0
  Frees Notified x x' = Notified x.shared.now x.signals × (x'.held ≡ None) × (x'.signals ≡ silent) × (x'.shared ≡ x.shared)

-- What a pool's gets, guards and handles do, given what they share: on the pool's lock, with its
-- own manager, error sink and clock.
module _ {G L M S Z K R C E N V A : Type 0} {m : ManagerOf M C E N V} {d : DebugOf E} {s : SinkOf S E} {z : CustomizerOf Z C E A} {k : ClockOf K} {l : PermitsOf L}
    (shared : Shared G L M S Z K R C E N V A m d s z k l) where
  -- the pool's lock with its user callbacks
  abbrev pub Scope : Type 0
  Scope = LockScope (Shared G L M S Z K R C E N V A m d s z k l) (Locked C L l)

  -- signals of the pool were notified; no relation says more
  abbrev pub Notified : Shared G L M S Z K R C E N V A m d s z k l → Signals → Type 0
  Notified _ _ = ⊤

  -- `Does` is done on a fresh scope of the pool
  abbrev pub Own : (Scope → Scope → Type 0) → Type 0
  Own Does = (x : Scope) × (x' : Scope) × IsScopeOf shared x × Does x x'

  -- The relations of the lock as a home. While it is held, each step starts where the one before
  -- ended. Once it was released, the next one starts at whatever is under it. A step's result
  -- follows from that very state, which keeps the limits.
  abbrev pub gets : HomeOf Scope C (Permit L) Handle
  gets = record {
    releases = λ x x'. Frees Notified x x';
    steps = λ x at s x'. Leads (λ t t'. (t.core.config ≡ l.settings) × StepsBy t.core at s t'.core) (λ t'. signals_of_step (eqb t'.core.handles 0) s) x x';
  }

  -- the relations of the callbacks of its manager, error sink and clock
  abbrev pub calls : OutsideOf Scope C E V
  calls = record {
    reports = λ x moment x'. k.reports x.shared.now.clock moment × (x' ≡ x);
    checks = λ x c v c' x'. m.checks x.shared.now.manager c v c' × (x' ≡ x);
    check_answers = λ x c v moment a c' v' x'. m.check_answers x.shared.now.manager c v moment a c' v' × (x' ≡ x);
    ends_check = λ x _ x'. x' ≡ x;
    breaks = λ x c broken c' x'. m.breaks x.shared.now.manager c broken c' × (x' ≡ x);
    sinks = λ x e x'. s.sinks x.shared.now.error_sink e × (x' ≡ x);
    lets_go = λ x _ x'. x' ≡ x;
  }

  -- the relations of a thread's sleep, which changes nothing here
  abbrev pub rests : RestsOf Scope
  rests = record { counts = λ x _ _ x'. x' ≡ x; sleeps = λ x _ _ _ x'. x' ≡ x }

  -- A poll of a get goes by the table.
  abbrev pub OwnPolls : Stage C V (Permit L) → Poll (Result (Taken C (Permit L)) (RunError E)) → Stage C V (Permit L) → Type 0
  OwnPolls stage r stage' =
      (x : Scope) × (x' : Scope) × IsScopeOf shared x
      × GetPolls gets calls (settings_of shared.config).connection_timeout stage x (record { answer = r; stage = stage' }) x'

  -- the final result of the polls of such a get
  abbrev pub OwnGives : Stage C V (Permit L) → Result (Taken C (Permit L)) (RunError E) → Type 0
  OwnGives stage x = Answers OwnPolls stage x

  -- A thread waits for a new get.
  abbrev pub OwnWaits : ℕ → Result (Taken C (Permit L)) (RunError E) → Type 0
  OwnWaits timeout result = Own (λ x x'. Waits gets calls rests timeout x result x')

  -- A connection is taken at once, or None.
  abbrev pub OwnTakesNow : Result (Option (Taken C (Permit L))) (RunError E) → Type 0
  OwnTakesNow result = Own (λ x x'. TakesNow gets calls (settings_of shared.config).connection_timeout x result x')

  -- A get is cancelled by the table; if it has its own handle, that leaves then.
  abbrev pub OwnCancels : Stage C V (Permit L) → Type 0
  OwnCancels stage = Own (Cancels gets calls stage)

  abbrev pub OwnCancelsAndLeaves : Stage C V (Permit L) → Type 0
  OwnCancelsAndLeaves stage = Own (CancelsAndLeaves gets calls stage)

  -- A guard's connection is returned; if the guard has its own handle, that leaves then.
  abbrev pub OwnReturns : Taken C (Permit L) → Type 0
  OwnReturns taken = Own (Returns gets calls taken)

  abbrev pub OwnReturnsAndLeaves : Taken C (Permit L) → Type 0
  OwnReturnsAndLeaves taken = Own (ReturnsAndLeaves gets calls taken)

  -- A guard's connection leaves the pool for good; if the guard has its own handle, that leaves
  -- then.
  abbrev pub OwnDetaches : Taken C (Permit L) → Type 0
  OwnDetaches taken = Own (Detaches gets calls taken)

  abbrev pub OwnDetachesAndLeaves : Taken C (Permit L) → Type 0
  OwnDetachesAndLeaves taken = Own (DetachesAndLeaves gets calls taken)

  -- one more handle is made or refused; and a handle leaves
  abbrev pub OwnJoins : Joining Handle → Type 0
  OwnJoins answer = Own (λ x x'. Joins gets calls x answer x')

  abbrev pub OwnLeaves : Type 0
  OwnLeaves = Own (HandleLeaves gets calls)

  -- the pool is closed, with a list for `max_size` connections; and whether it is closed
  abbrev pub OwnCloses : Type 0
  OwnCloses = Own (Closes gets calls (settings_of shared.config).max_size)

  abbrev pub OwnTellsClosed : Bool → Type 0
  OwnTellsClosed closed = Own (λ x x'. ReportsClosed gets calls x closed x')

  -- a connection is added
  abbrev pub OwnAdds : C → Result (Unit {0}) (AddError C) → Type 0
  OwnAdds conn result = Own (λ x x'. AddsOutside gets calls conn x result x')

  -- all connections are retired, with a list for `max_size` connections
  abbrev pub OwnRetires : Type 0
  OwnRetires = Own (Retires gets calls (settings_of shared.config).max_size)

  -- the pool returns its statistics
  abbrev pub OwnShows : State → Type 0
  OwnShows state = Own (λ x x'. Shows gets calls x state x')

-- a guard is made of a served connection; an error is passed on
abbrev pub MakesGuard : {A B E : Type 0} → (A → B → Type 0) → Result A E → Result B E → Type 0
MakesGuard Makes (Ok a) (Ok b) = Makes a b
MakesGuard Makes (Err e) (Err f) = e ≡ f
MakesGuard Makes _ _ = ⊥

-- a poll's result, with a guard in place of the served connection
abbrev pub MakesPoll : {A B E : Type 0} → (A → B → Type 0) → Poll (Result A E) → Poll (Result B E) → Type 0
MakesPoll Makes (Ready a) (Ready b) = MakesGuard Makes a b
MakesPoll Makes Pending Pending = ⊤
MakesPoll Makes _ _ = ⊥
