-- The input and the result of a service.
use Rattle.std.specs.Prelude.{◌≡◌, ℕ, ◌<◌, ◌⊎◌, List, length, slice_index_or, Result, Ok, Err}
use Rattle.bb8_types.specs.Settings.{Settings}
use Rattle.bb8_lock.specs.declared.locked.Permits.{Ghosts as PermitsOf}
use Rattle.bb8_lock.specs.Words.{ManagerOf, DebugOf, SinkOf, CustomizerOf, ClockOf}
use Rattle.bb8.specs.declared.pool.Pool.{Pool}
use Rattle.bb8.specs.Choices.{Choices}
use Rattle.bb8.specs.Pools.{clock_in, customizer_in, manager_in, settings_in, sink_in}

-- what a pool is built of
pub record Basis (M S Z K : Type 0) : Type 0 where
  pub settings : Settings
  pub manager : M
  pub sink : S
  pub customizer : Z
  pub clock : K

-- the basis of a builder, a manager and a clock
abbrev pub basis : {M S Z K : Type 0} → Choices S Z → M → K → Basis M S Z K
basis builder manager clock =
    record { settings = builder.settings; manager = manager; sink = builder.error_sink; customizer = builder.connection_customizer; clock = clock }

module _ {G L M S Z K R C E N V A : Type 0} {m : ManagerOf M C E N V} {d : DebugOf E} {s : SinkOf S E} {z : CustomizerOf Z C E A} {k : ClockOf K} {l : PermitsOf L} where
  -- what a pool was built of
  abbrev pub basis_of : Pool G L M S Z K R C E N V A m d s z k l → Basis M S Z K
  basis_of pool =
      record { settings = settings_in pool; manager = manager_in pool; sink = sink_in pool; customizer = customizer_in pool; clock = clock_in pool }

-- the results of this many threads, each one a result that the thread of its number may have
pub record EachOutput {T : Type 0} (Reports : ℕ → T → Type 0) (threads : ℕ) (results : List T) : Type 0 where
  pub all : length results ≡ threads
  pub each : (thread : ℕ) (x : T) → thread < threads → Reports thread (slice_index_or results thread x)

-- The possible results of a service over a pool of that basis, in this many threads: `begin`
-- stopped it; or it began, this many threads ran, and it ended with their results.
abbrev pub IsOutcome : {B T O : Type 0} → (B → Result (Unit {0}) O → Type 0) → (B → ℕ → T → Type 0) → (B → List T → O → Type 0) → B → ℕ → O → Type 0
IsOutcome {T = T} Begins Reports Ends basis threads outcome =
    Begins basis (Err outcome)
    ⊎ (Begins basis (Ok tt) × ((results : List T) × EachOutput (Reports basis) threads results × Ends basis results outcome))
