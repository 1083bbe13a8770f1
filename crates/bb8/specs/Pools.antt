-- What callers see of a pool.
use Rattle.std.specs.Prelude.{◌≡◌}
use Rattle.std.specs.Arc.{arc_value}
use Rattle.bb8_types.specs.declared.api.moments.Moment.{Moment}
use Rattle.bb8_types.specs.Settings.{Settings, settings_of}
use Rattle.bb8.specs.declared.pool.Pool.{Pool}
use Rattle.bb8.specs.declared.get.future.GetFuture.{GetFuture}
use Rattle.bb8_lock.specs.declared.gets.state.Stage.{Stage}
use Rattle.bb8_lock.specs.declared.locked.Permit.{Permit}
use Rattle.bb8_lock.specs.declared.locked.Permits.{Ghosts as PermitsOf}
use Rattle.bb8_lock.specs.Words.{ManagerOf, DebugOf, SinkOf, CustomizerOf, ClockOf}

module _ {G L M S Z K R C E N V A : Type 0} {m : ManagerOf M C E N V} {d : DebugOf E} {s : SinkOf S E} {z : CustomizerOf Z C E A} {k : ClockOf K} {l : PermitsOf L} where
  -- the settings of a pool
  abbrev pub settings_in : Pool G L M S Z K R C E N V A m d s z k l → Settings
  settings_in pool = settings_of (arc_value pool.shared).config

  -- the manager of a pool
  abbrev pub manager_in : Pool G L M S Z K R C E N V A m d s z k l → M
  manager_in pool = (arc_value pool.shared).manager

  -- the stage of a get between its polls
  abbrev pub stage_of : GetFuture G L M S Z K R C E N V A m d s z k l → Stage C V (Permit L)
  stage_of future = future.get.stage

  -- the error sink of a pool
  abbrev pub sink_in : Pool G L M S Z K R C E N V A m d s z k l → S
  sink_in pool = (arc_value pool.shared).error_sink

  -- the customizer of a pool
  abbrev pub customizer_in : Pool G L M S Z K R C E N V A m d s z k l → Z
  customizer_in pool = (arc_value pool.shared).customizer

  -- the clock of a pool
  abbrev pub clock_in : Pool G L M S Z K R C E N V A m d s z k l → K
  clock_in pool = (arc_value pool.shared).clock

  -- the clock's moment at which a pool was made
  abbrev pub made_in : Pool G L M S Z K R C E N V A m d s z k l → Moment
  made_in pool = (arc_value pool.shared).made

  -- the get belongs to that pool
  abbrev pub IsOf : GetFuture G L M S Z K R C E N V A m d s z k l → Pool G L M S Z K R C E N V A m d s z k l → Type 0
  IsOf future pool = future.shared.now ≡ arc_value pool.shared
