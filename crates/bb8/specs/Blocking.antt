-- What callers see of a get that blocks its thread, and of one that is served at once or not at
-- all.
use Rattle.std.specs.Prelude.{◌≡◌, ℕ, Option, Some, None, Result, Ok, Err, ⊤}
use Rattle.std.specs.Arc.{arc_value}
use Rattle.bb8_types.specs.declared.api.errors.RunError.{RunError}
use Rattle.bb8_types.specs.Settings.{settings_of}
use Rattle.bb8_lock.specs.declared.gets.home.Taken.{Taken}
use Rattle.bb8_lock.specs.declared.locked.Permit.{Permit}
use Rattle.bb8_lock.specs.Scope.{MakesGuard, OwnLeaves, OwnTakesNow, OwnWaits}
use Rattle.bb8_lock.specs.declared.locked.Permits.{Ghosts as PermitsOf}
use Rattle.bb8_lock.specs.Words.{ManagerOf, DebugOf, SinkOf, CustomizerOf, ClockOf}
use Rattle.bb8.specs.declared.handles.BareHandle.{BareHandle}
use Rattle.bb8.specs.declared.owned.OwnedConnection.{OwnedConnection}
use Rattle.bb8.specs.declared.pool.Pool.{Pool}
use Rattle.bb8.specs.declared.pool.PooledConnection.{PooledConnection}
use Rattle.bb8.specs.Gets.{Guards}
use Rattle.bb8.specs.Handles.{IsHandleOf}

-- a guard is made of a taken connection, if there is one
abbrev pub MakesSome : {A B : Type 0} → (A → B → Type 0) → Option A → Option B → Type 0
MakesSome Makes (Some a) (Some b) = Makes a b
MakesSome Makes None None = ⊤
MakesSome Makes (Some a) None = ⊥
MakesSome Makes None (Some b) = ⊥

module _ {G L M S Z K R C E N V A : Type 0} {m : ManagerOf M C E N V} {d : DebugOf E} {s : SinkOf S E} {z : CustomizerOf Z C E A} {k : ClockOf K} {l : PermitsOf L} where
  -- a thread blocked on a get with this timeout: a new get was polled until it resolved
  abbrev pub WaitsForGet : ℕ → Pool G L M S Z K R C E N V A m d s z k l → Result (PooledConnection G L M S Z K R C E N V A m d s z k l) (RunError E) → Type 0
  WaitsForGet timeout pool out =
      (given : Result (Taken C (Permit L)) (RunError E)) × OwnWaits (arc_value pool.shared) timeout given
      × MakesGuard (Guards (arc_value pool.shared)) given out

  -- a get was served at once, or there was none
  abbrev pub GetsAtOnce : Pool G L M S Z K R C E N V A m d s z k l → Result (Option (PooledConnection G L M S Z K R C E N V A m d s z k l)) (RunError E) → Type 0
  GetsAtOnce pool out =
      (given : Result (Option (Taken C (Permit L))) (RunError E)) × OwnTakesNow (arc_value pool.shared) given
      × MakesGuard (MakesSome (Guards (arc_value pool.shared))) given out

  -- the result for a get with its own handle: the handle moves into the guard; after an error it
  -- leaves
  abbrev pub EndsOwned : BareHandle G L M S Z K R C E N V A m d s z k l → Result (Taken C (Permit L)) (RunError E) → Result (OwnedConnection G L M S Z K R C E N V A m d s z k l) (RunError E) → Type 0
  EndsOwned holding (Ok taken) out = out ≡ Ok (record { holding = holding; taken = taken })
  EndsOwned holding (Err e) out = (out ≡ Err e) × OwnLeaves (arc_value holding.shared)

  -- a thread blocked on a get with its own handle, which was made first, or refused
  abbrev pub WaitsHolding : Result (BareHandle G L M S Z K R C E N V A m d s z k l) (RunError E) → Result (OwnedConnection G L M S Z K R C E N V A m d s z k l) (RunError E) → Type 0
  WaitsHolding (Err e) out = out ≡ Err e
  WaitsHolding (Ok holding) out =
      (given : Result (Taken C (Permit L)) (RunError E))
      × OwnWaits (arc_value holding.shared) (settings_of (arc_value holding.shared).config).connection_timeout given
      × EndsOwned holding given out

  abbrev pub WaitsForOwned : Pool G L M S Z K R C E N V A m d s z k l → Result (OwnedConnection G L M S Z K R C E N V A m d s z k l) (RunError E) → Type 0
  WaitsForOwned pool out =
      (joined : Result (BareHandle G L M S Z K R C E N V A m d s z k l) (RunError E)) × IsHandleOf (arc_value pool.shared) joined
      × WaitsHolding joined out
