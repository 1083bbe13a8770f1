-- The polls of a get with its own handle.
use Rattle.std.specs.Prelude.{◌≡◌, Option, Some, None, Result, Ok, Err, ⊤}
use Rattle.std.specs.Arc.{arc_value}
use Rattle.futures.specs.declared.task.Poll.{Poll}
use Rattle.futures.specs.declared.task.Poll.TheVariants.{Ready, Pending}
use Rattle.bb8_types.specs.declared.api.errors.RunError.{RunError}
use Rattle.bb8_lock.specs.declared.gets.home.Taken.{Taken}
use Rattle.bb8_lock.specs.declared.gets.state.GetState.{GetState}
use Rattle.bb8_lock.specs.declared.gets.state.Stage.TheVariants.{Fresh}
use Rattle.bb8_lock.specs.declared.locked.Permit.{Permit}
use Rattle.bb8.specs.declared.handles.BareHandle.{BareHandle}
use Rattle.bb8.specs.declared.owned.OwnedConnection.{OwnedConnection}
use Rattle.bb8.specs.declared.owned.GetOwnedFuture.{GetOwnedFuture}
use Rattle.bb8.specs.declared.owned.OwnedStage.{OwnedStage}
use Rattle.bb8.specs.declared.owned.OwnedStage.TheVariants.{Refused, Open}
use Rattle.bb8.specs.declared.pool.Pool.{Pool}
use Rattle.bb8.specs.Handles.{IsHandleOf}
use Rattle.bb8_lock.specs.Traces.{Answers}
use Rattle.bb8_lock.specs.Scope.{OwnCancelsAndLeaves, OwnLeaves, OwnPolls}
use Rattle.bb8_lock.specs.declared.locked.Permits.{Ghosts as PermitsOf}
use Rattle.bb8_lock.specs.Words.{ManagerOf, DebugOf, SinkOf, CustomizerOf, ClockOf}

module _ {G L M S Z K R C E N V A : Type 0} {m : ManagerOf M C E N V} {d : DebugOf E} {s : SinkOf S E} {z : CustomizerOf Z C E A} {k : ClockOf K} {l : PermitsOf L} where
  -- a guard with this connection instead of its own
  abbrev pub with_connection : OwnedConnection G L M S Z K R C E N V A m d s z k l → C → OwnedConnection G L M S Z K R C E N V A m d s z k l
  with_connection guard connection = record guard { taken = record guard.taken { connection = connection } }

  -- a get with its own handle is cancelled: the get first, if it began and has not resolved, and
  -- then the handle leaves
  abbrev pub CancelsOwned : Option (OwnedStage G L M S Z K R C E N V A m d s z k l) → Type 0
  CancelsOwned None = ⊤
  CancelsOwned (Some (Refused e)) = ⊤
  CancelsOwned (Some (Open holding get)) = OwnCancelsAndLeaves (arc_value holding.shared) get.stage

  -- how a get with its own handle begins: the handle is made, or refused
  abbrev pub BeginsOwned : Pool G L M S Z K R C E N V A m d s z k l → Option (OwnedStage G L M S Z K R C E N V A m d s z k l) → Type 0
  BeginsOwned pool None = ⊥
  BeginsOwned pool (Some (Refused e)) = IsHandleOf (arc_value pool.shared) (Err e)
  BeginsOwned pool (Some (Open holding get)) = IsHandleOf (arc_value pool.shared) (Ok holding) × (get.stage ≡ Fresh)

  -- After a poll on the pool's lock: the handle moves into the guard; after an error it leaves.
  abbrev pub AfterOwned : BareHandle G L M S Z K R C E N V A m d s z k l → GetState C V (Permit L) → Poll (Result (Taken C (Permit L)) (RunError E))
      → Poll (Result (OwnedConnection G L M S Z K R C E N V A m d s z k l) (RunError E)) → Option (OwnedStage G L M S Z K R C E N V A m d s z k l) → Type 0
  AfterOwned holding get Pending r after = (r ≡ Pending) × (after ≡ Some (Open holding get))
  AfterOwned holding get (Ready (Err e)) r after = (r ≡ Ready (Err e)) × (after ≡ None) × OwnLeaves (arc_value holding.shared)
  AfterOwned holding get (Ready (Ok taken)) r after = (r ≡ Ready (Ok (record { holding = holding; taken = taken }))) × (after ≡ None)

  -- a poll of the get: its stage before it, its result, and its stage after it
  abbrev pub OwnedPolls : Option (OwnedStage G L M S Z K R C E N V A m d s z k l) → Poll (Result (OwnedConnection G L M S Z K R C E N V A m d s z k l) (RunError E))
      → Option (OwnedStage G L M S Z K R C E N V A m d s z k l) → Type 0
  OwnedPolls None r after = (r ≡ Pending) × (after ≡ None)
  OwnedPolls (Some (Refused e)) r after = (r ≡ Ready (Err e)) × (after ≡ None)
  OwnedPolls (Some (Open holding get)) r after =
      (given : Poll (Result (Taken C (Permit L)) (RunError E))) × (polled : GetState C V (Permit L))
      × OwnPolls (arc_value holding.shared) get.stage given polled.stage
      × AfterOwned holding polled given r after

  -- as `OwnedPolls`, of the future
  abbrev pub PollsOwned : GetOwnedFuture G L M S Z K R C E N V A m d s z k l → Poll (Result (OwnedConnection G L M S Z K R C E N V A m d s z k l) (RunError E))
      → GetOwnedFuture G L M S Z K R C E N V A m d s z k l → Type 0
  PollsOwned future r after = OwnedPolls future.stage r after.stage

  -- the final results that the get may have
  abbrev pub GivesOwned : GetOwnedFuture G L M S Z K R C E N V A m d s z k l → Result (OwnedConnection G L M S Z K R C E N V A m d s z k l) (RunError E) → Type 0
  GivesOwned future out = Answers OwnedPolls future.stage out
