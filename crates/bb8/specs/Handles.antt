-- How a pool's handle joins.
use Rattle.std.specs.Prelude.{◌≡◌, Result, Ok, Err, ⊤}
use Rattle.std.specs.Arc.{arc_value}
use Rattle.bb8_types.specs.declared.api.errors.RunError.{RunError}
use Rattle.bb8_types.specs.declared.api.errors.RunError.TheVariants as errors
use Rattle.bb8_lock.specs.declared.gets.home.Joining.{Joining}
use Rattle.bb8_lock.specs.declared.gets.home.Joining.TheVariants as joining
use Rattle.bb8_lock.specs.Scope.{OwnJoins}
use Rattle.bb8_lock.specs.declared.handle.Handle.{Handle}
use Rattle.bb8.specs.declared.handles.BareHandle.{BareHandle}
use Rattle.bb8.specs.declared.pool.Pool.{Pool}
use Rattle.bb8_lock.specs.declared.shared.Shared.{Shared}
use Rattle.bb8_lock.specs.declared.locked.Permits.{Ghosts as PermitsOf}
use Rattle.bb8_lock.specs.Words.{ManagerOf, DebugOf, SinkOf, CustomizerOf, ClockOf}

module _ {G L M S Z K R C E N V A : Type 0} {m : ManagerOf M C E N V} {d : DebugOf E} {s : SinkOf S E} {z : CustomizerOf Z C E A} {k : ClockOf K} {l : PermitsOf L} where
  -- The result of a join: the new handle belongs to the same pool. If the greatest number of
  -- handles is alive, or none, it is refused.
  abbrev pub IsJoinedHandle : Shared G L M S Z K R C E N V A m d s z k l → Joining Handle → Result (BareHandle G L M S Z K R C E N V A m d s z k l) (RunError E) → Type 0
  IsJoinedHandle shared (joining.Joined handle) (Ok holding) = arc_value holding.shared ≡ shared
  IsJoinedHandle shared joining.Exhausted (Err errors.Exhausted) = ⊤
  IsJoinedHandle shared joining.Unfit (Err errors.Exhausted) = ⊤
  IsJoinedHandle shared _ _ = ⊥

  -- The making of one more handle: at a clock reading some state with the pool's settings counts or
  -- refuses it, and the caller gets that result. Nothing is said of a refusal of memory.
  abbrev pub IsHandleOf : Shared G L M S Z K R C E N V A m d s z k l → Result (BareHandle G L M S Z K R C E N V A m d s z k l) (RunError E) → Type 0
  IsHandleOf shared (Err errors.Memory) = ⊤
  IsHandleOf shared result =
      (answer : Joining Handle) × OwnJoins shared answer × IsJoinedHandle shared answer result

  -- the making of one more handle, as the caller sees it
  abbrev pub IsClone : Pool G L M S Z K R C E N V A m d s z k l → Result (Pool G L M S Z K R C E N V A m d s z k l) (RunError E) → Type 0
  IsClone pool (Ok clone) = IsHandleOf (arc_value pool.shared) (Ok (record { shared = clone.shared; handle = clone.handle }))
  IsClone pool (Err e) = IsHandleOf (arc_value pool.shared) (Err e)
