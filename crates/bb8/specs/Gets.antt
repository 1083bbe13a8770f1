-- What callers see of a get: its polls, and its final result.
use Rattle.std.specs.Prelude.{◌≡◌, Result}
use Rattle.futures.specs.declared.task.Poll.{Poll}
use Rattle.bb8_types.specs.declared.api.errors.RunError.{RunError}
use Rattle.bb8.specs.declared.get.future.GetFuture.{GetFuture}
use Rattle.bb8_lock.specs.declared.gets.home.Taken.{Taken}
use Rattle.bb8_lock.specs.declared.locked.Permit.{Permit}
use Rattle.bb8_lock.specs.declared.shared.Shared.{Shared}
use Rattle.bb8.specs.declared.pool.PooledConnection.{PooledConnection}
use Rattle.bb8_lock.specs.Scope.{OwnPolls, OwnGives, OwnCancels, MakesGuard, MakesPoll}
use Rattle.bb8_lock.specs.declared.locked.Permits.{Ghosts as PermitsOf}
use Rattle.bb8_lock.specs.Words.{ManagerOf, DebugOf, SinkOf, CustomizerOf, ClockOf}
use Rattle.bb8.specs.Pools.{stage_of}

module _ {G L M S Z K R C E N V A : Type 0} {m : ManagerOf M C E N V} {d : DebugOf E} {s : SinkOf S E} {z : CustomizerOf Z C E A} {k : ClockOf K} {l : PermitsOf L} where
  -- the guard belongs to that pool, and has the served connection and its permit
  abbrev pub Guards : Shared G L M S Z K R C E N V A m d s z k l → Taken C (Permit L) → PooledConnection G L M S Z K R C E N V A m d s z k l → Type 0
  Guards shared served guard = (guard.shared.now ≡ shared) × (guard.taken ≡ served)

  -- a poll of the get: its stage before it, its result, and its stage after it
  abbrev pub PollsGet : GetFuture G L M S Z K R C E N V A m d s z k l → Poll (Result (PooledConnection G L M S Z K R C E N V A m d s z k l) (RunError E))
      → GetFuture G L M S Z K R C E N V A m d s z k l → Type 0
  PollsGet future answer after =
      (given : Poll (Result (Taken C (Permit L)) (RunError E)))
      × OwnPolls future.shared.now (stage_of future) given (stage_of after)
      × MakesPoll (Guards future.shared.now) given answer

  -- the final results that the get may have
  abbrev pub GivesAtLast : GetFuture G L M S Z K R C E N V A m d s z k l → Result (PooledConnection G L M S Z K R C E N V A m d s z k l) (RunError E) → Type 0
  GivesAtLast future out =
      (given : Result (Taken C (Permit L)) (RunError E))
      × OwnGives future.shared.now (stage_of future) given
      × MakesGuard (Guards future.shared.now) given out

  -- the get is cancelled, if it began and has not resolved
  abbrev pub CancelsGet : GetFuture G L M S Z K R C E N V A m d s z k l → Type 0
  CancelsGet future = OwnCancels future.shared.now (stage_of future)
