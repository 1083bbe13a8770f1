-- What callers see of an attempt to open a connection that the pool does not count.
use Rattle.std.specs.Prelude.{Result}
use Rattle.futures.specs.declared.task.Poll.{Poll}
use Rattle.bb8_tasks.specs.declared.dedicated.Dedicated.{Dedicated}
use Rattle.bb8.specs.declared.dedicated.DedicatedFuture.{DedicatedFuture}
use Rattle.bb8_lock.specs.Traces.{Answers}
use Rattle.bb8_lock.specs.Opening.{OwnDedicates, OwnDropsAttempt}
use Rattle.bb8_lock.specs.declared.locked.Permits.{Ghosts as PermitsOf}
use Rattle.bb8_lock.specs.Words.{ManagerOf, DebugOf, SinkOf, CustomizerOf, ClockOf}

module _ {G L M S Z K R C E N V A : Type 0} {m : ManagerOf M C E N V} {d : DebugOf E} {s : SinkOf S E} {z : CustomizerOf Z C E A} {k : ClockOf K} {l : PermitsOf L} where
  -- the attempt of a future
  abbrev pub opening_of : DedicatedFuture G L M S Z K R C E N V A m d s z k l → Dedicated C N A
  opening_of future = record { latest = future.latest; stage = future.stage }

  -- a poll: the attempt before it, its result, and the attempt after it
  abbrev pub PollsDedicated : DedicatedFuture G L M S Z K R C E N V A m d s z k l → Poll (Result C E) → DedicatedFuture G L M S Z K R C E N V A m d s z k l → Type 0
  PollsDedicated future answer after = OwnDedicates future.shared.now (opening_of future) answer (opening_of after)

  -- the final results that the attempt may have
  abbrev pub GivesDedicated : DedicatedFuture G L M S Z K R C E N V A m d s z k l → Result C E → Type 0
  GivesDedicated future out = Answers (OwnDedicates future.shared.now) (opening_of future) out

  -- the attempt is cancelled
  abbrev pub CancelsDedicated : DedicatedFuture G L M S Z K R C E N V A m d s z k l → Type 0
  CancelsDedicated future = OwnDropsAttempt future.shared.now (opening_of future)
