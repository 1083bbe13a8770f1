-- The words that the proofs speak with.
pub use Rattle.bb8_ledger.proofs.Words.{◌≡◌, arith, subst, refl, ◌<◌, ◌≤◌, sym, ℕ, ◌∷◌, List, [], ◌+◌, ◌-◌, Some, false, ap, ◌*◌, None, inr, inl, Option, ◌∙◌, Bool, length, ◌++◌, suc, true, min, ◌⊎◌, max, take, map, IsMostWaits, zero, fits}
pub use Rattle.std.proofs.Common.{◌^◌, ◌/◌, append_assoc, Ok, Result, ◌%◌, lit<, add-one, get_or, IfOk, rules}
pub use Rattle.std.proofs.Math.Nat.{pow-le-pow_right, one-le-pow, min-eq_left}
pub use Rattle.std.proofs.lemmas.Bool.{cases_lt}
pub use Rattle.std.proofs.lemmas.List.{map-append, append-nil, take_all, take_more}
pub use Rattle.std.specs.Duration.{as_nanos}
pub use Rattle.std.specs.VecDeque.{deque_len, deque_capacity}
pub use Rattle.bb8_types.specs.declared.api.moments.Moment.{Moment}
pub use Rattle.bb8_tables.specs.declared.keys.Key.{Key}
pub use Rattle.bb8_ledger.specs.Waits.{wait, waits}
pub use Rattle.bb8_tasks.specs.Bounded.{IsBounded, IsReached, IsPolledAt, IsDriven, IsFrom, EachFails, NeverFalls}
pub use Rattle.bb8_tasks.specs.Played.{Task, Runs, Plays, first_task, Polled, scripted, steady, outcome}
pub use Rattle.bb8_tasks.specs.Replenishing.{failed_once_more, IsDue, AfterTaskAcquire, TaskProceeds, TaskPolls, TaskBegins, AfterTaskConnect, fresh, TaskAdvances, Wakes, is_done, LetsGo}
pub use Rattle.bb8_tasks.specs.Sweeping.{PollsUntil, QueueTurns, AreFor, LetsGoEach}
pub use Rattle.bb8_tasks.specs.declared.backoff.Reply.{Reply}
pub use Rattle.bb8_tasks.specs.declared.replenish.ReplenishStep.{ReplenishStep}
pub use Rattle.bb8_tasks.specs.declared.replenish.Replenish.{Replenish}
pub use Rattle.bb8_tasks.specs.declared.replenish.ReplenishAnswer.{ReplenishAnswer}
pub use Rattle.bb8_tasks.specs.declared.replenish.ReplenishAnswer.TheVariants.{Pending, GivenBack, Retrying, Failed}
pub use Rattle.bb8_tasks.specs.declared.replenish.ReplenishStage.{ReplenishStage}
pub use Rattle.bb8_tasks.specs.declared.replenish.ReplenishStage.TheVariants.{Done, Sleeping, Start, Acquiring, Connecting}
pub use Rattle.bb8_tasks.specs.declared.replenish.Tries.{Tries}
pub use Rattle.bb8_tasks.specs.declared.rounds.OnFailure.TheVariants.{GoOn}
pub use Rattle.futures.specs.declared.task.Poll.{Poll}
