-- Names that the definitions use (*words-file*).
pub use Rattle.bb8_types.specs.declared.api.moments.Moment.{Moment}
pub use Rattle.bb8_types.specs.Bounds.{last_moment}
pub use Rattle.bb8_ledger.specs.Waits.{waits, IsMostWaits, wait}
pub use Rattle.bb8_tasks.specs.declared.backoff.Reply.{Reply}
pub use Rattle.futures.specs.declared.task.Poll.{Poll}
pub use Rattle.futures.specs.declared.task.Poll.TheVariants.{Ready, Pending}
pub use Rattle.bb8_tasks.specs.declared.rounds.Round.{Round}
pub use Rattle.std.specs.Bool.{MatchBool}
pub use Rattle.bb8_tasks.specs.declared.opener.Opener.{Ghosts as OpenerOf}
pub use Rattle.bb8_ledger.specs.Answers.{Answer}
pub use Rattle.bb8_core.specs.declared.answers.FailedAnswer.{FailedAnswer}
pub use Rattle.bb8_core.specs.declared.answers.OpenedAnswer.{OpenedAnswer}
pub use Rattle.bb8_core.specs.declared.answers.Unfit.{Unfit}
pub use Rattle.bb8_tasks.specs.declared.home.Home.{Ghosts as HomeOf}
pub use Rattle.bb8_tasks.specs.declared.replenish.Replenish.{Replenish}
pub use Rattle.bb8_tasks.specs.declared.replenish.ReplenishAnswer.{ReplenishAnswer}
pub use Rattle.bb8_core.specs.declared.answers.ReapAnswer.{ReapAnswer}
pub use Rattle.std.specs.Duration.{as_nanos}
pub use Rattle.bb8_core.specs.declared.answers.Looked.{Looked}
pub use Rattle.bb8_tasks.specs.declared.reaper.Reaper.{Reaper}
pub use Rattle.bb8_tasks.specs.declared.reaper.ReaperAnswer.{ReaperAnswer}
pub use Rattle.bb8_tasks.specs.declared.ticks.Ticks.{Ticks}
pub use Rattle.bb8_tables.specs.declared.keys.Key.{Key}
pub use Rattle.bb8_tasks.specs.declared.replenish.ReplenishAnswer.TheVariants.{Retrying, Failed}
