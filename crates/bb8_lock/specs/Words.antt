-- Names that the definitions use (*words-file*).
pub use Rattle.futures.specs.declared.task.Poll.{Poll}
pub use Rattle.futures.specs.declared.task.Poll.TheVariants.{Ready, Pending}
pub use Rattle.bb8_types.specs.declared.api.errors.AddError.{AddError}
pub use Rattle.bb8_types.specs.declared.api.errors.RunError.{RunError}
pub use Rattle.bb8_types.specs.declared.api.figures.State.{State}
pub use Rattle.bb8_types.specs.declared.api.moments.Moment.{Moment}
pub use Rattle.bb8_core.specs.declared.answers.AddAnswer.{AddAnswer}
pub use Rattle.bb8_lock.specs.declared.gets.home.GetHome.{Ghosts as HomeOf}
pub use Rattle.bb8_lock.specs.declared.gets.home.Taken.{Taken}
pub use Rattle.bb8_lock.specs.declared.gets.outside.Outside.{Ghosts as OutsideOf}
pub use Rattle.bb8_lock.specs.declared.gets.state.Settled.{Settled}
pub use Rattle.bb8_lock.specs.declared.gets.state.Stage.{Stage}
pub use Rattle.bb8_lock.specs.Polls.{Asks, Cancels, Starts, GetPolls}
pub use Rattle.bb8_lock.specs.declared.gets.home.Joining.{Joining}
pub use Rattle.std.specs.declared.sync.MutexGuard.{MutexGuard}
pub use Rattle.std.specs.declared.fmt.Debug.{Ghosts as DebugOf}
pub use Rattle.bb8_types.specs.declared.api.managers.ManageConnection.{Ghosts as ManagerOf}
pub use Rattle.bb8_types.specs.Settings.{settings_of, Settings}
pub use Rattle.bb8_core.specs.StepAnswers.{answer_of_add, answer_of_begin, answer_of_checked_err, answer_of_give_up, answer_of_leave, answer_of_look, answer_of_put_back, reason_of, GivesBack, Refuses, answer_of_claim}
pub use Rattle.bb8_lock.specs.declared.locked.Locked.{Locked}
pub use Rattle.bb8_lock.specs.declared.locked.Permit.{Permit}
pub use Rattle.bb8_lock.specs.declared.locked.Permits.{Ghosts as PermitsOf}
pub use Rattle.bb8_lock.specs.declared.scope.LockScope.{LockScope}
pub use Rattle.bb8_lock.specs.declared.shared.Shared.{Shared}
pub use Rattle.bb8_lock.specs.Outcomes.{in_core, answer_of_tried}
pub use Rattle.std.specs.Duration.{as_nanos}
pub use Rattle.bb8_types.specs.declared.api.clocks.Clock.{Ghosts as ClockOf}
pub use Rattle.bb8_types.specs.declared.api.sinks.ErrorSink.{Ghosts as SinkOf}
pub use Rattle.bb8_types.specs.declared.api.customizers.CustomizeConnection.{Ghosts as CustomizerOf}
pub use Rattle.bb8_tasks.specs.declared.opener.Opener.{Ghosts as OpenerOf}
pub use Rattle.bb8_types.specs.declared.grants.Grant.{Grant}
pub use Rattle.bb8_ledger.specs.Answers.{Answer}
