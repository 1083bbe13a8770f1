-- The steps of tasks and of a reaper, with their results, as events of the ledger.
use Rattle.bb8_tasks.specs.Words.{Moment}
use Rattle.bb8_ledger.specs.Acts as acts
use Rattle.bb8_ledger.specs.Answers.{Granted}
use Rattle.bb8_core.specs.Unfit.{OrComesBack, Stepped}
use Rattle.bb8_core.specs.StateView.{StateView, Steps}
use Rattle.bb8_core.specs.StepAnswers.{answer_of_claim, answer_of_failed, answer_of_look, answer_of_opened, answer_of_reap, HandsBack}
use Rattle.bb8_tasks.specs.TaskSteps.{TaskStep, Looks, Opens, Fails, Claims, Reaps, Asks}

module _ {C : Type 0} where
  -- a step on the state of a pool: its event and its result, and which connection is returned; a
  -- step that does not fit changes only the access counter
  abbrev pub TaskStepsBy : StateView C → Moment → TaskStep C → StateView C → Type 0
  TaskStepsBy s at (Looks seen) s' = Steps s at.0 acts.Look (answer_of_look seen) s'
  TaskStepsBy s at (Opens a c step) s' = Stepped Steps (answer_of_opened a.number) s at.0 (acts.Opened a.number c) step s' × OrComesBack HandsBack c step
  TaskStepsBy s at (Fails a step) s' = Stepped Steps answer_of_failed s at.0 (acts.Failed a.number) step s'
  TaskStepsBy s at (Claims answer) s' = Steps s at.0 acts.Claim (answer_of_claim answer) s'
  TaskStepsBy s at (Reaps step) s' = Steps s at.0 acts.Reap (answer_of_reap step) s'
  TaskStepsBy s at (Asks grant) s' = Steps s at.0 acts.Ask (Granted grant) s'
