-- The results of a home's steps, as results of the ledger.
use Rattle.bb8_core.specs.declared.answers.TryAnswer.{TryAnswer}
use Rattle.bb8_core.specs.declared.answers.TryAnswer.TheVariants as tries
use Rattle.bb8_ledger.specs.Answers.{Answer}
use Rattle.bb8_core.specs.StepAnswers.{answer_of_try}
use Rattle.bb8_lock.specs.declared.gets.home.Tried.{Tried}
use Rattle.bb8_lock.specs.declared.gets.home.Tried.TheVariants as tried

module _ {C P : Type 0} where
  -- the result of a try without the permit
  abbrev pub in_core : Tried C P → TryAnswer C
  in_core (tried.Served taken grant) = tries.Served taken.key taken.connection grant
  in_core (tried.Taken taken grant) = tries.Taken taken.key taken.connection grant
  in_core (tried.Waiting grant) = tries.Waiting grant

  -- the result of a try, with plain numbers
  abbrev pub answer_of_tried : Tried C P → Answer
  answer_of_tried t = answer_of_try (in_core t)
