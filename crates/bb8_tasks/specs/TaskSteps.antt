-- The steps that tasks, a driver's claims and its reaper make on their home, with their arguments
-- and results.
use Rattle.bb8_tables.specs.declared.keys.Key.{Key}
use Rattle.bb8_core.specs.declared.answers.ClaimAnswer.{ClaimAnswer}
use Rattle.bb8_core.specs.declared.answers.Looked.{Looked}
use Rattle.std.specs.Prelude.{Result}
use Rattle.bb8_core.specs.declared.answers.Unfit.{Unfit}
use Rattle.bb8_core.specs.declared.answers.FailedAnswer.{FailedAnswer}
use Rattle.bb8_core.specs.declared.answers.OpenedAnswer.{OpenedAnswer}
use Rattle.bb8_core.specs.declared.answers.ReapAnswer.{ReapAnswer}
use Rattle.bb8_types.specs.declared.grants.Grant.{Grant}

-- Each step: the approval, the connection passed in, and the result.
pub data TaskStep (C : Type 0) : Type 0 where
  Looks : Looked → TaskStep C
  Opens : Key → C → Result (OpenedAnswer C) C → TaskStep C
  Fails : Key → Result FailedAnswer Unfit → TaskStep C
  Claims : ClaimAnswer → TaskStep C
  Reaps : ReapAnswer → TaskStep C
  Asks : Grant → TaskStep C
