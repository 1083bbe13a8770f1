-- The rows compute: their configurations are lawful, their results are allowed, and their last states
-- have these statistics.
use Rattle.std.proofs.Common.{refl, arith}
use Rattle.bb8_ledger.specs.WorkedRows.{worked_rows}
use Rattle.bb8_ledger.proofs.Evaluated.{by_evaluation, waits_by_evaluation}
use Rattle.bb8_ledger.proofs.rows.worked_rows.Goals as goal

pub returns : goal.returns
returns c = record {
  rows = by_evaluation worked_rows refl refl;
  order = grind arith;
  asked_for_all = grind arith;
  waits_of_one_second = waits_by_evaluation refl refl;
  waits_of_thirty_seconds = waits_by_evaluation refl refl;
  waits_of_a_tenth_second = waits_by_evaluation refl refl;
}
