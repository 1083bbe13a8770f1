use Rattle.bb8_core.proofs.Words.{Add, None, refl, Unfit, arith, nat_tests}
use Rattle.bb8_core.specs.StepAnswers.{answer_of_add}
use Rattle.bb8_core.proofs.HandedOver.{fits_told, hands_over, stays_prompt}
use Rattle.bb8_core.proofs.handing.add.Goals as goal

pub try_of-tried-requires : goal.try_of-tried-requires
try_of-tried-requires g c = fits_told c.args.at.0 (Add c.args.conn c.args.broken) (answer_of_add c.in-Ok.outcome) c.notified.result c.in-Ok.ensures.step.0 c.notified.ensures

pub returns-in-Ok-clause-step : goal.returns-in-Ok-clause-step
returns-in-Ok-clause-step g c = grind (arith, nat_tests, hands_over)

pub returns-in-Ok-clause-order : goal.returns-in-Ok-clause-order
returns-in-Ok-clause-order g c = stays_prompt _ _ c.try_of-tried.result c.args.at.0 _ _ (returns-in-Ok-clause-step g c).0

pub returns-in-Err-clause-order : goal.returns-in-Err-clause-order
returns-in-Err-clause-order g c = stays_prompt _ _ None c.args.at.0 (Add c.args.conn c.args.broken) Unfit (c.in-Err.ensures.step.0, refl)

pub returns-in-Ok-clause-bounds : goal.returns-in-Ok-clause-bounds
returns-in-Ok-clause-bounds g c = (_, c.in-Ok.ensures.bounds, c.try_of-tried.ensures.few)
