use Rattle.bb8_core.proofs.Words.{Leave}
use Rattle.bb8_core.proofs.Runs.{unfit_step}
use Rattle.bb8_core.proofs.internals.PoolInternals.leave.Goals as goal

pub returns-then-not-fits_leave-clause-step : goal.returns-then-not-fits_leave-clause-step
returns-then-not-fits_leave-clause-step g c = unfit_step c.args.at.0 Leave c.self.view_is c.self.invariant.0 c.if-not-fits_leave.ensures
