use Rattle.bb8_core.proofs.Words.{Close}
use Rattle.bb8_core.proofs.Runs.{unfit_step}
use Rattle.bb8_core.proofs.internals.PoolInternals.close.Goals as goal

pub returns-then-not-fits_close-clause-step : goal.returns-then-not-fits_close-clause-step
returns-then-not-fits_close-clause-step g c = unfit_step c.args.at.0 Close c.self.view_is c.self.invariant.0 c.if-not-fits_close.ensures
