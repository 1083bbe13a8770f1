use Rattle.bb8_lock.proofs.Words.{refl}
use Rattle.bb8_ledger.specs.Acts.{Close}
use Rattle.bb8_core.proofs.Runs.{unfit_step}
use Rattle.bb8_lock.proofs.home.LockedGetHome.close.Goals as goal

pub returns-then-not-fits_close : goal.returns-then-not-fits_close
returns-then-not-fits_close g c =
    let core = c.args.self.now.core in
    let unfit = unfit_step {s = core} {t = core} {reads = core.reads} c.args.at.0 Close refl c.limits.ensures.ledger.0 c.if-not-fits_close.ensures in
    (c.args.self.now.settled, (unfit, tt, refl))
