use Rattle.bb8_lock.proofs.locked.LockedEnds.is_over.Goals as goal
use Rattle.bb8_lock.proofs.CriticalSections.{none_left}

pub returns : goal.returns
returns g c = none_left _ _ c.limits.ensures.ledger.0 c.fits_leave.ensures
