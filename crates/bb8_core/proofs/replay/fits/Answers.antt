use Rattle.std.proofs.Common.{sym, ◌∙◌}
use Rattle.bb8_core.specs.Run.{as_named}
use Rattle.bb8_core.proofs.replay.fits.Goals as goal

pub returns-clause-fits : goal.returns-clause-fits
returns-clause-fits g c = λ conn l legal means. c.fits_act.ensures l legal means ∙ sym (as_named conn l c.args.event.act)
