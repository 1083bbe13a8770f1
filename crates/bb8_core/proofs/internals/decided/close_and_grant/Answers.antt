use Rattle.std.proofs.Common.{arith}
use Rattle.bb8_types.specs.Settings.{settings_of}
use Rattle.bb8_core.proofs.Fitting.{due_within}
use Rattle.bb8_core.proofs.internals.decided.close_and_grant.Goals as goal

pub grant-requires : goal.grant-requires
grant-requires g c = omega (arith, due_within (settings_of c.args.config.now) c.args.handles _ (omega (arith, c.requires.size)) c.close.ensures.state c.want-wanted.ensures, c.requires.few)
