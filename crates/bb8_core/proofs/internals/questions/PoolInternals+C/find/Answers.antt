use Rattle.bb8_core.specs.Pool.{view_of}
use Rattle.bb8_core.proofs.Runs.{found, absent}
use Rattle.bb8_core.proofs.internals.questions.PoolInternals+C.find.Goals as goal

pub returns-clause-some : goal.returns-clause-some
returns-clause-some g c = found (view_of c.self.inside) c.args.self.now c.args.number c.find-found.result c.self.view_is c.find-found.ensures.some

pub returns-clause-none : goal.returns-clause-none
returns-clause-none g c = absent (view_of c.self.inside) c.args.self.now c.args.number c.find-found.result c.self.view_is c.find-found.ensures.none
