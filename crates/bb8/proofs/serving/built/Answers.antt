use Rattle.bb8.proofs.Built.{answered}
use Rattle.bb8.proofs.serving.built.Goals as goal

pub returns-clause-made : goal.returns-clause-made
returns-clause-made g c =
    (answered c.args.builder c.args.manager c.args.clock c.build-building.result.stage _ c.build-building.ensures c.wait.ensures.gives).0

pub returns-clause-failed : goal.returns-clause-failed
returns-clause-failed g c =
    (answered c.args.builder c.args.manager c.args.clock c.build-building.result.stage _ c.build-building.ensures c.wait.ensures.gives).1
