use Rattle.bb8_runner.proofs.Speech.{rules, tests, map_from_collect, YieldsList-from_slice_split}
use Rattle.bb8_runner.proofs.lines.pieces_of.Goals as goal

pub returns : goal.returns
returns c = map_from_collect _ c.collect.ensures.ran
    (YieldsList-from_slice_split _ _ c.args.input.now c.split.ensures.rest c.split.ensures.done c.split.ensures.closure
    (λ x r q k. search (rules, tests)))
