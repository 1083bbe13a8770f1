use Rattle.slots.proofs.Words.{arith}
use Rattle.bb8.specs.Gets.{CancelsGet}
use Rattle.slots.proofs.Listed.{none-waits}
use Rattle.slots.proofs.runner.Runner.drop.Goals as goal

pub loop-place-preserved-in-Waiting : goal.loop-place-preserved-in-Waiting
loop-place-preserved-in-Waiting g c h = c.loop-place.invariant (rw (c.in-Some.ensures.items, c.in-Waiting.is) (c.drop.ensures, h))

pub loop-place-preserved-in-Running : goal.loop-place-preserved-in-Running
loop-place-preserved-in-Running g c h = c.loop-place.invariant (rw (c.in-Some.ensures.items, c.in-Running.is) (tt, h))

pub loop-place-preserved : goal.loop-place-preserved
loop-place-preserved g c h = c.loop-place.invariant (rw (c.in-Some.ensures.items, c.in-Ended.is) (tt, h))

pub returns : goal.returns
returns g c = (c.loop-place.invariant (none-waits CancelsGet _ (omega (arith, c.in_default.ensures.cases.0))), c.drop-2.ensures, c.drop-3.ensures)
