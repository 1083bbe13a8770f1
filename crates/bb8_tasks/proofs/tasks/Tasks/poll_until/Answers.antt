use Rattle.std.proofs.Common.{arith}
use Rattle.bb8_tasks.proofs.Sweeps.{Midway-first, Midway-step, Midway-over}
use Rattle.bb8_tasks.proofs.tasks.Tasks.poll_until.Goals as goal

pub loop-init : goal.loop-init
loop-init g c = Midway-first _ _ _ _ _ _ c.len-count.ensures

pub loop-preserved : goal.loop-preserved
loop-preserved g c = Midway-step _ _ _ _ _ _ _ _ _ _ _ _ _ (omega arith) c.loop.invariant c.turn-stopped.ensures

pub returns : goal.returns
returns g c = Midway-over _ _ _ _ _ _ _ _ _ (omega arith) c.loop.invariant
