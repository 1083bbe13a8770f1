use Rattle.bb8_lock.proofs.Words.{EndsAt}
use Rattle.bb8_lock.proofs.waits.wait.Goals as goal

pub loop-init : goal.loop-init
loop-init g c = λ x last answers. rw c.new-get.ensures at answers

pub returns-in-Ready : goal.returns-in-Ready
returns-in-Ready g c =
    (_, c.loop.invariant _ _ (EndsAt.now _ _ _ (c.signals-signals.result, _, c.signals-signals.ensures, (_, c.in-Ready.ensures, c.cancel_step.ensures))))

pub loop-preserved : goal.loop-preserved
loop-preserved g c = λ x last more.
    c.loop.invariant x last
    (EndsAt.later _ _ _ _
    (c.signals-signals.result, _, c.signals-signals.ensures, (_, c.in-Pending.ensures, (_, c.release.ensures, (c.now-now.result, _, c.now-now.ensures, rw c.rest.ensures at c.sleep.ensures))))
    more)
