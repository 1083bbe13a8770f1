use Rattle.std.proofs.Common.{refl}
use Rattle.bb8.specs.Drivers.{Runs}
use Rattle.bb8.proofs.driver.run.Goals as goal

pub loop-init : goal.loop-init
loop-init g c = λ d last run. run

pub returns-then-turn : goal.returns-then-turn
returns-then-turn g c =
    c.loop.invariant _ _
    (Runs.ends _ _ _ _ _ _ _ _ (_, _, c.signals-signals.ensures, c.now-at.ensures, c.turn-turn.ensures.table) c.if-turn.true (rw c.saturating_add-turns.ensures refl))

pub returns-then-not-pause : goal.returns-then-not-pause
returns-then-not-pause g c =
    c.loop.invariant _ _
    (Runs.stops _ _ _ _ _ _ _ _ _ (_, _, c.signals-signals.ensures, c.now-at.ensures, c.turn-turn.ensures.table) c.if-turn.false c.if-not-pause.ensures (rw c.saturating_add-turns.ensures refl))

pub loop-preserved : goal.loop-preserved
loop-preserved g c = λ d last run.
    c.loop.invariant d last
    (Runs.goes_on _ _ _ _ _ _ _ _ _ _ _ (_, _, c.signals-signals.ensures, c.now-at.ensures, c.turn-turn.ensures.table) c.if-turn.false c.if-not-pause.ensures
    (_, rw (c.rest-most.ensures, c.next_due.ensures) at c.sleep.ensures, refl)
    (rw (← c.saturating_add-turns.ensures) run))
