use Rattle.std.proofs.Common.{sym, ◌∙◌}
use Rattle.bb8_runner.proofs.Events.{first_no_event}
use Rattle.bb8_runner.proofs.lines.events_of.Goals as goal

pub returns-in_default-clause-bad : goal.returns-in_default-clause-bad
returns-in_default-clause-bad c = first_no_event c.args.lines.now c.loop-line.line-index c.loop-line.number c.loop-line.events.items _
    c.loop-line-test.true c.loop-line.invariant.0 c.loop-line.invariant.1 (sym c.in_ok-event.ensures ∙ c.in_default.is)
