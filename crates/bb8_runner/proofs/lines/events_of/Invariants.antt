use Rattle.bb8_runner.proofs.Speech.{◌≡◌, ◌+◌, map, take, Some, event_of}
use Rattle.bb8_runner.proofs.lines.events_of.Given as goal

abbrev pub invariant-loop-line : goal.invariant-loop-line
invariant-loop-line l = (map event_of (map (λ x. x.now) (take l.line-index l.lines)) ≡ map Some l.events.items) × (l.number ≡ l.line-index + 2)
