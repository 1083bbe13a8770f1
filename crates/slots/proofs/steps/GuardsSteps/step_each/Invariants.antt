use Rattle.slots.proofs.Words.{◌≡◌, ◌-◌, ◌≤◌, deque_len, number_in, AreOfOne, GivesBack, PollsGet, running}
use Rattle.slots.proofs.Stepped.{TurnMidway}
use Rattle.futures.specs.Task.{Keeps}
use Rattle.slots.proofs.steps.GuardsSteps.step_each.Given as goal

abbrev pub invariant-loop : goal.invariant-loop
invariant-loop g l = record {
  midway : running l.fn.queue.items ≡ number_in l.fn.self → TurnMidway g.J.Job.polls PollsGet GivesBack l.fn.now l.fn.queue.items l.queue.items l.ended (l.count - l.counter);
  len : deque_len l.queue ≡ l.count;
  most : l.ended ≤ l.counter;
  held : running l.fn.queue.items ≡ number_in l.fn.self → running l.queue.items ≡ number_in l.self;
  pool : AreOfOne l.self l.fn.self;
  kept : Keeps l.fn.cx l.cx;
}
