use Rattle.bb8_tasks.proofs.Words.{arith, rules, as_nanos}
use Rattle.bb8_tasks.proofs.FirstTick.{first_tick}
use Rattle.bb8_tasks.proofs.ticks.passing.next_tick.Goals as goal

pub returns-in-Some : goal.returns-in-Some
returns-in-Some c = first_tick c.args.start.0 c.args.moment.0 c.max-from.result c.in-Ok.nanos (as_nanos c.args.rate) c.in-Some.tick c.requires (search rules) (search rules) (omega arith)
