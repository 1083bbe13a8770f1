use Rattle.std.proofs.Common.{refl}
use Rattle.bb8_tasks.proofs.upkeep.Upkeep.poll.Goals as goal

pub returns-in-Reaping : goal.returns-in-Reaping
returns-in-Reaping g c = rw c.in-Reaping.is (c.poll-answer.result, c.poll-answer.new.self, c.poll-answer.new.home, c.poll-answer.ensures, c.ask_after.ensures, refl)

pub returns-in-Asking : goal.returns-in-Asking
returns-in-Asking g c = rw c.in-Asking.is (c.ask_at_tick.new.ticks, c.ask_at_tick.ensures, refl)
