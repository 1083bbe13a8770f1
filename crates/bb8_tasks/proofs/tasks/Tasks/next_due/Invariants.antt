use Rattle.bb8_tasks.proofs.Words.{◌≡◌, take}
use Rattle.bb8_tasks.specs.Dues.{earliest}
use Rattle.bb8_tasks.proofs.tasks.Tasks.next_due.Given as goal

abbrev pub invariant-loop-i : goal.invariant-loop-i
invariant-loop-i g l = l.due ≡ earliest l.fn.tick (take l.i l.fn.self)
