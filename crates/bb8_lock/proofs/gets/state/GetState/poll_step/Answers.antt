use Rattle.std.proofs.Common.{inl, inr, sym}
use Rattle.bb8_lock.proofs.gets.state.GetState.poll_step.Goals as goal

pub returns-in-Checking : goal.returns-in-Checking
returns-in-Checking g c = rw (sym c.in-Checking.ensures.value) (rw c.stand.ensures (
  _,
  _,
  c.now-at-in-Checking.ensures,
  (_, _, c.look.ensures, (_, _, (_, c.release.ensures, c.check-next.ensures), c.end-answer.ensures)),
))

pub returns-in-Trying : goal.returns-in-Trying
returns-in-Trying g c = rw (sym c.replace.ensures.value) (rw c.stand-in-Trying.ensures (elim c.in-Trying.is [
  | inl is ↦ rw is (_, _, c.now-at-in-Trying.ensures, (_, _, c.look-seen.ensures, (_, _, c.retry-next.ensures, c.end-answer-in-Trying.ensures)))
  | inr is ↦ rw is (_, _, c.now-at-in-Trying.ensures, (_, _, c.look-seen.ensures, (_, _, c.retry-next.ensures, c.end-answer-in-Trying.ensures)))
]))
