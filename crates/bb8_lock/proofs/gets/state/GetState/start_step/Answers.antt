use Rattle.bb8_lock.proofs.gets.state.GetState.start_step.Goals as goal

pub returns : goal.returns
returns g c = rw c.stand.ensures (
  _,
  _,
  _,
  c.start-first.ensures,
  (_, _, _, c.deadline.ensures, c.tried-next.ensures, c.end-answer.ensures),
)
