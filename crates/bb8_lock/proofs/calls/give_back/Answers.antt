use Rattle.bb8_lock.proofs.calls.give_back.Goals as goal

pub returns : goal.returns
returns g c = (
  c.ask-returned.result,
  c.ask-returned.new.pool,
  c.ask-returned.ensures,
  (
    c.put_back-answer.result,
    c.release.new.self,
    (c.now-at.result, c.now-at.new.self, c.put_back-answer.new.self, c.now-at.ensures, c.put_back-answer.ensures, c.release.ensures),
    c.drop_closed.ensures,
  ),
)
