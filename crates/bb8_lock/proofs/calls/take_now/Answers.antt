use Rattle.std.proofs.Common.{refl, arith}
use Rattle.bb8_lock.proofs.calls.take_now.Goals as goal

pub returns-then-state-eq0 : goal.returns-then-state-eq0
returns-then-state-eq0 g c = (
  _,
  _,
  c.now-at.ensures,
  (_, _, c.state.ensures, λ none. (refl, c.release.ensures), λ some. let none = c.if-state-eq0.true in absurd (omega arith)),
)

pub returns : goal.returns
returns g c = (_, _, c.now-at.ensures, (_, _, c.state.ensures, λ none. absurd (c.if-state-eq0.false none), λ some. c.try_once.ensures))
