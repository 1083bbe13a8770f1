use Rattle.std.proofs.Common.{inl, inr, rules}
use Rattle.bb8.proofs.handles.RefPoolJoins.join.Goals as goal

pub returns-in-Joined : goal.returns-in-Joined
returns-in-Joined g c = (
  c.join.result,
  rw (← c.deref-pool.ensures) (c.scope.result, c.join.new.pool, c.scope.ensures, c.join.ensures),
  rw c.in-Joined.is (search rules),
)

pub returns-in-Exhausted : goal.returns-in-Exhausted
returns-in-Exhausted g c = (
  c.join.result,
  rw (← c.deref-pool.ensures) (c.scope.result, c.join.new.pool, c.scope.ensures, c.join.ensures),
  elim c.in-Exhausted.is [ inl w ↦ rw w tt | inr w ↦ rw w tt ],
)
