use Rattle.bb8.proofs.owned.BareHandleOwnedCalls.detach_owned.Goals as goal

pub returns-clause-left : goal.returns-clause-left
returns-clause-left g c = rw (← c.deref-pool.ensures) (c.scope.result, c.detach_and_leave.new.pool, c.scope.ensures, c.detach_and_leave.ensures.step)
