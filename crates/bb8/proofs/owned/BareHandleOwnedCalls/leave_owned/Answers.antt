use Rattle.bb8.proofs.owned.BareHandleOwnedCalls.leave_owned.Goals as goal

pub returns : goal.returns
returns g c = rw (← c.deref-pool.ensures) (c.scope.result, c.leave.new.pool, c.scope.ensures, c.leave.ensures)
