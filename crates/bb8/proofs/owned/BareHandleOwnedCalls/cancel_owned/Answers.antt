use Rattle.bb8.proofs.owned.BareHandleOwnedCalls.cancel_owned.Goals as goal

pub returns : goal.returns
returns g c = rw (← c.deref-pool.ensures) (c.scope.result, c.cancel_and_leave.new.pool, c.scope.ensures, c.cancel_and_leave.ensures)
