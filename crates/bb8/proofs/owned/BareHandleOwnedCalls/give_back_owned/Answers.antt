use Rattle.bb8.proofs.owned.BareHandleOwnedCalls.give_back_owned.Goals as goal

pub returns : goal.returns
returns g c = rw (← c.deref-pool.ensures) (c.scope.result, c.give_back_and_leave.new.pool, c.scope.ensures, c.give_back_and_leave.ensures)
