use Rattle.bb8.proofs.pool.RefPoolPoolCalls.is_closed.Goals as goal

pub returns : goal.returns
returns g c = rw (← c.deref-shared.ensures) (c.scope.result, c.is_closed.new.pool, c.scope.ensures, c.is_closed.ensures)
