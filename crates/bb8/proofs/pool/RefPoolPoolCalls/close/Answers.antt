use Rattle.bb8.proofs.pool.RefPoolPoolCalls.close.Goals as goal

pub returns : goal.returns
returns g c = rw (← c.deref-shared.ensures) (c.scope.result, c.close.new.pool, c.scope.ensures, c.close.ensures)
