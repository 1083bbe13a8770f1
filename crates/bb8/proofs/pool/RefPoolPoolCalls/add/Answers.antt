use Rattle.bb8.proofs.pool.RefPoolPoolCalls.add.Goals as goal

pub returns : goal.returns
returns g c = rw (← c.deref-shared.ensures) (c.scope.result, c.add.new.pool, c.scope.ensures, c.add.ensures)
