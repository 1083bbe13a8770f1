use Rattle.bb8.proofs.pool.RefPoolPoolCalls.retire.Goals as goal

pub returns : goal.returns
returns g c = rw (← c.deref-shared.ensures) (c.scope.result, c.retire.new.pool, c.scope.ensures, c.retire.ensures)
