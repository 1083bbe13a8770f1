use Rattle.bb8.proofs.pool.RefPoolPoolCalls.state.Goals as goal

pub returns-clause-shown : goal.returns-clause-shown
returns-clause-shown g c = rw (← c.deref-shared.ensures) (c.scope.result, c.state.new.pool, c.scope.ensures, c.state.ensures)
