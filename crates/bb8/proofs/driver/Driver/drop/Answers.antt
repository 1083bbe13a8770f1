use Rattle.bb8.proofs.driver.Driver.drop.Goals as goal

pub returns : goal.returns
returns g c = rw (← c.deref-pool.ensures) (c.scope.result, c.let_go.new.pool, c.scope.ensures, c.let_go.ensures)
