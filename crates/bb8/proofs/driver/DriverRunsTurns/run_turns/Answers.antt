use Rattle.bb8.proofs.driver.DriverRunsTurns.run_turns.Goals as goal

pub returns : goal.returns
returns g c = rw (← c.deref-pool.ensures) (c.scope.result, _, c.scope.ensures, c.run.ensures)
