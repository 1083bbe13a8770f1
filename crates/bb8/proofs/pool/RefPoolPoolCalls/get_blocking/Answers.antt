use Rattle.bb8.proofs.pool.RefPoolPoolCalls.get_blocking.Goals as goal

pub returns : goal.returns
returns g c = rw c.deref.ensures at c.get_blocking_timeout.ensures
