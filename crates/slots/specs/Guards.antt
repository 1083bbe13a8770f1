-- Guards of a runner's pool.
use Rattle.bb8_lock.specs.declared.locked.Permits.{Ghosts as PermitsOf}
use Rattle.bb8_lock.specs.Words.{ManagerOf, DebugOf, SinkOf, CustomizerOf, ClockOf}
use Rattle.bb8.specs.declared.guards.Guards.{Guards}
use Rattle.bb8.specs.declared.pool.PooledConnection.{PooledConnection}
use Rattle.bb8.specs.GuardLists.{connection_of, ticket_of, ReturnsBy}

module _ {G L M S Z K R C E N V A : Type 0} {m : ManagerOf M C E N V} {d : DebugOf E} {s : SinkOf S E} {z : CustomizerOf Z C E A} {k : ClockOf K} {l : PermitsOf L} where
  -- the guard returns its connection
  abbrev pub GivesBack : PooledConnection G L M S Z K R C E N V A m d s z k l → Type 0
  GivesBack guard = ReturnsBy (ticket_of guard) (connection_of guard)

  -- a guard like those of the list returns its connection
  abbrev pub GivesOneBack : Guards G L M S Z K R C E N V A m d s z k l → Type 0
  GivesOneBack guards = (guard : PooledConnection G L M S Z K R C E N V A m d s z k l) × GivesBack guard
