-- What callers see of a list of guards: its connections in order, its length and greatest length,
-- and its drop.
use Rattle.std.specs.Prelude.{◌≡◌, ℕ, List, vec_len}
use Rattle.std.specs.Arc.{arc_value}
use Rattle.std.specs.List.{AllZip}
use Rattle.std.specs.Vec.{with_item}
use Rattle.bb8_lock.specs.declared.locked.Permit.{Permit}
use Rattle.bb8_lock.specs.Scope.{OwnReturns}
use Rattle.bb8_lock.specs.declared.locked.Permits.{Ghosts as PermitsOf}
use Rattle.bb8_lock.specs.Words.{ManagerOf, DebugOf, SinkOf, CustomizerOf, ClockOf}
use Rattle.bb8.specs.declared.guards.Guards.{Guards}
use Rattle.bb8.specs.declared.guards.Ticket.{Ticket}
use Rattle.bb8.specs.declared.pool.Pool.{Pool}
use Rattle.bb8.specs.declared.pool.PooledConnection.{PooledConnection}

module _ {G L M S Z K R C E N V A : Type 0} {m : ManagerOf M C E N V} {d : DebugOf E} {s : SinkOf S E} {z : CustomizerOf Z C E A} {k : ClockOf K} {l : PermitsOf L} where
  -- the connection of a guard
  abbrev pub connection_of : PooledConnection G L M S Z K R C E N V A m d s z k l → C
  connection_of guard = guard.taken.connection

  -- where the connection of a guard is returned to, and its key
  abbrev pub ticket_of : PooledConnection G L M S Z K R C E N V A m d s z k l → Ticket G L M S Z K R C E N V A m d s z k l
  ticket_of guard = record { shared = guard.shared; key = guard.taken.key }

  -- a guard with this connection instead of its own
  abbrev pub with_connection : PooledConnection G L M S Z K R C E N V A m d s z k l → C → PooledConnection G L M S Z K R C E N V A m d s z k l
  with_connection guard connection = record guard { taken = record guard.taken { connection = connection } }

  -- the connections of the guards of a list
  abbrev pub connections_in : Guards G L M S Z K R C E N V A m d s z k l → List C
  connections_in guards = guards.connections.items

  -- where the connections of a list are returned to, and their keys
  abbrev pub tickets_in : Guards G L M S Z K R C E N V A m d s z k l → List (Ticket G L M S Z K R C E N V A m d s z k l)
  tickets_in guards = guards.tickets.items

  -- the number of guards in a list
  abbrev pub number_in : Guards G L M S Z K R C E N V A m d s z k l → ℕ
  number_in guards = vec_len guards.connections

  -- the greatest number of guards in a list: its pool's `max_size`
  abbrev pub most_in : Guards G L M S Z K R C E N V A m d s z k l → ℕ
  most_in guards = guards.shared.now.config.max_size

  -- a list with this connection instead of the one at an index
  abbrev pub with_connection_at : Guards G L M S Z K R C E N V A m d s z k l → ℕ → C → Guards G L M S Z K R C E N V A m d s z k l
  with_connection_at guards index connection = record guards { connections = with_item guards.connections index connection }

  -- the list has guards of this pool
  abbrev pub IsListOf : Guards G L M S Z K R C E N V A m d s z k l → Pool G L M S Z K R C E N V A m d s z k l → Type 0
  IsListOf guards pool = guards.shared.now ≡ arc_value pool.shared

  -- both lists belong to one pool
  abbrev pub AreOfOne : Guards G L M S Z K R C E N V A m d s z k l → Guards G L M S Z K R C E N V A m d s z k l → Type 0
  AreOfOne guards others = guards.shared.now ≡ others.shared.now

  -- this connection is returned where this ticket says, under its key
  abbrev pub ReturnsBy : Ticket G L M S Z K R C E N V A m d s z k l → C → Type 0
  ReturnsBy ticket connection =
      (permit : Permit L) × OwnReturns ticket.shared.now (record { key = ticket.key; connection = connection; permit = permit })

  -- each guard of a list returns its connection
  abbrev pub ReturnsEach : Guards G L M S Z K R C E N V A m d s z k l → Type 0
  ReturnsEach guards = AllZip ReturnsBy (tickets_in guards) (connections_in guards)
