use Rattle.std.proofs.Common.{◌≡◌, vec_len}
use Rattle.std.specs.List.{AllZip}
use Rattle.bb8.specs.GuardLists.{ReturnsBy, ReturnsEach}
use Rattle.bb8.proofs.guards.Guards.drop.Given as goal

abbrev pub invariant-loop-connection : goal.invariant-loop-connection
invariant-loop-connection g l =
    l.parts ≡ vec_len l.connections × (vec_len l.tickets ≡ vec_len l.connections)
    × (AllZip ReturnsBy l.tickets.items l.connections.items → ReturnsEach l.fn.self)

abbrev pub decreases-loop-connection : goal.decreases-loop-connection
decreases-loop-connection g l = vec_len l.connections
