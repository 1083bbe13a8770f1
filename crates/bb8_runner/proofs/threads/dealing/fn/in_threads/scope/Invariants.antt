use Rattle.std.specs.Prelude.{◌≡◌, ◌++◌, length}
use Rattle.std.specs.Vec.Iter.{into_iter_items}
use Rattle.bb8_runner.proofs.threads.dealing.fn.in_threads.scope.Given as goal

abbrev pub invariant-loop-seat : goal.invariant-loop-seat
invariant-loop-seat g l =
    (l.yielded ++ into_iter_items l.seat-iterator ≡ into_iter_items l.initial.seat-iterator)
    × (length l.threads.items ≡ length l.yielded)

abbrev pub invariant-loop-thread : goal.invariant-loop-thread
invariant-loop-thread g l =
    (l.yielded ++ into_iter_items l.thread-iterator ≡ into_iter_items l.initial.thread-iterator)
    × (length l.back.items ≡ length l.yielded)
