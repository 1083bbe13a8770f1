use Rattle.bb8_journal.proofs.Words.{◌≡◌, ◌≤◌, ◌++◌, length, map, vec_len, vec_capacity, sum_by, steps_of, notes_of}
use Rattle.std.specs.Vec.Iter.{into_iter_items, into_iter_len}
use Rattle.bb8_journal.proofs.journal.entries.Journal.close.Given as goal

abbrev pub invariant-loop-seat : goal.invariant-loop-seat
invariant-loop-seat g l = record {
  passed : l.yielded ++ into_iter_items l.seat-iterator ≡ into_iter_items l.initial.seat-iterator;
  noted : map notes_of l.notes.items ≡ l.yielded;
  parts : l.rest.parts ≡ length l.yielded;
  amount : l.rest.amount ≡ sum_by steps_of l.yielded;
  len : vec_len l.notes ≡ length l.yielded;
  left : into_iter_len l.seat-iterator ≡ length (into_iter_items l.seat-iterator);
  room : length (into_iter_items l.initial.seat-iterator) ≤ vec_capacity l.notes;
}
