use Rattle.bb8_journal.proofs.Words.{◌≡◌, ◌+◌, ◌≤◌, map, vec_len, vec_capacity, range_with_len, fresh}
use Rattle.bb8_journal.proofs.journal.shared.cut.Given as goal

abbrev pub invariant-loop-number : goal.invariant-loop-number
invariant-loop-number g l = record {
  seats : l.list.items ≡ map fresh (range_with_len 0 l.number);
  len : vec_len l.list ≡ l.number;
  parts : l.rest.parts + l.number ≡ l.seats;
  amount : l.rest.amount ≡ 0;
  room : l.seats ≤ vec_capacity l.list;
}
