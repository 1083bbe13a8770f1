use Rattle.bb8_tables.proofs.Words.{◌≡◌, ◌≤◌, ◌+◌, max, end_of_numbers}
use Rattle.bb8_tables.specs.Machine as machine
use Rattle.bb8_tables.proofs.records.Records.grant_some.Given as goal

abbrev pub invariant-loop : goal.invariant-loop
invariant-loop g l = record {
  same : l.self ≡ machine.after_approvals l.claimed l.counter (record l.fn.self { peak = l.initial.self.peak });
  room : l.fn.self.conns + l.fn.self.approved + l.count ≤ l.initial.self.peak;
  numbers : l.fn.self.next + l.count ≤ end_of_numbers;
  peak : l.initial.self.peak ≡ max l.fn.self.peak (l.fn.self.conns + l.fn.self.approved + l.count);
}
