use Rattle.std.proofs.Common.{◌≡◌, ◌+◌, length}
use Rattle.bb8_tables.specs.Machine as machine
use Rattle.bb8_tables.proofs.records.Records.end_unclaimeds.Given as goal

abbrev pub invariant-loop : goal.invariant-loop
invariant-loop g l = record {
  same : machine.after_unclaimed_ends l.self.unclaimed l.self ≡ machine.after_unclaimed_ends l.fn.self.unclaimed l.fn.self;
  count : length l.self.unclaimed + l.counter ≡ length l.fn.self.unclaimed;
}
