use Rattle.bb8_tables.proofs.Words.{◌≡◌, ◌+◌, length, offered_all, closed_of}
use Rattle.bb8_tables.specs.Machine as machine
use Rattle.bb8_tables.proofs.records.Records.end_idles.Given as goal

abbrev pub invariant-loop : goal.invariant-loop
invariant-loop g l = record {
  same : machine.after_idle_ends l.self.idle l.self ≡ machine.after_idle_ends l.fn.self.idle l.fn.self;
  listed : offered_all (closed_of l.self.idle l.self.places) l.closed ≡ offered_all (closed_of l.fn.self.idle l.fn.self.places) l.fn.closed;
  count : length l.self.idle + l.counter ≡ length l.fn.self.idle;
}
