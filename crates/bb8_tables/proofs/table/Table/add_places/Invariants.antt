use Rattle.std.proofs.Common.{◌≡◌, ℕ, ◌+◌, ◌<◌, None, get_or, length}
use Rattle.bb8_tables.proofs.table.Table.add_places.Given as goal

abbrev pub invariant-loop : goal.invariant-loop
invariant-loop g l = record {
  places : 0 < length l.self.slots;
  kept : (i : ℕ) → get_or l.self.slots i None ≡ get_or l.fn.self.slots i None;
  line : l.self.line ≡ l.fn.self.line;
  births : l.self.births ≡ l.fn.self.births;
  free : l.self.free ≡ l.fn.self.free + l.counter;
}
