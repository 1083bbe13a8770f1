use Rattle.bb8_tables.proofs.Words.{◌≡◌, ◌≢◌, ℕ, ◌<◌, Some, None, get_or, Slot}
use Rattle.bb8_tables.proofs.table.Table.search.Given as goal

abbrev pub invariant-loop-i : goal.invariant-loop-i
invariant-loop-i g l = (k : ℕ) (x : Slot g.row.S.Denot) → k < l.i → get_or l.self.slots k None ≡ Some x → x.number ≢ l.number
