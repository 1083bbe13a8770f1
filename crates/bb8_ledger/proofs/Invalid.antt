-- Checks that failed, and connections that idled out, are no more than the connections that ended.
use Rattle.bb8_ledger.proofs.Words.{◌+◌, ◌≤◌, arith, Ledger, next, conns, approved, invalid, idled_out, IsLegal}
use Rattle.bb8_ledger.proofs.Effects.{each_legal}
use Rattle.bb8_ledger.proofs.Sums.{row_sums}

module _ {C : Type 0} where
  abbrev pub FewEnded : Ledger C → Type 0
  FewEnded l = invalid l + idled_out l + conns l + approved l ≤ next l

  pub few_ended : (l : Ledger C) → IsLegal l → FewEnded l
  few_ended = each_legal FewEnded (λ s lawful. omega arith) (λ l at e h. h) (λ l at e a legal f row h. omega (arith, row_sums l at e a legal f row))
