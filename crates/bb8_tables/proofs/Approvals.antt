-- What many approvals do to what is shown.
use Rattle.bb8_tables.proofs.Words.{◌≡◌, ◌+◌, ℕ, zero, suc, max, Bool, refl, ap, arith, RecordsView}
use Rattle.bb8_tables.specs.Machine as machine

module _ {C : Type 0} where
  pub approve-sizes : (c : Bool) (n : ℕ) (s : RecordsView C) → ((machine.after_approvals c n s).conns ≡ s.conns) × ((machine.after_approvals c n s).approved ≡ s.approved + n)
      × ((machine.after_approvals c n s).next ≡ s.next + n) × ((machine.after_approvals c n s).peak ≡ s.peak)
  approve-sizes c zero s = (refl, omega arith, omega arith, refl)
  approve-sizes c (suc n) s = let e = approve-sizes c n s in (e.0, omega (arith, e.1), omega (arith, e.2), e.3)

  -- a peak that was raised before is raised after
  pub approve-peak : (c : Bool) (n p : ℕ) (s : RecordsView C) → machine.after_approvals c n (record s { peak = p }) ≡ record (machine.after_approvals c n s) { peak = p }
  approve-peak c zero p s = refl
  approve-peak c (suc n) p s = ap (machine.after_approval c) (approve-peak c n p s)

  pub approve-raised : (c : Bool) (n p : ℕ) (s : RecordsView C) → p ≡ max s.peak (s.conns + s.approved + n)
      → machine.after_approvals c n (record s { peak = p }) ≡ machine.with_peak (machine.after_approvals c n s)
  approve-raised c n p s is = grind (arith, approve-peak c n p s, approve-sizes c n s)
