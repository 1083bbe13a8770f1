-- What a change of one record does to the sizes.
use Rattle.bb8_ledger.proofs.Words.{◌≡◌, ℕ, zero, suc, ◌+◌, Bool, List, Some, sym, ap, ◌∙◌, Place, Standing, Numbered, at, one, stands, is_conn, is_approval, idle_at, conns_of, approved_of, with_approvals, change, Before, arith, nat_tests}
use Rattle.bb8_types.proofs.Numbered as numbered

module _ {C : Type 0} where
  -- what a test says of a record whose place is known
  pub tested : (test : Place C → Bool) (r : Numbered (Standing C)) (s : Standing C) (p : Place C) → r.standing ≡ Some s → s.place ≡ p → stands test r.standing ≡ test p
  tested test r s p e f = ap (stands test) e ∙ ap test f

  -- what the sizes are after it
  pub conns-change : (first : ℕ) (rs : List (Numbered (Standing C))) (k : ℕ) (new old : Numbered (Standing C)) (a b : Bool)
      → at first rs k ≡ Some old → stands is_conn old.standing ≡ a → stands is_conn new.standing ≡ b
      → conns_of (change first k new rs) + one a ≡ conns_of rs + one b
  conns-change first rs k new old a b h was is = rw (sym (ap one was), sym (ap one is)) (numbered.tally-change (λ r. stands is_conn r.standing) rs first k new old h)

  pub approved-change : (first : ℕ) (rs : List (Numbered (Standing C))) (k : ℕ) (new old : Numbered (Standing C)) (a b : Bool)
      → at first rs k ≡ Some old → stands is_approval old.standing ≡ a → stands is_approval new.standing ≡ b
      → approved_of (change first k new rs) + one a ≡ approved_of rs + one b
  approved-change first rs k new old a b h was is = rw (sym (ap one was), sym (ap one is)) (numbered.tally-change (λ r. stands is_approval r.standing) rs first k new old h)

  pub before-approve : (claimed : Bool) (n m : ℕ) (rs : List (Numbered (Standing C))) → Before idle_at m rs → Before idle_at m (with_approvals claimed n rs)
  before-approve claimed zero m rs b = b
  before-approve claimed (suc n) m rs b = grind (arith, nat_tests, numbered.before-append, before-approve claimed n m rs b)
