-- Lists whose elements are numbered in sequence: the first has the number n, the next suc n.
use Rattle.std.specs.Prelude.{ℕ, zero, suc, Bool, cond, eqb, List, [], ◌∷◌, ◌++◌, Option, Some, None, ◌+◌}
use Rattle.std.specs.Option.{option_and_then}
use Rattle.std.specs.Ordering.{nat_cmp}
use Rattle.std.specs.FinMap.{FinMap, empty, insert}

-- The state under a number, None if it has ended; and the position of the event at which it last
-- joined its queue.
pub record Numbered (S : Type 0) : Type 0 where
  pub standing : Option S
  pub position : ℕ

-- the element with the number q
abbrev pub at : {R : Type 0} → ℕ → List R → ℕ → Option R
at n [] q = None
at n (r ∷ rs) q = cond (eqb q n) (Some r) (at (suc n) rs q)

-- the list after f was applied to the element with the number k
abbrev pub update : {R : Type 0} → ℕ → ℕ → (R → R) → List R → List R
update n k f [] = []
update n k f (r ∷ rs) = cond (eqb k n) (f r) r ∷ update (suc n) k f rs

-- the numbers of the elements that pass a test
abbrev pub numbers : {R : Type 0} → (R → Bool) → ℕ → List R → List ℕ
numbers p n [] = []
numbers p n (r ∷ rs) = cond (p r) (n ∷ numbers p (suc n) rs) (numbers p (suc n) rs)

-- the numbers of the elements whose position is below the last argument, ordered by position
abbrev pub in_order : {R : Type 0} → (ℕ → R → Bool) → ℕ → List R → ℕ → List ℕ
in_order stands n rs zero = []
in_order stands n rs (suc p) = in_order stands n rs p ++ numbers (stands p) n rs

-- the map with the value inserted at this number, if there is a value
abbrev pub with_value : {S : Type 0} → ℕ → Option S → FinMap nat_cmp S → FinMap nat_cmp S
with_value n None m = m
with_value n (Some s) m = insert m n s

-- the map from each element's number to what f returns for it
abbrev pub by_number : {R S : Type 0} → (R → Option S) → ℕ → List R → FinMap nat_cmp S
by_number f n [] = empty
by_number f n (r ∷ rs) = with_value n (f r) (by_number f (suc n) rs)

-- 1 if it holds, 0 if not
abbrev pub one : Bool → ℕ
one b = cond b 1 0

-- how many elements pass a test
abbrev pub tally : {R : Type 0} → (R → Bool) → List R → ℕ
tally p [] = 0
tally p (r ∷ rs) = one (p r) + tally p rs

-- the state under the number q
abbrev pub standing_at : {S : Type 0} → ℕ → List (Numbered S) → ℕ → Option S
standing_at n rs q = option_and_then (λ r. r.standing) (at n rs q)

-- the map from each number that has not ended to its state
abbrev pub standings : {S : Type 0} → ℕ → List (Numbered S) → FinMap nat_cmp S
standings n rs = by_number (λ r. r.standing) n rs

module _ {S : Type 0} where
  -- the element after its end; the position stays
  abbrev pub after_end : Numbered S → Numbered S
  after_end r = record r { standing = None }

  -- the element, ended if its state passes a test
  abbrev pub after_end_where : (Option S → Bool) → Numbered S → Numbered S
  after_end_where test r = cond (test r.standing) (after_end r) r
