-- The content of a table, and lists of keys into it.
use Rattle.std.specs.Prelude.{◌≡◌, ◌<◌, ◌≤◌, ℕ, Bool, true, false, List, [], ◌∷◌, map, Option, Some, None, slice_get, get_or}
use Rattle.std.specs.Ordering.{nat_cmp}
use Rattle.std.specs.FinMap.{FinMap, empty, insert}
use Rattle.bb8_tables.specs.Spelled.{Absent}

-- the map from the number of each entry to its value
abbrev pub values_at : {X S : Type 0} → (X → ℕ) → (X → S) → List (Option X) → FinMap nat_cmp S
values_at number value [] = empty
values_at number value (None ∷ xs) = values_at number value xs
values_at number value (Some x ∷ xs) = insert (values_at number value xs) (number x) (value x)

-- whether each key leads to an entry that has its number and passes the test, and no two lead to
-- the same one
pub record IsLine {X K : Type 0} (number : X → ℕ) (test : X → Bool) (key : K → ℕ) (leads : K → ℕ) (xs : List (Option X)) (keys : List K) : Type 0 where
  pub each : (j : ℕ) (k : K) → slice_get keys j ≡ Some k → (x : X) × (get_or xs (leads k) None ≡ Some x) × (number x ≡ key k) × (test x ≡ true)
  pub once : (i j : ℕ) (k m : K) → slice_get keys i ≡ Some k → slice_get keys j ≡ Some m → leads k ≡ leads m → i ≡ j

-- whether no number occurs twice
abbrev pub IsDistinct : {X : Type 0} → (X → ℕ) → List (Option X) → Type 0
IsDistinct {X} number xs = (i j : ℕ) (x y : X) → get_or xs i None ≡ Some x → get_or xs j None ≡ Some y → number x ≡ number y → i ≡ j

-- whether the numbers of the entries are distinct, and each was given before
pub record IsTable {X : Type 0} (number : X → ℕ) (slots : List (Option X)) (next : ℕ) : Type 0 where
  pub distinct : IsDistinct number slots
  pub below : (i : ℕ) (x : X) → get_or slots i None ≡ Some x → number x < next

-- the number of an entry, 0 if it is free
abbrev pub number_in : {X : Type 0} → (X → ℕ) → Option X → ℕ
number_in number None = 0
number_in number (Some x) = number x

-- the numbers of the entries at these indexes
abbrev pub numbers_at : {X : Type 0} → (X → ℕ) → List (Option X) → List ℕ → List ℕ
numbers_at number xs places = map (λ i. number_in number (get_or xs i None)) places

-- whether the entry at each index passes the test, and no index occurs twice
abbrev pub ArePlaces : {X : Type 0} → (X → Bool) → List (Option X) → List ℕ → Type 0
ArePlaces {X} test = IsLine (λ (x : X). 0) test (λ (i : ℕ). 0) (λ (i : ℕ). i)

-- whether each number is at least m
abbrev pub AllFrom : ℕ → List ℕ → Type 0
AllFrom m [] = Unit {0}
AllFrom m (n ∷ ns) = (m ≤ n) × AllFrom m ns

-- whether the numbers never decrease
abbrev pub IsRising : List ℕ → Type 0
IsRising [] = Unit {0}
IsRising (n ∷ ns) = AllFrom n ns × IsRising ns

-- Whether these are the indexes of all entries that pass the test, each once, ordered by a moment.
pub record IsOrder {X : Type 0} (test : X → Bool) (moment : X → ℕ) (slots : List (Option X)) (places : List ℕ) : Type 0 where
  pub are : ArePlaces test slots places
  pub all : (i : ℕ) (x : X) → get_or slots i None ≡ Some x → Absent i places → test x ≡ false
  pub rises : IsRising (numbers_at moment slots places)
