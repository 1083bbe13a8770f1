-- Permits of a ledger that are held together.
use Rattle.std.specs.Prelude.{ℕ, Option, Some, None}

-- the number that is read from a value, or 0 if there is none
abbrev pub number_in : {A : Type 0} → (A → ℕ) → Option A → ℕ
number_in read None = 0
number_in read (Some x) = read x
