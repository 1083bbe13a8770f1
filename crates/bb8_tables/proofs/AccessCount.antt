-- How counts of accesses add up.
use Rattle.bb8_tables.proofs.Words.{ℕ, ◌+◌, ◌≤◌, refl, ◌∙◌, arith, AccessCount, AddsReads}

pub adds_none : (l : AccessCount) → AddsReads 0 0 l l
adds_none l = (refl, omega arith, omega arith)

pub adds_more : (a b : ℕ) (x y z : AccessCount) → AddsReads a 0 x y → AddsReads b 0 y z → AddsReads (a + b) 0 x z
adds_more a b x y z p q = (q.0 ∙ p.0, omega (arith, p.1, q.1), omega (arith, p.2, q.2))

pub adds_within : (a b : ℕ) (x y : AccessCount) → AddsReads a 0 x y → a ≤ b → AddsReads b 0 x y
adds_within a b x y p few = (p.0, omega (arith, p.1), p.2)
