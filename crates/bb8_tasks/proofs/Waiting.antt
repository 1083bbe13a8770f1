-- The waits of the back-off, as plain numbers.
use Rattle.std.proofs.lemmas.Bool.Decides.{nat_tests}
use Rattle.bb8_tasks.proofs.Words.{◌≡◌, ℕ, zero, suc, ◌+◌, ◌-◌, ◌*◌, ◌/◌, ◌^◌, ◌<◌, ◌≤◌, inl, inr, lit<, subst, sym, refl, add-one, arith, pow-le-pow_right, min-eq_left, one-le-pow, cases_lt, wait, waits, IsMostWaits}

-- from the 66th failure on the wait is half the timeout
pub wait-long : (t k : ℕ) → t < 2 ^ 64 * 1_000_000_000 → 66 ≤ k → wait t k ≡ t / 2
wait-long t k fits far =
    let grown : 2 ^ 66 ≤ 2 ^ k = pow-le-pow_right (lit< tt) far in
    min-eq_left (omega arith)

-- no wait is zero
pub wait-above : (t k : ℕ) → 0 < t / 2 → 0 < wait t k
wait-above t k half =
    let some : 1 ≤ 2 ^ k = one-le-pow k 2 (lit< tt) in
    omega arith

-- the sum of one wait more
pub waits-more : (t k : ℕ) → waits t (k + 1) ≡ waits t k + wait t (k + 1)
waits-more t k = subst (λ (x : ℕ). waits t x ≡ waits t k + wait t x) (sym (add-one k)) refl

-- more waits are no shorter
pub waits-mono : (t i j : ℕ) → i ≤ j → waits t i ≤ waits t j
waits-mono t i zero le = let none : 0 ≡ i = omega arith in subst (λ (x : ℕ). waits t x ≤ waits t 0) none (omega arith)
waits-mono t i (suc j) le =
    elim (cases_lt j i) [
      | inl more ↦ (let same : i ≡ suc j = omega arith in subst (λ (x : ℕ). waits t i ≤ waits t x) same (omega arith))
      | inr less ↦ (let before : waits t i ≤ waits t j = waits-mono t i j less in let sum : waits t (suc j) ≡ waits t j + wait t (suc j) = refl in omega arith)
    ]

-- more waits are longer
pub waits-below : (t i j : ℕ) → 0 < t / 2 → i < j → waits t i < waits t j
waits-below t i j half below = grind (arith, nat_tests, waits-mono t (i + 1) j, waits-more t i, wait-above t (i + 1) half)

-- four waits of half the timeout are past it
waits-past : (t k : ℕ) → t < 2 ^ 64 * 1_000_000_000 → 0 < t / 2 → 66 ≤ k → t < waits t (k + 1 + 1 + 1 + 1)
waits-past t k fits half far = grind (arith, nat_tests, waits-more, wait-long)

-- seventy waits are past every timeout that a span of time can be
pub waits-seventy : (t n : ℕ) → t < 2 ^ 64 * 1_000_000_000 → 0 < t / 2 → 70 ≤ n → t < waits t n
waits-seventy t n fits half many = subst (λ (x : ℕ). t < waits t x) (omega arith) (waits-past t (n - 4) fits half (omega arith))

-- the most waits whose sum is at most the timeout are below seventy
pub most-below : (t n : ℕ) → t < 2 ^ 64 * 1_000_000_000 → 0 < t / 2 → waits t n ≤ t → n < 70
most-below t n fits half within = grind (arith, nat_tests, waits-seventy t n fits half)

-- waits whose sum is at most the timeout are at most the most
pub at_most : (t n k : ℕ) → t < waits t (suc n) → waits t k ≤ t → k ≤ n
at_most t n k past within = grind (arith, nat_tests, waits-mono t (suc n) k)

-- waits whose sum is past the timeout are more than the most
pub past_most : (t n k : ℕ) → waits t n ≤ t → t < waits t k → n < k
past_most t n k within past = grind (arith, nat_tests, waits-mono t k n)

-- looking from k on, at so many sums, the first that is past the timeout is found
most_from : (t k fuel : ℕ) → waits t k ≤ t → t < waits t (k + fuel) → (n : ℕ) × IsMostWaits t n
most_from t k zero within past = grind (arith, nat_tests)
most_from t k (suc fuel) within past = grind (arith, nat_tests, most_from t (suc k) fuel)

-- there are most waits whose sum is at most the timeout
pub most_waits : (t : ℕ) → t < 2 ^ 64 * 1_000_000_000 → 0 < t / 2 → (n : ℕ) × IsMostWaits t n
most_waits t fits half = most_from t 0 70 (omega arith) (waits-seventy t 70 fits half (omega arith))
