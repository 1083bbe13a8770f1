-- Which connections are closed when they are opened or returned, by their numbers.
use Rattle.bb8_core.proofs.Words.{◌≡◌, ◌≢◌, ◌<◌, ◌≤◌, ℕ, Bool, true, false, ◌||◌, sym, ap, ◌∙◌, arith, eqb, ltb, eq-eqb, ne_test}
use Rattle.std.proofs.Common.{lt-ltb, le-ltb}
use Rattle.bb8_types.specs.Bounds.{end_of_numbers}
use Rattle.bb8_core.specs.Pool.{ClosesBelow}

-- all, once no handle is alive
pub all_below : (handles retired : ℕ) → handles ≡ 0 → ClosesBelow handles retired end_of_numbers
all_below handles retired none k few = lt-ltb k end_of_numbers few ∙ sym (ap (λ (b : Bool). b || ltb k retired) (eq-eqb handles 0 none))

-- and so they stay
pub still_below : (handles retired then below : ℕ) → handles ≡ 0 → ClosesBelow handles retired below → ClosesBelow handles then below
still_below handles retired then below none c k few = c k few ∙ ap (λ (b : Bool). b || ltb k retired) (eq-eqb handles 0 none) ∙ sym (ap (λ (b : Bool). b || ltb k then) (eq-eqb handles 0 none))

-- what is retired, while one is
pub retired_below : (handles retired : ℕ) → handles ≢ 0 → ClosesBelow handles retired retired
retired_below handles retired some k few = sym (ap (λ (b : Bool). b || ltb k retired) (ne_test handles 0 some))

-- how many they are does not matter
pub as_below : (handles then retired below : ℕ) → handles ≢ 0 → then ≢ 0 → ClosesBelow handles retired below → ClosesBelow then retired below
as_below handles then retired below some still c k few = c k few ∙ ap (λ (b : Bool). b || ltb k retired) (ne_test handles 0 some ∙ sym (ne_test then 0 still))

-- what is opened comes too late where its number is below
pub late_below : (handles retired : ℕ) {below k : ℕ} → ClosesBelow handles retired below → below ≤ end_of_numbers → k < below → (eqb handles 0 || ltb k retired) ≡ true
late_below handles retired {k = k} c most few = sym (c k (omega (arith, most, few))) ∙ lt-ltb _ _ few

-- and in time where it is not
pub in_time_above : (handles retired : ℕ) {below k : ℕ} → ClosesBelow handles retired below → k < end_of_numbers → below ≤ k → (eqb handles 0 || ltb k retired) ≡ false
in_time_above handles retired {k = k} c few above = sym (c k few) ∙ le-ltb _ _ above
