-- Texts that differ, and results with messages.
use Rattle.bb8_runner.proofs.Speech.{◌≡◌, ℕ, Bool, true, false, List, Result, Ok, Err, Bor, option_map, refl, said, bytes_eq, bytes_eq-Decides}
use Rattle.std.specs.Result.{result_ok}

-- a test that cannot pass
pub not_true : (b : Bool) → (b ≡ true → ⊥) → b ≡ false
not_true true h = absurd (h refl)
not_true false h = refl

-- two texts that differ
pub differ : (xs ys : List ℕ) → (xs ≡ ys → ⊥) → bytes_eq xs ys ≡ false
differ xs ys h = not_true (bytes_eq xs ys) (λ e. h ((bytes_eq-Decides xs ys).0 e))

-- the value of a result, whatever its message
pub ok_said : {A B : Type 0} (f : A → B) (r : Result A (Bor (List ℕ) × Bor (List ℕ))) → option_map f (result_ok r) ≡ result_ok (said f r)
ok_said f (Ok x) = refl
ok_said f (Err m) = refl

pub ok_same : {A : Type 0} (r : Result A (Bor (List ℕ) × Bor (List ℕ))) → result_ok r ≡ result_ok (said (λ x. x) r)
ok_same (Ok x) = refl
ok_same (Err m) = refl
