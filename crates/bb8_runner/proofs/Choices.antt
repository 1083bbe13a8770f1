-- Which arm of a table an answer came from.
use Rattle.bb8_runner.proofs.Speech.{◌≡◌, ℕ, Bool, true, false, cond, ◌&&◌, List, [], ◌∷◌, Option, Some, refl, sym, subst, bytes_eq, bytes_eq-Decides, found}

pub both : (b c : Bool) → (b && c) ≡ true → (b ≡ true) × (c ≡ true)
both true c e = (refl, e)
both false c e = absurd (cc)

pub pick : {A : Type 0} (b : Bool) (x : A) (more : Option A) (a : A) (P : A → Type 0) → (b ≡ true → P x) → (more ≡ Some a → P a) → cond b (Some x) more ≡ Some a → P a
pick true x more a P here there e = let same : x ≡ a = cc in subst P same (here refl)
pick false x more a P here there e = there e

pub also : {A B : Type 0} → A → B → A × B
also a b = (a, b)

-- P holds of each word of a table and its value
abbrev pub Each : {A : Type 0} → (List ℕ → A → Type 0) → List (List ℕ × A) → Type 0
Each P [] = Unit {0}
Each P (p ∷ more) = P p.0 p.1 × Each P more

-- and so of what is found
pub found_in : {A : Type 0} (P : List ℕ → A → Type 0) (table : List (List ℕ × A)) (word : List ℕ) (a : A) → Each P table → found word table ≡ Some a → P word a
found_in P [] word a each e = cc
found_in P (p ∷ more) word a each e =
    pick (bytes_eq word p.0) p.1 (found word more) a (P word)
    (λ t. subst (λ w. P w p.1) (sym ((bytes_eq-Decides word p.0).0 t)) each.0)
    (found_in P more word a each.1) e
