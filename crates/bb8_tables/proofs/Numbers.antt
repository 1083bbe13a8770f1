-- The numbers of the records at places in line.
use Rattle.bb8_tables.proofs.Words.{◌≡◌, ◌≢◌, ℕ, suc, Bool, cond, not, eqb, List, [], ◌∷◌, ◌++◌, map, Option, Some, None, slice_get, get_or, refl, ap, ◌∙◌, eq-eqb, ne_eqb, map_push, eqb_tells, without, IsDistinct, ArePlaces, number_in, numbers_at, arith, nat_tests}
use Rattle.bb8_tables.proofs.Slots.{Updates}

-- a line without a place, known from something else that distinguishes its places
without_told : (f : ℕ → ℕ) (p : ℕ) (places : List ℕ) → ((j k : ℕ) → slice_get places j ≡ Some k → eqb k p ≡ eqb (f k) (f p)) → map f (without p places) ≡ without (f p) (map f places)
without_told f p [] h = refl
without_told f p (k ∷ places) h =
    go (eqb k p) (without_told f p places (λ j i e. h (suc j) i e))
    ∙ ap (λ (b : Bool). cond (not b) (f k ∷ without (f p) (map f places)) (without (f p) (map f places))) (h 0 k refl)
  where
    go : (b : Bool) → map f (without p places) ≡ without (f p) (map f places) → map f (cond (not b) (k ∷ without p places) (without p places)) ≡ cond (not b)
        (f k ∷ without (f p) (map f places)) (without (f p) (map f places))
    go b e = grind (arith, nat_tests)

-- a line of numbers that has not this one loses none
numbers_other : (f : ℕ → ℕ) (q : ℕ) (places : List ℕ) → ((j k : ℕ) → slice_get places j ≡ Some k → f k ≢ q) → without q (map f places) ≡ map f places
numbers_other f q [] away = refl
numbers_other f q (k ∷ places) away =
    ap (λ (b : Bool). cond (not b) (f k ∷ without q (map f places)) (without q (map f places))) (ne_eqb (f k) q (away 0 k refl))
    ∙ ap (λ (xs : List ℕ). f k ∷ xs) (numbers_other f q places (λ j m e. away (suc j) m e))

module _ {X : Type 0} (number : X → ℕ) where
  -- numbers at places where each number is the same
  numbers_alike : (old new : List (Option X)) (places : List ℕ) → ((j k : ℕ) → slice_get places j ≡ Some k → number_in number (get_or new k None) ≡ number_in number (get_or old k None))
      → numbers_at number new places ≡ numbers_at number old places
  numbers_alike old new [] same = refl
  numbers_alike old new (k ∷ places) same =
      ap (λ (n : ℕ). n ∷ numbers_at number new places) (same 0 k refl) ∙ ap (λ (ns : List ℕ). number_in number (get_or old k None) ∷ ns) (numbers_alike old new places (λ j i e. same (suc j) i e))

  -- numbers at places where nothing changed
  pub numbers_kept : (old new : List (Option X)) (place : ℕ) (places : List ℕ) → ((j k : ℕ) → slice_get places j ≡ Some k → k ≢ place)
      → ((other : ℕ) → other ≢ place → get_or new other None ≡ get_or old other None) → numbers_at number new places ≡ numbers_at number old places
  numbers_kept old new place places away others = numbers_alike old new places (λ j k e. ap (number_in number) (others k (away j k e)))

  -- numbers where nothing changed at all
  pub numbers_all : (old new : List (Option X)) (places : List ℕ) → ((i : ℕ) → get_or new i None ≡ get_or old i None) → numbers_at number new places ≡ numbers_at number old places
  numbers_all old new places same = numbers_alike old new places (λ j k e. ap (number_in number) (same k))

  -- numbers where what changed kept its number
  pub numbers_same : (old new : List (Option X)) (place : ℕ) (x y : X) (places : List ℕ) → get_or old place None ≡ Some x → number y ≡ number x
      → Updates old new place (Some y) → numbers_at number new places ≡ numbers_at number old places
  numbers_same old new place x y places was same u = grind (arith, nat_tests, numbers_alike old new places, eqb_tells)

  -- a place comes to the new end
  pub numbers_push : (xs : List (Option X)) (places : List ℕ) (place : ℕ) (x : X) → get_or xs place None ≡ Some x → numbers_at number xs
      (places ++ place ∷ []) ≡ numbers_at number xs places ++ number x ∷ []
  numbers_push xs places place x e = map_push (λ i. number_in number (get_or xs i None)) places place ∙ ap (λ (o : Option X). numbers_at number xs places ++ number_in number o ∷ []) e

  -- a place goes, so its number does
  pub numbers_without : {test : X → Bool} (xs : List (Option X)) (places : List ℕ) (place : ℕ) (x : X) → IsDistinct number xs → ArePlaces test xs places
      → get_or xs place None ≡ Some x → numbers_at number xs (without place places) ≡ without (number x) (numbers_at number xs places)
  numbers_without xs places place x distinct are e = grind (arith, nat_tests, without_told, eqb_tells, eq-eqb, ne_eqb)

  -- a number that nothing has is in no line
  pub numbers_fresh : {test : X → Bool} (xs : List (Option X)) (places : List ℕ) (q : ℕ) → ArePlaces test xs places → ((i : ℕ) (x : X) → get_or xs i None ≡ Some x → number x ≢ q)
      → without q (numbers_at number xs places) ≡ numbers_at number xs places
  numbers_fresh xs places q are fresh = grind (arith, nat_tests, numbers_other)
