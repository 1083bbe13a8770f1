-- Orders of all the places whose content passes a test.
use Rattle.bb8_tables.proofs.Words.{◌≡◌, ◌≢◌, ◌≤◌, ℕ, zero, suc, Bool, true, false, arith, map, List, [], ◌∷◌, ◌++◌, Option, Some, None, slice_get, get_or, option_map, refl, sym, ap, ◌∙◌, ◌⊎◌, inl, inr, subst, map-append, slice_get-map, without, IsOrder, IsRising, AllFrom, number_in, numbers_at, Absent, same_or_not, nat_tests}
use Rattle.bb8_tables.proofs.Lines.{passes, avoids, same_line, places_without, left_away}
use Rattle.bb8_tables.proofs.Numbers.{numbers_all, numbers_kept, numbers_same, numbers_push}
use Rattle.bb8_tables.proofs.Slots.{Updates, changed_cases, line_kept, line_pushed}
use Rattle.bb8_tables.proofs.Spelled.{without_cases, absent_push, absent_without}

-- ---- numbers that rise

from_push : (n m : ℕ) (ns : List ℕ) → AllFrom n ns → n ≤ m → AllFrom n (ns ++ m ∷ [])
from_push n m [] a l = (l, tt)
from_push n m (x ∷ ns) a l = (a.0, from_push n m ns a.1 l)

rising_push : (m : ℕ) (ns : List ℕ) → IsRising ns → ((j n : ℕ) → slice_get ns j ≡ Some n → n ≤ m) → IsRising (ns ++ m ∷ [])
rising_push m [] r l = (tt, tt)
rising_push m (n ∷ ns) r l = (from_push n m ns r.0 (l 0 n refl), rising_push m ns r.1 (λ j k e. l (suc j) k e))

from_without : (f : ℕ → ℕ) (p n : ℕ) (places : List ℕ) → AllFrom n (map f places) → AllFrom n (map f (without p places))
from_without f p n [] a = tt
from_without f p n (k ∷ places) a = without_cases (λ (ys : List ℕ). AllFrom n (map f ys)) p k places (λ s. from_without f p n places a.1) (λ s. (a.0, from_without f p n places a.1))

rising_without : (f : ℕ → ℕ) (p : ℕ) (places : List ℕ) → IsRising (map f places) → IsRising (map f (without p places))
rising_without f p [] r = tt
rising_without f p (k ∷ places) r = grind (arith, nat_tests, without_cases, rising_without f p places r.1, from_without f p (f k) places r.0)

-- ---- orders

module _ {X : Type 0} (test : X → Bool) where
  not_passing : (o : Option X) (x : X) → passes test o ≡ false → o ≡ Some x → test x ≡ false
  not_passing o x off e = ap (passes test) (sym e) ∙ off

module _ {X : Type 0} {test : X → Bool} {moment : X → ℕ} where
  pub no_order : IsOrder test moment [] []
  no_order = grind arith

  -- each index has the same
  pub same_order : {old new : List (Option X)} {places : List ℕ} → IsOrder test moment old places → ((i : ℕ) → get_or new i None ≡ get_or old i None) → IsOrder test moment new places
  same_order {old} {new} {places} o same = grind (arith, same_line o.are same, numbers_all moment old new places same)

  module _ {old new : List (Option X)} {places : List ℕ} {place : ℕ} {slot : Option X} (o : IsOrder test moment old places) (u : Updates old new place slot) where
    -- what holds of the content after the change
    changed : (P : ℕ → Type 0) → ((x : X) → slot ≡ Some x → P place → test x ≡ false) → ((i : ℕ) → i ≢ place → P i → Absent i places) → (i : ℕ) (x : X) → get_or new i None ≡ Some x → P i
        → test x ≡ false
    changed P here there i x e p = elim (changed_cases i x u e) [ inl t ↦ here x t.1 (subst P t.0 p) | inr t ↦ o.all i x t.1 (there i t.0 p) ]

    -- a place passes no more, and leaves
    pub left_order : passes test slot ≡ false → IsOrder test moment new (without place places)
    left_order off =
        grind (
          arith,
          nat_tests,
          places_without o.are u,
          u,
          not_passing test slot,
          absent_without place,
          numbers_kept moment old new place (without place places) (left_away places place) u.others,
          left_away places place,
          rising_without,
        )

    module _ {was : Option X} (at_place : get_or old place None ≡ was) (off : passes test was ≡ false) where
      away : (j k : ℕ) → slice_get places j ≡ Some k → k ≢ place
      away = avoids o.are place at_place off

      -- a place changes that passes neither before nor after
      pub other_order : passes test slot ≡ false → IsOrder test moment new places
      other_order off_now = grind (arith, nat_tests, line_kept, not_passing test slot, numbers_kept moment old new place places away u.others)

      -- a place passes from now on, and comes to the new end
      pub pushed_order : {y : X} → slot ≡ Some y → test y ≡ true → ((i : ℕ) (x : X) → get_or old i None ≡ Some x → moment x ≤ moment y) → IsOrder test moment new (places ++ place ∷ [])
      pushed_order {y} is on late = record {
        are = line_pushed _ _ _ _ new places place y (line_kept _ _ _ _ old new places place o.are away u.others) away (u.changed ∙ is) refl on;
        all = changed (λ (i : ℕ). Absent i (places ++ place ∷ [])) (λ x e a. absurd ((absent_push place place places a).1 refl)) (λ i n a. (absent_push i place places a).0);
        rises = subst IsRising
            (sym (numbers_push moment new places place y (u.changed ∙ is) ∙ ap (λ (ns : List ℕ). ns ++ moment y ∷ []) (numbers_kept moment old new place places away u.others)))
            (rising_push (moment y) (numbers_at moment old places) o.rises (moments_before places (λ j k e. let st = o.are.each j k e in (st.0, st.1))));
      }
        where
          -- the moments of places are no later than all moments
          moments_before : (ks : List ℕ) → ((j k : ℕ) → slice_get ks j ≡ Some k → (x : X) × (get_or old k None ≡ Some x)) → (j n : ℕ) → slice_get (numbers_at moment old ks) j ≡ Some n → n ≤ moment y
          moments_before [] stand j n e = cc
          moments_before (k ∷ ks) stand zero n e = grind (arith, nat_tests)
          moments_before (k ∷ ks) stand (suc j) n e = moments_before ks (λ i m f. stand (suc i) m f) j n e

  -- a place passes before and after
  pub stays_order : {old new : List (Option X)} {places : List ℕ} {place : ℕ} {x y : X} → IsOrder test moment old places → Updates old new place (Some y) → get_or old place None ≡ Some x
      → test x ≡ true → test y ≡ true → moment y ≡ moment x → IsOrder test moment new places
  stays_order {old} {new} {places} {place} {x} {y} o u was on on_now same = grind (arith, nat_tests, same_or_not, numbers_same moment old new place x y places was same u)

-- ---- what is in an order

-- a place is absent, or is at an index
absent_or_at : (p : ℕ) (xs : List ℕ) → Absent p xs ⊎ ((j : ℕ) × (slice_get xs j ≡ Some p))
absent_or_at p [] = inl tt
absent_or_at p (x ∷ xs) = elim (same_or_not x p) [ inl t ↦ inr (0, ap (λ (q : ℕ). Some q) t.1) | inr t ↦ elim (absent_or_at p xs) [ inl a ↦ inl (t.1, a) | inr h ↦ inr (suc h.0, h.1) ] ]

module _ {X : Type 0} {test : X → Bool} {moment : X → ℕ} where
  -- what passes is in the order
  pub found_in : {slots : List (Option X)} {places : List ℕ} → IsOrder test moment slots places → (i : ℕ) (x : X) → get_or slots i None ≡ Some x → test x ≡ true
      → (j : ℕ) × (slice_get places j ≡ Some i)
  found_in {slots} {places} o i x e on = elim (absent_or_at i places) [ inl a ↦ absurd (let clash : true ≡ false = sym on ∙ o.all i x e a in cc) | inr h ↦ h ]

from_at : (n m j : ℕ) (ns : List ℕ) → AllFrom n ns → slice_get ns j ≡ Some m → n ≤ m
from_at n m j [] a e = cc
from_at n m zero (x ∷ ns) a e = let is : x ≡ m = cc in omega (arith, a.0)
from_at n m (suc j) (x ∷ ns) a e = from_at n m j ns a.1 e

rising_rest : (ns ms : List ℕ) → IsRising (ns ++ ms) → IsRising ms
rising_rest [] ms r = r
rising_rest (n ∷ ns) ms r = rising_rest ns ms r.1

module _ {X : Type 0} (moment : X → ℕ) (slots : List (Option X)) where
  -- from a place on, all moments are at least its own
  pub no_earlier : (passed rest : List ℕ) (p q j : ℕ) (x y : X) → IsRising (numbers_at moment slots (passed ++ p ∷ rest)) → get_or slots p None ≡ Some x
      → slice_get (p ∷ rest) j ≡ Some q → get_or slots q None ≡ Some y → moment x ≤ moment y
  no_earlier passed rest p q j x y r e at_j f =
      let f_of = λ (i : ℕ). number_in moment (get_or slots i None) in
      let later : IsRising (map f_of (p ∷ rest)) = rising_rest (map f_of passed) (map f_of (p ∷ rest)) (subst IsRising (map-append f_of passed (p ∷ rest)) r) in
      go j at_j later
    where
      go : (i : ℕ) → slice_get (p ∷ rest) i ≡ Some q → IsRising (numbers_at moment slots (p ∷ rest)) → moment x ≤ moment y
      go zero g later = grind (arith, nat_tests)
      go (suc i) g later =
          let l : number_in moment (get_or slots p None) ≤ number_in moment (get_or slots q None) =
          from_at _ _ i (numbers_at moment slots rest) later.0
          (slice_get-map (λ (k : ℕ). number_in moment (get_or slots k None)) rest i ∙ ap (option_map (λ (k : ℕ). number_in moment (get_or slots k None))) g) in
          omega (arith, ap (number_in moment) e, ap (number_in moment) f)
