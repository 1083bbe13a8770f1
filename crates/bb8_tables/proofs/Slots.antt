-- Laws of tables of places.
use Rattle.bb8_tables.proofs.Words.{◌≡◌, ◌≢◌, ◌⊎◌, ℕ, zero, suc, ◌+◌, ◌<◌, ◌≤◌, Bool, true, false, cond, eqb, List, [], ◌∷◌, ◌++◌, length, Option, Some, None, get_or, slice_get, refl, sym, ap, ◌∙◌, inl, inr, arith, ne_eqb, eq-eqb, subst, nat_cmp, set, get_or-set_other, get_or-set_same, option_map, FinMap, insert, remove, get, get-empty, tally, one, values_at, IsLine, IsTable, IsDistinct, same_or_not, get_inserted, get_removed, same_gets, nat_tests}
use Rattle.std.proofs.lemmas.List.{get_or_past}

-- a place has another content, and nothing else has changed
pub record Updates {X : Type 0} (old new : List (Option X)) (place : ℕ) (slot : Option X) : Type 0 where
  pub changed : get_or new place None ≡ slot
  pub others : (other : ℕ) → other ≢ place → get_or new other None ≡ get_or old other None

-- a place with content is inside
pub inside : {X : Type 0} (xs : List (Option X)) (i : ℕ) (x : X) → get_or xs i None ≡ Some x → i < length xs
inside xs i x e = grind (arith, nat_tests, get_or_past xs i None)

-- a place has another content from now on
pub set_within : {X : Type 0} (xs : List (Option X)) (place : ℕ) (slot : Option X) → place < length xs → Updates xs (set xs place slot) place slot
set_within xs place slot within = record { changed = get_or-set_same xs place slot None within; others = λ other n. get_or-set_other xs place other slot None n }

-- and so where something was
pub set_at : {X : Type 0} (xs : List (Option X)) (place : ℕ) (x : X) (slot : Option X) → get_or xs place None ≡ Some x → Updates xs (set xs place slot) place slot
set_at xs place x slot e = set_within xs place slot (inside xs place x e)

-- the content at an index after a change
pub changed_cases : {X : Type 0} {old new : List (Option X)} {place : ℕ} {slot : Option X} (i : ℕ) (y : X) → Updates old new place slot → get_or new i None ≡ Some y
    → ((i ≡ place) × (slot ≡ Some y)) ⊎ ((i ≢ place) × (get_or old i None ≡ Some y))
changed_cases {X} {old} {new} {place} {slot} i y u e = grind (arith, same_or_not i place)

module _ {X S : Type 0} (number : X → ℕ) (value : X → S) where
  abbrev pub Absent : List (Option X) → ℕ → Type 0
  Absent xs q = (i : ℕ) (x : X) → get_or xs i None ≡ Some x → number x ≢ q

  held_cons : (y : X) (xs : List (Option X)) (q : ℕ) → get (values_at number value (Some y ∷ xs)) q ≡ cond (eqb q (number y)) (Some (value y)) (get (values_at number value xs) q)
  held_cons y xs q = get_inserted (values_at number value xs) (number y) (value y) q

  -- what is somewhere is held
  held_some : (xs : List (Option X)) (i : ℕ) (x : X) → get_or xs i None ≡ Some x → (s : S) × (get (values_at number value xs) (number x) ≡ Some s)
  held_some [] i x e = cc
  held_some (None ∷ xs) zero x e = cc
  held_some (None ∷ xs) (suc i) x e = held_some xs i x e
  held_some (Some y ∷ xs) zero x e = (value y, held_cons y xs (number x) ∙ rw (eq-eqb (number x) (number y) (let is : x ≡ y = cc in ap number is)) refl)
  held_some (Some y ∷ xs) (suc i) x e = grind (arith, nat_tests, held_some xs i x e, same_or_not (number x) (number y), held_cons y xs (number x))

  -- and what is held is somewhere
  pub held_found : (xs : List (Option X)) (q : ℕ) (s : S) → get (values_at number value xs) q ≡ Some s → (i : ℕ) × (x : X) × (get_or xs i None ≡ Some x) × (number x ≡ q) × (value x ≡ s)
  held_found [] q s e = absurd (let clash : None ≡ Some s = sym (get-empty nat_cmp q) ∙ e in cc)
  held_found (None ∷ xs) q s e = let f = held_found xs q s e in (suc f.0, f.1, f.2, f.3, f.4)
  held_found (Some y ∷ xs) q s e = elim (same_or_not q (number y)) [
    | inl t ↦ let both : Some (value y) ≡ Some s = ap (λ (b : Bool). cond b (Some (value y)) (get (values_at number value xs) q)) (sym t.0) ∙ sym (held_cons y xs q) ∙ e in
        (0, y, refl, sym t.1, (let is : value y ≡ s = cc in is))
    | inr t ↦ let f = held_found xs q s (ap (λ (b : Bool). cond b (Some (value y)) (get (values_at number value xs) q)) (sym t.0) ∙ sym (held_cons y xs q) ∙ e) in
        (suc f.0, f.1, f.2, f.3, f.4)
  ]

  pub held_absent : (xs : List (Option X)) (q : ℕ) → Absent xs q → get (values_at number value xs) q ≡ None
  held_absent xs q a = grind (arith, nat_tests, held_found xs q)

  pub held_at : (xs : List (Option X)) (i : ℕ) (x : X) → IsDistinct number xs → get_or xs i None ≡ Some x → get (values_at number value xs) (number x) ≡ Some (value x)
  held_at xs i x d e = grind (arith, held_some xs i x e, held_found)

  -- so a map that holds what is there, and nothing else, is what they hold
  held_is : (xs : List (Option X)) (m : FinMap nat_cmp S) → ((i : ℕ) (x : X) → get_or xs i None ≡ Some x → get m (number x) ≡ Some (value x)) → ((q : ℕ) → Absent xs q → get m q ≡ None)
      → values_at number value xs ≡ m
  held_is xs m each none = same_gets _ _ (λ q. go q (get (values_at number value xs) q) refl)
    where
      go : (q : ℕ) (o : Option S) → get (values_at number value xs) q ≡ o → get (values_at number value xs) q ≡ get m q
      go q o h = grind (arith, nat_tests, held_found xs q, held_some xs)

  pub held_same : (old new : List (Option X)) → IsDistinct number old → ((i : ℕ) → get_or new i None ≡ get_or old i None) → values_at number value new ≡ values_at number value old
  held_same old new d same = held_is new _ (λ i x e. held_at old i x d (sym (same i) ∙ e)) (λ q absent. held_absent old q (λ i x e. absent i x (same i ∙ e)))

  -- what places hold after one has changed: it has one number, before and after, and no other
  -- place has that
  pub held_changed : {old new : List (Option X)} {place q : ℕ} {slot : Option X} (m : FinMap nat_cmp S) → IsDistinct number old → Updates old new place slot
      → ((k : ℕ) → get m k ≡ cond (eqb k q) (option_map value slot) (get (values_at number value old) k)) → ((x : X) → slot ≡ Some x → number x ≡ q)
      → ((i : ℕ) (y : X) → get_or old i None ≡ Some y → (i ≡ place → number y ≡ q) × (number y ≡ q → i ≡ place)) → values_at number value new ≡ m
  held_changed {old} {new} {place} {q} {slot} m d u is here alone = held_is new m each none
    where
      each : (i : ℕ) (y : X) → get_or new i None ≡ Some y → get m (number y) ≡ Some (value y)
      each i y e = is (number y) ∙ elim (changed_cases i y u e) [
        | inl t ↦ rw (eq-eqb _ _ (here y t.1)) (ap (option_map value) t.1)
        | inr t ↦ rw (ne_eqb _ _ (λ s. t.0 ((alone i y t.1).1 s))) (held_at old i y d t.1)
      ]

      gone : (k : ℕ) (o : Option X) → slot ≡ o → Absent new k → k ≡ q → option_map value o ≡ None
      gone k None e absent s = refl
      gone k (Some x) e absent s = absurd (absent place x (u.changed ∙ e) (here x e ∙ sym s))

      none : (k : ℕ) → Absent new k → get m k ≡ None
      none k absent = is k ∙ elim (same_or_not k q) [
        | inl t ↦ rw t.0 (gone k slot refl absent t.1)
        | inr t ↦ rw t.0 (held_absent old k (λ i y e s. elim (same_or_not i place) [
          | inl z ↦ t.1 (sym s ∙ (alone i y e).0 z.1)
          | inr z ↦ absent i y (u.others i z.1 ∙ e) s
        ]))
      ]

-- a change to a number that no other place has
distinct_changed : {X : Type 0} {number : X → ℕ} {old new : List (Option X)} {place : ℕ} {slot : Option X} → IsDistinct number old → Updates old new place slot
    → ((x y : X) (i : ℕ) → slot ≡ Some x → get_or old i None ≡ Some y → number y ≡ number x → i ≡ place) → IsDistinct number new
distinct_changed {X} {number} {old} {new} {place} {slot} d u alone i j x y ex ey same = grind arith

-- ---- lines of keys

-- what is at an index after one more has come to the back
pub get-push : {K : Type 0} (ks : List K) (k m : K) (j : ℕ) → slice_get (ks ++ k ∷ []) j ≡ Some m → (slice_get ks j ≡ Some m) ⊎ ((j ≡ length ks) × (k ≡ m))
get-push [] k m zero e = inr (refl, let same : Some k ≡ Some m = e in cc)
get-push [] k m (suc j) e = cc
get-push (x ∷ ks) k m zero e = inl e
get-push (x ∷ ks) k m (suc j) e = elim (get-push ks k m j e) [ inl h ↦ inl h | inr h ↦ inr (ap suc h.0, h.1) ]

module _ {X K : Type 0} (number : X → ℕ) (test : X → Bool) (key leads : K → ℕ) where
  -- no key of the line leads to the place
  abbrev pub Avoids : List K → ℕ → Type 0
  Avoids keys place = (j : ℕ) (k : K) → slice_get keys j ≡ Some k → leads k ≢ place

  pub line_rest : (xs : List (Option X)) (k : K) (keys : List K) → IsLine number test key leads xs (k ∷ keys) → IsLine number test key leads xs keys
  line_rest xs k keys l = record { each = λ j m e. l.each (suc j) m e; once = λ i j k m e f s. omega (arith, l.once (suc i) (suc j) k m e f s) }

  pub line_rest_avoids : (xs : List (Option X)) (k : K) (keys : List K) → IsLine number test key leads xs (k ∷ keys) → Avoids keys (leads k)
  line_rest_avoids xs k keys l j m e s = omega (arith, l.once (suc j) 0 m k e refl s)

  -- a place that does not pass is on no line
  pub line_avoids : (xs : List (Option X)) (keys : List K) (place : ℕ) → IsLine number test key leads xs keys → ((x : X) → get_or xs place None ≡ Some x → test x ≡ true → ⊥) → Avoids keys place
  line_avoids xs keys place l off j k e s = grind arith

  -- what happens at a place that the line avoids
  pub line_kept : (old new : List (Option X)) (keys : List K) (place : ℕ) → IsLine number test key leads old keys → Avoids keys place
      → ((other : ℕ) → other ≢ place → get_or new other None ≡ get_or old other None) → IsLine number test key leads new keys
  line_kept old new keys place l avoids others = grind arith

  pub line_pushed : (xs : List (Option X)) (keys : List K) (k : K) (x : X) → IsLine number test key leads xs keys → Avoids keys (leads k)
      → get_or xs (leads k) None ≡ Some x → number x ≡ key k → test x ≡ true → IsLine number test key leads xs (keys ++ k ∷ [])
  line_pushed xs keys k x l avoids at_k same pass = grind (arith, get-push)

-- ---- tallies

module _ {X : Type 0} (p : Option X → Bool) (nothing : p None ≡ false) where
  weighs : {x y : Option X} → y ≡ x → one (p y) ≡ one (p x)
  weighs e = ap (λ (o : Option X). one (p o)) e

  pub tally_changed : (xs ys : List (Option X)) (key : ℕ) → ((other : ℕ) → other ≢ key → get_or ys other None ≡ get_or xs other None)
      → tally p ys + one (p (get_or xs key None)) ≡ tally p xs + one (p (get_or ys key None))
  tally_changed [] [] key h = refl
  tally_changed [] (y ∷ ys) zero h = omega (arith, tally_changed [] ys zero (λ i n. h (suc i) (λ e. omega arith)), weighs (h 1 (λ e. omega arith)), ap one nothing)
  tally_changed [] (y ∷ ys) (suc key) h = omega (arith, weighs (h 0 (λ e. omega arith)), ap one nothing, tally_changed [] ys key (λ i n. h (suc i) (λ s. n (let t : i ≡ key = omega arith in t))))
  tally_changed (x ∷ xs) [] zero h = omega (arith, tally_changed xs [] zero (λ i n. h (suc i) (λ e. omega arith)), weighs (h 1 (λ e. omega arith)), ap one nothing)
  tally_changed (x ∷ xs) [] (suc key) h = omega (arith, weighs (h 0 (λ e. omega arith)), ap one nothing, tally_changed xs [] key (λ i n. h (suc i) (λ s. n (let t : i ≡ key = omega arith in t))))
  tally_changed (x ∷ xs) (y ∷ ys) zero h = omega (arith, tally_changed xs ys zero (λ i n. h (suc i) (λ e. omega arith)), weighs (h 1 (λ e. omega arith)))
  tally_changed (x ∷ xs) (y ∷ ys) (suc key) h = omega (arith, weighs (h 0 (λ e. omega arith)), tally_changed xs ys key (λ i n. h (suc i) (λ s. n (let t : i ≡ key = omega arith in t))))

  pub tally_same : (xs ys : List (Option X)) → ((i : ℕ) → get_or ys i None ≡ get_or xs i None) → tally p ys ≡ tally p xs
  tally_same xs ys h = omega (arith, tally_changed xs ys 0 (λ i n. h i), weighs (h 0))

  -- so after a change from what passes or not to what passes or not
  pub tally_set : {old new : List (Option X)} {place n : ℕ} {was is : Option X} (b c : Bool) → tally p old ≡ n → get_or old place None ≡ was → Updates old new place is
      → p was ≡ b → p is ≡ c → tally p new + one b ≡ n + one c
  tally_set {old} {new} {place} b c are at_place u was_b is_c = omega (arith, tally_changed old new place u.others, ap one (ap p at_place ∙ was_b), ap one (ap p u.changed ∙ is_c))

  -- what passes is counted
  pub tally_at : (xs : List (Option X)) (i : ℕ) → one (p (get_or xs i None)) ≤ tally p xs
  tally_at [] i = omega (arith, ap one nothing)
  tally_at (x ∷ xs) zero = omega arith
  tally_at (x ∷ xs) (suc i) = omega (arith, tally_at xs i)

-- a line is no longer than there are places that pass
module _ {X K : Type 0} (number : X → ℕ) (test : X → Bool) (key leads : K → ℕ) (p : Option X → Bool) (nothing : p None ≡ false) (same : (x : X) → test x ≡ true → p (Some x) ≡ true) where
  pub line_length : (keys : List K) (xs : List (Option X)) → IsLine number test key leads xs keys → length keys ≤ tally p xs
  line_length [] xs l = omega arith
  line_length (k ∷ keys) xs l =
      let x = l.each 0 k refl in
      let there : leads k < length xs = inside xs (leads k) x.0 x.1 in
      let others : (other : ℕ) → other ≢ leads k → get_or (set xs (leads k) None) other None ≡ get_or xs other None = λ other n. get_or-set_other xs (leads k) other None None n in
      let rest : IsLine number test key leads (set xs (leads k) None) keys =
      line_kept number test key leads xs (set xs (leads k) None) keys (leads k) (line_rest number test key leads xs k keys l)
      (line_rest_avoids number test key leads xs k keys l) others in
      let ih : length keys ≤ tally p (set xs (leads k) None) = line_length keys (set xs (leads k) None) rest in
      let t : tally p (set xs (leads k) None) + one (p (get_or xs (leads k) None)) ≡ tally p xs + one
      (p (get_or (set xs (leads k) None) (leads k) None)) = tally_changed p nothing xs (set xs (leads k) None) (leads k) others in
      omega (arith, ap (λ (o : Option X). one (p o)) x.1 ∙ ap one (same x.0 x.3), ap (λ (o : Option X). one (p o)) (get_or-set_same xs (leads k) None None there) ∙ ap one nothing)

-- ---- what a change does to a table

-- each index has the same
pub table_kept : {X : Type 0} {number : X → ℕ} {old new : List (Option X)} {next : ℕ} → IsTable number old next → ((i : ℕ) → get_or new i None ≡ get_or old i None) → IsTable number new next
table_kept t kept = record { distinct = λ i j x y e f. t.distinct i j x y (sym (kept i) ∙ e) (sym (kept j) ∙ f); below = λ i x e. t.below i x (sym (kept i) ∙ e) }

module _ {X : Type 0} {number : X → ℕ} {old new : List (Option X)} {next place : ℕ} (t : IsTable number old next) where
  -- another value at a place, with the same number
  pub table_set : {was x : X} → get_or old place None ≡ Some was → number was ≡ number x → Updates old new place (Some x) → IsTable number new next
  table_set {was} {x} at_place same u = grind (arith, distinct_changed)

  -- the next number at a free place
  pub table_added : {x : X} → number x ≡ next → Updates old new place (Some x) → IsTable number new (next + 1)
  table_added {x} is_next u = grind (arith, distinct_changed)

  -- a place is freed
  pub table_removed : Updates old new place None → IsTable number new next
  table_removed u = grind (arith, distinct_changed)

  -- what it holds then
  module _ {S : Type 0} (value : X → S) where
    pub held_set : {was x : X} → get_or old place None ≡ Some was → number was ≡ number x → Updates old new place (Some x)
        → values_at number value new ≡ insert (values_at number value old) (number x) (value x)
    held_set {was} {x} at_place same u = held_changed number value _ t.distinct u (λ k. get_inserted (values_at number value old) (number x) (value x) k)
        (λ y e. let is : x ≡ y = cc in ap number (sym is))
        (λ i y e. (
          λ s. ap number (let is : y ≡ was = let here : get_or old place None ≡ Some y = subst (λ (j : ℕ). get_or old j None ≡ Some y) s e in cc in is)
              ∙ same,
          λ s. t.distinct i place y was e at_place (s ∙ sym same),
        ))

    pub held_added : {x : X} → get_or old place None ≡ None → number x ≡ next → Updates old new place (Some x)
        → values_at number value new ≡ insert (values_at number value old) (number x) (value x)
    held_added {x} free is_next u = held_changed number value _ t.distinct u (λ k. get_inserted (values_at number value old) (number x) (value x) k) (λ y e. let is : x ≡ y = cc in ap number (sym is))
        (λ i y e. (
          λ s. absurd (let here : get_or old place None ≡ Some y = subst (λ (j : ℕ). get_or old j None ≡ Some y) s e in let clash : None ≡ Some y = sym free ∙ here in cc),
          λ s. absurd (omega (arith, t.below i y e)),
        ))

    pub held_removed : {was : X} → get_or old place None ≡ Some was → Updates old new place None → values_at number value new ≡ remove (values_at number value old) (number was)
    held_removed {was} at_place u = held_changed number value _ t.distinct u (λ k. get_removed (values_at number value old) (number was) k) (λ y e. cc)
        (λ i y e. (
          λ s. ap number (let is : y ≡ was = let here : get_or old place None ≡ Some y = subst
              (λ (j : ℕ). get_or old j None ≡ Some y) s e in cc in is),
          λ s. t.distinct i place y was e at_place s,
        ))
