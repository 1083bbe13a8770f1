-- Lines of keys and of places that lead to the slots of a table, by a test of what is there.
use Rattle.bb8_tables.proofs.Words.{◌≡◌, ◌≢◌, ℕ, zero, suc, Bool, true, false, List, [], ◌∷◌, ◌++◌, drop, Option, Some, None, slice_get, get_or, refl, sym, ap, ◌∙◌, subst, eq-eqb, length, ◌+◌, arith, IsLine, ArePlaces, Absent}
use Rattle.bb8_tables.specs.Machine as machine
use Rattle.bb8_tables.proofs.Spelled.{without_cases, absent_get, absent_without_self, without_absent, without_keeps_absent}
use Rattle.bb8_tables.proofs.Slots
use Rattle.bb8_tables.proofs.Slots.{Updates}

-- ---- lines into a table

-- the content of a place passes
abbrev pub passes : {X : Type 0} → (X → Bool) → Option X → Bool
passes test None = false
passes test (Some x) = test x

module _ {X K : Type 0} {number : X → ℕ} {test : X → Bool} {key leads : K → ℕ} {old : List (Option X)} {keys : List K} {was : Option X} (l : IsLine number test key leads old keys) where
  -- a place that does not pass is on no line
  pub avoids : (place : ℕ) → get_or old place None ≡ was → passes test was ≡ false → (j : ℕ) (k : K) → slice_get keys j ≡ Some k → leads k ≢ place
  avoids place at_place off = Slots.line_avoids _ _ _ _ old keys place l (λ x e on. let clash : true ≡ false = sym on ∙ ap (passes test) (sym e ∙ at_place) ∙ off in cc)

  -- such a place changes
  pub other_line : {new : List (Option X)} {place : ℕ} {slot : Option X} → get_or old place None ≡ was → passes test was ≡ false → Updates old new place slot → IsLine number test key leads new keys
  other_line {new} {place} at_place off u = Slots.line_kept _ _ _ _ old new keys place l (avoids place at_place off) u.others

  -- it comes to the back, and passes from now on
  pub turned_line : {new : List (Option X)} (k : K) {y : X} → get_or old (leads k) None ≡ was → passes test was ≡ false → Updates old new (leads k) (Some y) → number y ≡ key k → test y ≡ true
      → IsLine number test key leads new (keys ++ k ∷ [])
  turned_line {new} k {y} at_place off u same on = Slots.line_pushed _ _ _ _ new keys k y (other_line at_place off u) (avoids (leads k) at_place off) u.changed same on

module _ {X K : Type 0} {number : X → ℕ} {test : X → Bool} {key leads : K → ℕ} where
  -- the first key goes, and its place changes
  pub shorter_line : {old new : List (Option X)} {keys : List K} {k : K} {slot : Option X} → IsLine number test key leads old keys
      → slice_get keys 0 ≡ Some k → Updates old new (leads k) slot → IsLine number test key leads new (drop 1 keys)
  shorter_line {old} {new} {keys} {k} l e u = go keys l e
    where
      go : (ks : List K) → IsLine number test key leads old ks → slice_get ks 0 ≡ Some k → IsLine number test key leads new (drop 1 ks)
      go [] l e = absurd (cc)
      go (x ∷ ks) l e = Slots.line_kept _ _ _ _ old new ks (leads k) (Slots.line_rest _ _ _ _ old x ks l)
          (let both : Some x ≡ Some k = e in subst (λ (y : K). Slots.Avoids number test key leads ks (leads y)) (let is : x ≡ k = cc in is) (Slots.line_rest_avoids _ _ _ _ old x ks l)) u.others

  -- a key comes to the front
  line_cons : (xs : List (Option X)) (k : K) (keys : List K) (x : X) → get_or xs (leads k) None ≡ Some x → number x ≡ key k → test x ≡ true
      → IsLine number test key leads xs keys → ((j : ℕ) (m : K) → slice_get keys j ≡ Some m → leads m ≢ leads k)
      → IsLine number test key leads xs (k ∷ keys)
  line_cons xs k keys x at_k same on l away = grind arith

  -- nothing changes at any place
  pub same_line : {old new : List (Option X)} {keys : List K} → IsLine number test key leads old keys → ((i : ℕ) → get_or new i None ≡ get_or old i None) → IsLine number test key leads new keys
  same_line l same = record { each = λ j k e. let st = l.each j k e in (st.0, same (leads k) ∙ st.1, st.2, st.3); once = l.once }

-- a place that none of a line's is, is absent from it
pub get_absent : (p : ℕ) (xs : List ℕ) → ((j k : ℕ) → slice_get xs j ≡ Some k → k ≢ p) → Absent p xs
get_absent p [] h = tt
get_absent p (x ∷ xs) h = (h 0 x refl, get_absent p xs (λ j k e. h (suc j) k e))

-- what is left when a place leaves is elsewhere
pub left_away : (places : List ℕ) (place : ℕ) → (j k : ℕ) → slice_get (machine.without place places) j ≡ Some k → k ≢ place
left_away places place j k e s = absent_get place j (machine.without place places) (absent_without_self place places) (e ∙ ap (λ (q : ℕ). Some q) s)

-- a line of places: one leaves and changes
module _ {X : Type 0} {test : X → Bool} where
  places_left : (xs : List (Option X)) (place : ℕ) (places : List ℕ) → ArePlaces test xs places → ArePlaces test xs (machine.without place places)
  places_left xs place [] l = l
  places_left xs place (k ∷ places) l =
      let rest : ArePlaces test xs (machine.without place places) = places_left xs place places (Slots.line_rest _ _ _ _ xs k places l) in
      let x = l.each 0 k refl in
      let apart : Absent k (machine.without place places) = without_keeps_absent place k places (get_absent k places (Slots.line_rest_avoids _ _ _ _ xs k places l)) in
      without_cases (λ (ks : List ℕ). ArePlaces test xs ks) place k places (λ s. rest)
      (λ s. line_cons xs k (machine.without place places) x.0 x.1 x.2 x.3 rest (λ j m e f. absent_get k j (machine.without place places) apart (e ∙ ap (λ (q : ℕ). Some q) f)))

  pub places_without : {old new : List (Option X)} {places : List ℕ} {place : ℕ} {slot : Option X} → ArePlaces test old places → Updates old new place slot
      → ArePlaces test new (machine.without place places)
  places_without {old} {new} {places} {place} l u = Slots.line_kept _ _ _ _ old new (machine.without place places) place (places_left old place places l) (left_away places place) u.others

  -- a place that does not pass is absent
  pub places_absent : {slots : List (Option X)} {places : List ℕ} {was : Option X} (place : ℕ) → ArePlaces test slots places → get_or slots place None ≡ was → passes test was ≡ false
      → Absent place places
  places_absent {places = places} place l at_place off = get_absent place places (avoids l place at_place off)

  -- the first place is there once
  pub without_first : (slots : List (Option X)) (places : List ℕ) (place : ℕ) → ArePlaces test slots places → slice_get places 0 ≡ Some place → machine.without place places ≡ drop 1 places
  without_first slots [] place l e = absurd (cc)
  without_first slots (p ∷ places) place l e =
      let both : Some p ≡ Some place = e in
      let is : p ≡ place = cc in
      let rest : Absent p places = get_absent p places (Slots.line_rest_avoids _ _ _ _ slots p places l) in
      rw (eq-eqb p place is) (without_absent place places (subst (λ (q : ℕ). Absent q places) is rest))

  -- a line is shorter by one without one of its places
  pub one_shorter : (slots : List (Option X)) (places : List ℕ) (place j : ℕ) → ArePlaces test slots places → slice_get places j ≡ Some place → length
      (machine.without place places) + 1 ≡ length places
  one_shorter slots [] place j l e = absurd (cc)
  one_shorter slots (p ∷ places) place j l e = without_cases (λ (ys : List ℕ). length ys + 1 ≡ length (p ∷ places)) place p places
      (λ s. let absent : Absent place places = subst (λ (q : ℕ). Absent q places) s (get_absent p places (Slots.line_rest_avoids _ _ _ _ slots p places l)) in
      omega (arith, ap (λ (ks : List ℕ). length ks) (without_absent place places absent)))
      (λ s. let t = later j e s in
      let ih : length (machine.without place places) + 1 ≡ length places = one_shorter slots places place t.0 (Slots.line_rest _ _ _ _ slots p places l) t.1 in omega arith)
    where
      later : (j : ℕ) → slice_get (p ∷ places) j ≡ Some place → p ≢ place → (i : ℕ) × (slice_get places i ≡ Some place)
      later zero e n = absurd (n (let both : Some p ≡ Some place = e in cc))
      later (suc i) e n = (i, e)
