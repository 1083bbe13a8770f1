-- What the steps of a table do to what it shows.
use Rattle.bb8_tables.proofs.Words.{◌≡◌, get_or-set_other, get_or-set_same, ℕ, zero, suc, ◌+◌, ◌<◌, ◌≤◌, Bool, false, cond, eqb, List, [], ◌∷◌, ◌++◌, length, set, slice_get, get_or, Option, Some, None, IsSome, refl, sym, ap, ◌∙◌, arith, subst, length-append, length-map, map-set, map_push, eqb_tells, slice_get_read, with_item, end_of_numbers, Slot, most_places, slot_in, slots_of, view_of_table, IsGoodTable, AreFree, TableView, Absent, inl, inr, cases_lt, nat_tests}
use Rattle.std.specs.Prelude.{vec_capacity}
use Rattle.bb8_tables.specs.declared.table.Table.TheInside.{Inside}
use Rattle.bb8_tables.proofs.Spelled.{few_below, Distinct, Below, absent_push, push_absent}
use Rattle.std.proofs.lemmas.List.{length-set, get_or_past, get_or_append_left, get_or_push}

-- ---- places that are free

none_stands : {X : Type 0} (o : Option X) → o ≡ None → IsSome o → ⊥
none_stands o e h = grind (arith, nat_tests)

pub get_or_none : {X : Type 0} (xs : List (Option X)) (i : ℕ) → get_or (xs ++ None ∷ []) i None ≡ get_or xs i None
get_or_none xs i = grind (arith, nat_tests, cases_lt i (length xs), get_or_append_left xs (None ∷ []) None i, get_or_past, get_or_push, length-append)

module _ {X : Type 0} where
  -- the place after the last one is not free
  past_absent : (xs : List (Option X)) (ps : List ℕ) → AreFree xs ps → Absent (length xs) ps
  past_absent xs [] a = tt
  past_absent xs (q ∷ ps) a = ((λ e. omega (arith, a.1, e)), past_absent xs ps a.4)

  -- a place with content is inside
  pub stands_inside : (xs : List (Option X)) (i : ℕ) → IsSome (get_or xs i None) → i < length xs
  stands_inside xs i h = grind (arith, nat_tests, get_or_past xs i None)

  -- a place with content is not free
  pub stands_absent : (xs : List (Option X)) (ps : List ℕ) (p : ℕ) → AreFree xs ps → IsSome (get_or xs p None) → Absent p ps
  stands_absent xs [] p a h = tt
  stands_absent xs (q ∷ ps) p a h = ((λ e. none_stands (get_or xs q None) a.2 (subst (λ (k : ℕ). IsSome (get_or xs k None)) (sym e) h)), stands_absent xs ps p a.4 h)

  -- another place changes
  pub set_free : (xs : List (Option X)) (ps : List ℕ) (p : ℕ) (o : Option X) → AreFree xs ps → Absent p ps → AreFree (set xs p o) ps
  set_free xs [] p o a n = tt
  set_free xs (q ∷ ps) p o a n = (a.0, subst (λ (m : ℕ). q < m) (sym (length-set xs p o)) a.1, get_or-set_other xs p q o None n.0 ∙ a.2, a.3, set_free xs ps p o a.4 n.1)

  -- a place is added
  pub more_free : (xs : List (Option X)) (ps : List ℕ) → AreFree xs ps → AreFree (xs ++ None ∷ []) ps
  more_free xs [] a = tt
  more_free xs (q ∷ ps) a = (a.0, omega (arith, a.1, length-append xs (None ∷ [])), get_or_none xs q ∙ a.2, a.3, more_free xs ps a.4)

  -- one more is free
  pub push_free : (xs : List (Option X)) (ps : List ℕ) (p : ℕ) → AreFree xs ps → 0 < p → p < length xs → get_or xs p None ≡ None → Absent p ps → AreFree xs (ps ++ p ∷ [])
  push_free xs [] p a apart within none n = (apart, within, none, tt, tt)
  push_free xs (q ∷ ps) p a apart within none n = (a.0, a.1, a.2, push_absent q p ps a.3 (λ e. n.0 (sym e)), push_free xs ps p a.4 apart within none n.1)

  -- the last one is free no more
  pub pop_free : (xs : List (Option X)) (ps : List ℕ) (p : ℕ) → AreFree xs (ps ++ p ∷ []) → AreFree xs ps × (0 < p) × (p < length xs) × (get_or xs p None ≡ None) × Absent p ps
  pop_free xs [] p a = (tt, a.0, a.1, a.2, tt)
  pop_free xs (q ∷ ps) p a = grind (arith, nat_tests, pop_free xs ps p a.4, absent_push q p ps a.3)

  free_told : (xs : List (Option X)) (ps : List ℕ) → AreFree xs ps → Distinct ps × Below (length xs) ps
  free_told xs [] a = (tt, tt)
  free_told xs (q ∷ ps) a = let r = free_told xs ps a.4 in ((a.3, r.0), (a.1, r.1))

  -- beside a place that is not free there is space for one more
  pub fewer_free : (xs : List (Option X)) (ps : List ℕ) (p : ℕ) → AreFree xs ps → p < length xs → Absent p ps → length ps < length xs
  fewer_free xs ps p a within n = let r = free_told xs ps a in omega (arith, few_below (length xs) (p ∷ ps) (n, r.0) (within, r.1))

  -- there is space for a place that is added, and it is free then
  pub added_fewer : (xs : List (Option X)) (ps : List ℕ) → AreFree xs ps → length ps < length xs + 1
  added_fewer xs ps a = omega (arith, few_below (length xs) ps (free_told xs ps a).0 (free_told xs ps a).1)

  pub added_free : (xs : List (Option X)) (ps : List ℕ) → AreFree xs ps → 0 < length xs → AreFree (xs ++ None ∷ []) (ps ++ length xs ∷ [])
  added_free xs ps a some = grind (arith, nat_tests, push_free, more_free, length-append, get_or_none, get_or_past, past_absent)

-- ---- the content of a slot

module _ {S : Type 0} where
  -- the content of a slot that is read
  get_slot : (xs : List (Slot S)) (i : ℕ) (x : Slot S) → slice_get xs i ≡ Some x → get_or (slots_of xs) i None ≡ slot_in x
  get_slot [] i x e = cc
  get_slot (z ∷ xs) zero x e = let both : Some z ≡ Some x = e in ap slot_in (let is : z ≡ x = cc in is)
  get_slot (z ∷ xs) (suc i) x e = get_slot xs i x e

  pub slot_taken : (x : Slot S) → eqb x.number end_of_numbers ≡ false → slot_in x ≡ Some x
  slot_taken x e = ap (λ (b : Bool). cond b None (Some x)) e

  slot_is : (x s : Slot S) → slot_in x ≡ Some s → (x ≡ s) × (eqb x.number end_of_numbers ≡ false)
  slot_is x s e = grind arith

  module _ (a : Inside S) (good : IsGoodTable a) where
    abbrev slots : List (Option (Slot S))
    slots = slots_of a.slots.items

    pub sized : length slots ≡ a.slots.len
    sized = length-map a.slots.items slot_in ∙ sym a.slots.ok.0

    pub size_seen : (now : TableView (Slot S)) → view_of_table a ≡ now → length now.slots ≡ a.slots.len
    size_seen now is = ap (λ (t : TableView (Slot S)). length t.slots) (sym is) ∙ sized

    -- a place with content is inside, and not the first place
    pub stands : (now : TableView (Slot S)) (p : ℕ) → view_of_table a ≡ now → IsSome (get_or now.slots p None) → (p < a.slots.len) × (0 < p)
    stands now p is h =
        let here : IsSome (get_or slots p None) = subst (λ (t : TableView (Slot S)). IsSome (get_or t.slots p None)) (sym is) h in (
          omega (arith, stands_inside slots p here, sized),
          elim (eqb_tells p 0) [ inl t ↦ absurd (none_stands (get_or slots 0 None) good.first (subst (λ (k : ℕ). IsSome (get_or slots k None)) t.1 here)) | inr t ↦ omega (arith, t.1) ],
        )

    pub set_seen : (now : TableView (Slot S)) → view_of_table a ≡ now → (p : ℕ) (y : Slot S) (o : Option (Slot S)) → slot_in y ≡ o → slots_of (set a.slots.items p y) ≡ set now.slots p o
    set_seen now is p y o e = map-set slot_in a.slots.items p y ∙ ap (set slots p) e ∙ ap (λ (t : TableView (Slot S)). set t.slots p o) is

    -- another slot comes to a place
    module _ (new : Inside S) (p : ℕ) (y : Slot S) (items : new.slots.items ≡ set a.slots.items p y) where
      set_shown : slots_of new.slots.items ≡ set slots p (slot_in y)
      set_shown = ap slots_of items ∙ map-set slot_in a.slots.items p y

      pub set_good : new.slots.len ≡ a.slots.len → new.line.size ≡ a.line.size → new.births.size ≡ a.births.size → 0 < p → AreFree (set slots p (slot_in y)) new.free.items
          → vec_capacity new.free ≡ vec_capacity a.free → IsGoodTable new
      set_good len line births apart free room = record {
        line = omega (arith, good.line);
        births = omega (arith, good.births);
        first = ap (λ (ys : List (Option (Slot S))). get_or ys 0 None) set_shown ∙ get_or-set_other slots p 0 (slot_in y) None (λ e. omega arith) ∙ good.first;
        free = subst (λ (ys : List (Option (Slot S))). AreFree ys new.free.items) (sym set_shown) free;
        room = omega (arith, good.room);
        few = omega (arith, good.few);
      }

    -- a content takes the place of another
    module _ (now : TableView (Slot S)) (is : view_of_table a ≡ now) (p : ℕ) (h : IsSome (get_or now.slots p None)) where
      pub stood_absent : Absent p a.free.items
      stood_absent = stands_absent slots a.free.items p good.free (subst (λ (t : TableView (Slot S)). IsSome (get_or t.slots p None)) (sym is) h)

      pub restood_good : (y : Slot S) → IsGoodTable (record { slots = with_item a.slots p y; line = a.line; births = a.births; free = a.free })
      restood_good y = set_good _ p y refl refl refl refl (stands now p is h).1 (set_free slots a.free.items p (slot_in y) good.free stood_absent) refl

      pub restood_was : (x s : Slot S) → x ≡ get_or a.slots.items p x → get_or now.slots p None ≡ Some s → (x ≡ s) × (eqb x.number end_of_numbers ≡ false)
      restood_was x s at_p e = slot_is x s (sym (get_slot a.slots.items p x (slice_get_read a.slots.items a.slots.len p x a.slots.ok.0 (stands now p is h).0 at_p))
          ∙ ap (λ (t : TableView (Slot S)). get_or t.slots p None) is ∙ e)

      pub restood_view : (x : Slot S) (standing : S) (g : S → S) → x ≡ get_or a.slots.items p x → standing ≡ g x.standing → (s : Slot S) → get_or now.slots p None ≡ Some s
          → view_of_table (record { slots = with_item a.slots p (record x { standing = standing }); line = a.line; births = a.births; free = a.free })
          ≡ record now { slots = set now.slots p (Some (record s { standing = g s.standing })) }
      restood_view x standing g at_p same s e =
          let was = restood_was x s at_p e in
          let here : slot_in (record x { standing = standing }) ≡ Some (record s { standing = g s.standing }) = slot_taken (record x { standing = standing }) was.1
          ∙ ap (λ (z : S). Some (record x { standing = z })) same ∙ ap (λ (z : Slot S). Some (record z { standing = g z.standing })) was.0 in
          let seen = set_seen now is p (record x { standing = standing }) _ here in
          λ i. record { slots = seen i; line = (is i).line; births = (is i).births; free = (is i).free }

    -- a free place is taken
    module _ (p : ℕ) (rest : List ℕ) (items : a.free.items ≡ rest ++ p ∷ []) where
      popped : AreFree slots rest × (0 < p) × (p < length slots) × (get_or slots p None ≡ None) × Absent p rest
      popped = pop_free slots rest p (subst (λ (ps : List ℕ). AreFree slots ps) items good.free)

      pub taken_within : p < a.slots.len
      taken_within = omega (arith, popped.2, sized)

      pub taken_vacant : (now : TableView (Slot S)) → view_of_table a ≡ now → get_or now.slots p None ≡ None
      taken_vacant now is = ap (λ (t : TableView (Slot S)). get_or t.slots p None) (sym is) ∙ popped.3

      pub taken_good : (new : Inside S) (y : Slot S) → new.slots.items ≡ set a.slots.items p y → new.slots.len ≡ a.slots.len → new.line.size ≡ a.line.size → new.births.size ≡ a.births.size
          → new.free.items ≡ rest → vec_capacity new.free ≡ vec_capacity a.free → IsGoodTable new
      taken_good new y set_is len line births free room = set_good new p y set_is len line births popped.1
          (subst (λ (ps : List ℕ). AreFree (set slots p (slot_in y)) ps) (sym free) (set_free slots rest p (slot_in y) popped.0 popped.4)) room

    -- a place ends
    module _ (now : TableView (Slot S)) (is : view_of_table a ≡ now) (p : ℕ) (h : IsSome (get_or now.slots p None)) where
      pub ended_room : a.free.len < vec_capacity a.free
      ended_room = omega (arith, fewer_free slots a.free.items p good.free (omega (arith, (stands now p is h).0, sized)) (stood_absent now is p h), sized, good.room, a.free.ok.0)

      pub ended_good : (new : Inside S) (y : Slot S) → new.slots.items ≡ set a.slots.items p y → new.slots.len ≡ a.slots.len → new.line.size ≡ a.line.size → new.births.size ≡ a.births.size
          → slot_in y ≡ None → new.free.items ≡ a.free.items ++ p ∷ [] → vec_capacity new.free ≡ vec_capacity a.free → IsGoodTable new
      ended_good new y set_is len line births none free room =
          let within : p < length slots = omega (arith, (stands now p is h).0, sized) in
          set_good new p y set_is len line births (stands now p is h).1
          (subst (λ (ps : List ℕ). AreFree (set slots p (slot_in y)) ps) (sym free) (push_free (set slots p (slot_in y)) a.free.items p
          (set_free slots a.free.items p (slot_in y) good.free (stood_absent now is p h)) (stands now p is h).1 (omega (arith, length-set slots p (slot_in y)))
          (get_or-set_same slots p (slot_in y) None within ∙ none) (stood_absent now is p h))) room

    -- one more place, without content
    pub added_room : a.free.len < a.slots.len + 1
    added_room = omega (arith, added_fewer slots a.free.items good.free, sized, a.free.ok.0)

    pub added_good : (new : Inside S) (v : Slot S) → slot_in v ≡ None → new.slots.items ≡ a.slots.items ++ v ∷ [] → new.slots.len ≡ a.slots.len + 1 → new.line.size ≡ a.line.size + 1
        → new.births.size ≡ a.births.size + 1 → new.line.size ≤ most_places → a.slots.len + 1 ≤ vec_capacity new.free → AreFree (slots ++ None ∷ []) new.free.items → IsGoodTable new
    added_good new v none items len line births few room free =
        let shown : slots_of new.slots.items ≡ slots ++ None ∷ [] = ap slots_of items ∙ map_push slot_in a.slots.items v ∙ ap (λ (o : Option (Slot S)). slots ++ o ∷ []) none in
        record {
          line = omega (arith, good.line);
          births = omega (arith, good.births);
          first = ap (λ (ys : List (Option (Slot S))). get_or ys 0 None) shown ∙ get_or_none slots 0 ∙ good.first;
          free = subst (λ (ys : List (Option (Slot S))). AreFree ys new.free.items) (sym shown) free;
          room = omega arith;
          few = omega (arith, good.line);
        }

    pub added_places : (p : ℕ) → p ≡ a.slots.len → 0 < p → AreFree (slots ++ None ∷ []) (a.free.items ++ p ∷ [])
    added_places p is some = subst (λ (n : ℕ). AreFree (slots ++ None ∷ []) (a.free.items ++ n ∷ [])) (sized ∙ sym is) (added_free slots a.free.items good.free (omega (arith, sized)))

    pub added_first : AreFree (slots ++ None ∷ []) a.free.items
    added_first = more_free slots a.free.items good.free
