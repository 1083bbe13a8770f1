-- What a table shows under its numbers, and what it shows after one place has changed.
use Rattle.bb8_tables.proofs.Words.{◌≡◌, ℕ, ◌<◌, Bool, List, length, [], ◌∷◌, ◌++◌, Option, Some, None, IsSome, set, option_map, get_or, slice_get, refl, sym, ap, ◌∙◌, subst, nat_cmp, slice_get-map, FinMap, insert, remove, get, Slot, TableView, slot_at, Restands, without, values_at, IsTable, ArePlaces, number_in, numbers_at}
use Rattle.bb8_tables.proofs.Lines.{left_away, avoids}
use Rattle.bb8_tables.proofs.Numbers.{numbers_kept, numbers_same, numbers_push, numbers_without}
use Rattle.bb8_tables.proofs.Slots.{set_at, set_within, held_at, held_set, held_added, held_removed}
use Rattle.std.proofs.Common.{IfSome}

module _ {S : Type 0} where
  abbrev pub numbered : Slot S → ℕ
  numbered x = x.number

  -- what is shown under the numbers
  abbrev pub shown : List (Option (Slot S)) → FinMap nat_cmp S
  shown slots = values_at numbered (λ x. x.standing) slots

  -- what a look finds at the place of a number has that number
  pub named : {o : Option (Slot S)} {q : ℕ} {x y : Slot S} → o ≡ Some x → x.number ≡ q → o ≡ Some y → y.number ≡ q
  named {q = q} e is f = subst (λ (o : Option (Slot S)). IfSome o (λ z. z.number ≡ q)) (sym e ∙ f) is

  -- something is there then
  pub stands_then : (old : TableView (Slot S)) (place : ℕ) (f : S → S) {mid : TableView (Slot S)} {x : Slot S} → slot_at old place ≡ Some x → Restands old mid place f → IsSome (slot_at mid place)
  stands_then old place f {x = x} e sets = rw (sets x e) (subst IsSome (sym (set_at old.slots place x (Some (record x { standing = f x.standing })) e).changed) refl)

  pub stands_within : (slots : List (Option (Slot S))) (place : ℕ) (x : Slot S) → place < length slots → IsSome (get_or (set slots place (Some x)) place None)
  stands_within slots place x within = subst IsSome (sym (set_within slots place (Some x) within).changed) refl

  -- the number of a place in line
  pub number_at : (slots : List (Option (Slot S))) (places : List ℕ) (i : ℕ) {place : ℕ} {x : Slot S} → slice_get places i ≡ Some place → get_or slots place None ≡ Some x
      → slice_get (numbers_at numbered slots places) i ≡ Some x.number
  number_at slots places i e at_place = slice_get-map (λ (k : ℕ). number_in numbered (get_or slots k None)) places i
      ∙ ap (option_map (λ (k : ℕ). number_in numbered (get_or slots k None))) e ∙ ap (λ (o : Option (Slot S)). Some (number_in numbered o)) at_place

  pub no_number_at : (slots : List (Option (Slot S))) (places : List ℕ) (i : ℕ) → slice_get places i ≡ None → slice_get (numbers_at numbered slots places) i ≡ None
  no_number_at slots places i e = slice_get-map (λ (k : ℕ). number_in numbered (get_or slots k None)) places i ∙ ap (option_map (λ (k : ℕ). number_in numbered (get_or slots k None))) e

  -- a place with content
  module _ {slots : List (Option (Slot S))} {next : ℕ} {x : Slot S} (q place : ℕ) (t : IsTable numbered slots next) (at_place : get_or slots place None ≡ Some x) (number_is : x.number ≡ q) where
    -- it is shown
    pub shown_at : get (shown slots) q ≡ Some x.standing
    shown_at = ap (get (shown slots)) (sym number_is) ∙ held_at numbered (λ y. y.standing) slots place x t.distinct at_place

    -- it is something else
    pub set_shown : (f : Option S → S) → shown (set slots place (Some (record x { standing = f (Some x.standing) }))) ≡ insert (shown slots) q (f (get (shown slots) q))
    set_shown f = held_set t (λ y. y.standing) at_place refl (set_at slots place x (Some (record x { standing = f (Some x.standing) })) at_place)
        ∙ ap (λ (n : ℕ). insert (shown slots) n (f (Some x.standing))) number_is ∙ ap (λ (o : Option S). insert (shown slots) q (f o)) (sym shown_at)

    pub set_line : (s : S) (places : List ℕ) → numbers_at numbered (set slots place (Some (record x { standing = s }))) places ≡ numbers_at numbered slots places
    set_line s places = numbers_same numbered slots _ place x (record x { standing = s }) places at_place refl (set_at slots place x (Some (record x { standing = s })) at_place)

    -- it comes to the new end of a line
    pub set_pushed : (s : S) (places : List ℕ) → numbers_at numbered (set slots place (Some (record x { standing = s }))) (places ++ place ∷ []) ≡ numbers_at numbered slots places ++ q ∷ []
    set_pushed s places = numbers_push numbered _ places place (record x { standing = s }) (set_at slots place x (Some (record x { standing = s })) at_place).changed
        ∙ ap (λ (ns : List ℕ). ns ++ x.number ∷ []) (set_line s places) ∙ ap (λ (k : ℕ). numbers_at numbered slots places ++ k ∷ []) number_is

    -- it leaves a line
    pub line_without : {test : Slot S → Bool} (places : List ℕ) → ArePlaces test slots places → numbers_at numbered slots (without place places) ≡ without q (numbers_at numbered slots places)
    line_without places are = numbers_without numbered slots places place x t.distinct are at_place ∙ ap (λ (k : ℕ). without k (numbers_at numbered slots places)) number_is

    -- it ends
    pub cleared_shown : shown (set slots place None) ≡ remove (shown slots) q
    cleared_shown = held_removed t (λ y. y.standing) at_place (set_at slots place x None at_place) ∙ ap (remove (shown slots)) number_is

    pub cleared_line : (places : List ℕ) → numbers_at numbered (set slots place None) (without place places) ≡ numbers_at numbered slots (without place places)
    cleared_line places = numbers_kept numbered slots _ place (without place places) (left_away places place) (set_at slots place x None at_place).others

  -- a free place, for the next number
  module _ (slots : List (Option (Slot S))) (next place : ℕ) (s : S) (free : get_or slots place None ≡ None) (within : place < length slots) where
    abbrev newcomer : Slot S
    newcomer = record { number = next; standing = s }

    pub added_shown : IsTable numbered slots next → shown (set slots place (Some newcomer)) ≡ insert (shown slots) next s
    added_shown t = held_added t (λ y. y.standing) free refl (set_within slots place (Some newcomer) within)

    pub added_line : {test : Slot S → Bool} (places : List ℕ) → ArePlaces test slots places → numbers_at numbered (set slots place (Some newcomer)) places ≡ numbers_at numbered slots places
    added_line places are = numbers_kept numbered slots _ place places (avoids are place free refl) (set_within slots place (Some newcomer) within).others

    pub added_pushed : {test : Slot S → Bool} (places : List ℕ) → ArePlaces test slots places
        → numbers_at numbered (set slots place (Some newcomer)) (places ++ place ∷ []) ≡ numbers_at numbered slots places ++ next ∷ []
    added_pushed places are = numbers_push numbered _ places place newcomer (set_within slots place (Some newcomer) within).changed ∙ ap (λ (ns : List ℕ). ns ++ next ∷ []) (added_line places are)
