-- What the links of a line show.
use Rattle.std.proofs.Common.{inl, inr, get_or, ◌≡◌, ◌≢◌, ℕ, ◌+◌, ◌-◌, ◌<◌, ◌≤◌, List, [], ◌∷◌, ◌++◌, length, Option, Some, None, slice_get, refl, sym, ap, ◌∙◌, arith, subst, length-append}
use Rattle.std.proofs.lemmas.Option.{slice_get_read, slice_get_past}
use Rattle.std.proofs.lemmas.Bool.Decides.{eqb_tells}
use Rattle.bb8_tables.specs.declared.line.Link.{Link}
use Rattle.bb8_tables.specs.declared.line.Links.{Links}
use Rattle.bb8_tables.specs.declared.line.Line.TheInside.{Inside}
use Rattle.bb8_tables.specs.Spelled.{Absent, Spells, walk}
use Rattle.bb8_tables.specs.Ordered.{Ordered, IsGood, JoinsAt, after_at, before_at, after_of, before_of, spelled, view_of, most_places}
use Rattle.bb8_tables.specs.Machine.{without}
use Rattle.bb8_tables.proofs.Spelled

module _ (a : Inside) (good : IsGood a) where
  abbrev af : ℕ → ℕ
  af = after_of a.links.entries.items

  abbrev be : ℕ → ℕ
  be = before_of a.links.entries.items

  pub sized : length (spelled a) ≡ a.len
  sized = Spelled.length-walk af a.len (af 0)

  -- what does not lead to itself is inside
  leads_inside : (f : ℕ → Option Link → ℕ) → ((p : ℕ) → f p None ≡ p) → (p : ℕ) → f p (slice_get a.links.entries.items p) ≢ p → p < a.links.entries.len
  leads_inside f alone p moves = grind (arith, slice_get_past)

  pub moves_inside : (p : ℕ) → af p ≢ p → p < a.links.entries.len
  moves_inside = leads_inside after_at (λ p. refl)

  pub back_inside : (p : ℕ) → be p ≢ p → p < a.links.entries.len
  back_inside = leads_inside before_at (λ p. refl)

  pub few : a.len ≤ a.links.entries.len
  few = omega (arith, Spelled.spelled_few af be 0 a.links.entries.len (spelled a) good.spells moves_inside, sized)

  -- the links at a place
  pub linked_at : (p : ℕ) (link : Link) → p < a.links.entries.len → link ≡ get_or a.links.entries.items p link → (link.after ≡ af p) × (link.before ≡ be p)
  linked_at p link within e =
      let at_p = slice_get_read a.links.entries.items a.links.entries.len p link a.links.entries.ok.0 within e in
      (sym (ap (after_at p) at_p), sym (ap (before_at p) at_p))

  pub shows : (now : Ordered) → view_of a ≡ now → now.places ≡ spelled a
  shows now is = ap (λ (t : Ordered). t.places) (sym is)

  -- the ends of the list, as they are read
  pub first_is : (now : Ordered) (link : Link) → view_of a ≡ now → 0 < a.len → link ≡ get_or a.links.entries.items 0 link → Some link.after ≡ slice_get now.places 0
  first_is now link is some read = ap (λ (p : ℕ). Some p) (linked_at 0 link (omega (arith, few)) read).0
      ∙ sym (Spelled.first_is af be 0 (spelled a) good.spells (omega (arith, sized))) ∙ ap (λ (t : Ordered). slice_get t.places 0) is

  pub last_is : (now : Ordered) (link : Link) → view_of a ≡ now → 0 < a.len → link ≡ get_or a.links.entries.items 0 link → Some link.before ≡ slice_get now.places (length now.places - 1)
  last_is now link is some read = ap (λ (p : ℕ). Some p) (linked_at 0 link (omega (arith, few)) read).1
      ∙ sym (Spelled.last_is af be 0 (spelled a) good.spells (omega (arith, sized))) ∙ ap (λ (t : Ordered). slice_get t.places (length t.places - 1)) is

  -- a place in it is inside
  pub place_inside : (p j : ℕ) → slice_get (spelled a) j ≡ Some p → p < a.links.entries.len
  place_inside p j e = moves_inside p (Spelled.member_at af be 0 (spelled a) good.spells p j e).moves

  pub seen_inside : (now : Ordered) (p j : ℕ) → view_of a ≡ now → slice_get now.places j ≡ Some p → p < a.links.entries.len
  seen_inside now p j is e = place_inside p j (ap (λ (xs : List ℕ). slice_get xs j) (sym (shows now is)) ∙ e)

  -- and moves on to another one
  pub seen_moves : (now : Ordered) (p j : ℕ) (link : Link) → view_of a ≡ now → slice_get now.places j ≡ Some p → link ≡ get_or a.links.entries.items p link → link.after ≢ p
  seen_moves now p j link is e read s = (Spelled.member_at af be 0 (spelled a) good.spells p j (ap (λ (xs : List ℕ). slice_get xs j) (sym (shows now is)) ∙ e)).moves
      (sym (linked_at p link (seen_inside now p j is e) read).0 ∙ s)

  -- the place after one, as it is read
  module _ (now : Ordered) (p j : ℕ) (link : Link) (is : view_of a ≡ now) (member : slice_get now.places j ≡ Some p) (read : link ≡ get_or a.links.entries.items p link) (passed rest : List ℕ)
      (e : now.places ≡ passed ++ p ∷ rest) where
    led : (link.after ≡ af p) × Spells af be 0 (passed ++ p ∷ rest)
    led = ((linked_at p link (seen_inside now p j is member) read).0, subst (λ (ys : List ℕ). Spells af be 0 ys) (sym (shows now is) ∙ e) good.spells)

    pub next_none : link.after ≡ 0 → None ≡ slice_get rest 0
    next_none last = Spelled.next_none af be 0 p passed rest led.1 (sym led.0 ∙ last)

    pub next_some : link.after ≢ 0 → Some link.after ≡ slice_get rest 0
    next_some moves = ap (λ (n : ℕ). Some n) led.0 ∙ Spelled.next_some af be 0 p passed rest led.1 (λ z. moves (led.0 ∙ z))

  -- a place that leads to itself is not in it
  pub alone : (now : Ordered) (p : ℕ) (link : Link) → view_of a ≡ now → p < a.links.entries.len → link ≡ get_or a.links.entries.items p link → 0 < p → link.after ≡ p
      → now ≡ record now { places = without p now.places }
  alone now p link is within read apart e = ap (λ (xs : List ℕ). record now { places = xs }) (shows now is
      ∙ sym (Spelled.without_absent p (spelled a) (Spelled.is_absent af be 0 (spelled a) good.spells p (λ h. omega arith) (sym (linked_at p link within read).0 ∙ e)))
      ∙ ap (without p) (sym (shows now is)))

  -- other links that spell this
  module _ (new : Links) (n : ℕ) (xs : List ℕ) (spells : Spells (after_of new.entries.items) (before_of new.entries.items) 0 xs) (n_is : length xs ≡ n)
      (len : new.entries.len ≡ a.links.entries.len) where
    abbrev then : Inside
    then = record { links = new; len = n }

    here : spelled then ≡ xs
    here = Spelled.walked (after_of new.entries.items) (before_of new.entries.items) 0 xs spells n n_is

    respelled : IsGood then × (view_of then ≡ record { size = a.links.entries.len; places = xs })
    respelled = (
      record {
        spells = subst (λ (ys : List ℕ). Spells (after_of new.entries.items) (before_of new.entries.items) 0 ys) (sym here) spells;
        few = subst (λ (m : ℕ). m ≤ most_places) (sym len) good.few;
      },
      λ i. record { size = len i; places = here i },
    )

  -- the same links, of so many places
  module _ (new : Links) (after : (i : ℕ) → after_of new.entries.items i ≡ af i) (before : (i : ℕ) → before_of new.entries.items i ≡ be i) (few_now : new.entries.len ≤ most_places) where
    regrown : IsGood (record { links = new; len = a.len }) × (view_of (record { links = new; len = a.len }) ≡ record { size = new.entries.len; places = spelled a })
    regrown =
        let f : af ≡ after_of new.entries.items = λ i p. sym (after p) i in
        let g : be ≡ before_of new.entries.items = λ i p. sym (before p) i in
        let here : spelled (record { links = new; len = a.len }) ≡ spelled a = subst (λ (h : ℕ → ℕ). walk h a.len (h 0) ≡ spelled a) f refl in
        let kept : Spells (after_of new.entries.items) (before_of new.entries.items) 0 (spelled a) =
        subst (λ (h : ℕ → ℕ). Spells (after_of new.entries.items) h 0 (spelled a)) g (subst (λ (h : ℕ → ℕ). Spells h be 0 (spelled a)) f good.spells) in (
          record { spells = subst (λ (ys : List ℕ). Spells (after_of new.entries.items) (before_of new.entries.items) 0 ys) (sym here) kept; few = few_now },
          ap (λ (xs : List ℕ). record { size = new.entries.len; places = xs }) here,
        )

    pub grown : (size : ℕ) → new.entries.len ≡ size → IsGood (record { links = new; len = a.len }) × (view_of (record { links = new; len = a.len }) ≡ record { size = size; places = spelled a })
    grown size e = (regrown.0, regrown.1 ∙ ap (λ (n : ℕ). record { size = n; places = spelled a }) e)

  -- a place comes to the new end
  module _ (now : Ordered) (link : Link) (is : view_of a ≡ now) (read : link ≡ get_or a.links.entries.items 0 link) (p : ℕ) (within : p < now.size) where
    last : (link.before ≡ be 0) × (0 < a.links.entries.len)
    last = let some : 0 < a.links.entries.len = omega (arith, ap (λ (t : Ordered). t.size) is) in ((linked_at 0 link some read).1, some)

    pub last_inside : link.before < a.links.entries.len
    last_inside = elim (eqb_tells (be 0) 0) [
      | inl t ↦ omega (arith, t.1, last.0, last.1)
      | inr t ↦ omega (arith, last.0, last.1, moves_inside (be 0) (λ s. t.1 (sym s ∙ Spelled.last_leads af be 0 0 (spelled a) good.spells.leads)))
    ]

    pub pushed : (mid new : Links) → mid.entries.len ≡ a.links.entries.len → new.entries.len ≡ mid.entries.len → 0 < p → JoinsAt a.links.entries.items mid.entries.items link.before p
        → JoinsAt mid.entries.items new.entries.items p 0 → Absent p now.places
        → IsGood (record { links = new; len = a.len + 1 }) × (view_of (record { links = new; len = a.len + 1 }) ≡ record now { places = now.places ++ p ∷ [] })
    pushed mid new mid_len new_len apart j1 j2 absent =
        let r = respelled new (a.len + 1) (spelled a ++ p ∷ [])
        (Spelled.pushed af be (after_of mid.entries.items) (before_of mid.entries.items) (after_of new.entries.items) (before_of new.entries.items) 0 p
        (subst (λ (b : ℕ). JoinsAt a.links.entries.items mid.entries.items b p) last.0 j1) j2 (λ e. omega arith) (spelled a) good.spells (subst (Absent p) (shows now is) absent))
        (omega (arith, length-append (spelled a) (p ∷ []), sized)) (new_len ∙ mid_len) in
        (r.0, r.1 ∙ ap (λ (t : Ordered). record t { places = t.places ++ p ∷ [] }) is)

  -- a place leaves that leads to another one
  module _ (p : ℕ) (link : Link) (within : p < a.links.entries.len) (read : link ≡ get_or a.links.entries.items p link) (apart : 0 < p) (moves : link.after ≢ p) where
    linked : (link.after ≡ af p) × (link.before ≡ be p)
    linked = linked_at p link within read

    member : Spelled.IsMember af be 0 p (spelled a)
    member = Spelled.is_member af be 0 (spelled a) good.spells p (λ e. omega arith) (λ e. moves (linked.0 ∙ e))

    -- its neighbours are inside
    pub neighbours : (link.before < a.links.entries.len) × (link.after < a.links.entries.len) × (1 ≤ a.len)
    neighbours = (
      omega (arith, linked.1, moves_inside (be p) (λ s. member.moves (ap af (sym member.back ∙ s) ∙ member.back))),
      omega (arith, linked.0, back_inside (af p) (λ s. member.moves (sym s ∙ member.forth))),
      omega (arith, member.fewer, sized),
    )

    pub unlinked : (now : Ordered) (mid new : Links) → view_of a ≡ now → mid.entries.len ≡ a.links.entries.len → new.entries.len ≡ mid.entries.len
        → JoinsAt a.links.entries.items mid.entries.items link.before link.after → JoinsAt mid.entries.items new.entries.items p p
        → IsGood (record { links = new; len = a.len - 1 }) × (view_of (record { links = new; len = a.len - 1 }) ≡ record now { places = without p now.places })
    unlinked now mid new is mid_len new_len j1 j2 =
        let r = respelled new (a.len - 1) (without p (spelled a))
        (Spelled.removed af be (after_of mid.entries.items) (before_of mid.entries.items) (after_of new.entries.items) (before_of new.entries.items) 0 p
        (rw (linked.1, linked.0) at j1) j2 (λ e. omega arith) member.back member.forth (spelled a) good.spells)
        (omega (arith, member.fewer, sized)) (new_len ∙ mid_len) in
        (r.0, r.1 ∙ ap (λ (t : Ordered). record t { places = without p t.places }) is)

-- what the links that are read show
pub ruleset reads = (sized, few, first_is, last_is, seen_inside, next_none, next_some)
