-- What the leave of the last handle does to what is shown: idle connections and unclaimed approvals
-- end, one after another.
use Rattle.std.proofs.lemmas.Bool.Decides.{nat_tests}
use Rattle.bb8_core.proofs.Words.{◌≡◌, ℕ, suc, ◌+◌, ◌-◌, ◌<◌, ◌≤◌, Bool, true, false, cond, eqb, ◌&&◌, ◌||◌, List, [], ◌∷◌, map, length, drop, slice_get, Option, Some, refl, sym, ap, ◌∙◌, arith, Place, Unclaimed, Idle, Standing, Numbered, at, update, numbers, in_order, tally, one, after_end, after_end_where, stands, is_conn, is_approval, is_unclaimed, is_idle, is_left, idle_at, conns_of, RecordsView, shown_records, change, Before, same_or_not, change_below, and_right, standing_is, unclaimed_is, idle_is, tested, ended_before, idle_counted, remove, standings}
use Rattle.bb8_tables.specs.Machine as machine
use Rattle.bb8_types.proofs.Numbered as numbered
use Rattle.bb8_core.proofs.ShownRecords.{shown-changed}

-- an element is changed to one that a function makes the same
pub map-change : {R S : Type 0} (f : R → S) (rs : List R) (n k : ℕ) (new old : R) → at n rs k ≡ Some old → f new ≡ f old → map f (change n k new rs) ≡ map f rs
map-change f [] n k new old h e = refl
map-change f (r ∷ rs) n k new old h e = grind (arith, nat_tests, same_or_not k n, change_below rs (suc n) k new, map-change f rs (suc n) k new old)

module _ {C : Type 0} where
  -- a record is idle since one position
  idle_once : (p q : ℕ) (r : Numbered (Standing C)) → idle_at p r ≡ true → idle_at q r ≡ true → p ≡ q
  idle_once p q r a b = sym (numbered.tested r.position p (and_right (stands is_idle r.standing) _ a).1) ∙ numbered.tested r.position q (and_right (stands is_idle r.standing) _ b).1

  -- what the leave of the last handle makes of the records
  abbrev pub shut : List (Numbered (Standing C)) → List (Numbered (Standing C))
  shut = map (after_end_where is_left)

  -- a record that would end then has ended already
  shut_ended : (first k : ℕ) (rs : List (Numbered (Standing C))) (r : Numbered (Standing C)) → at first rs k ≡ Some r → is_left r.standing ≡ true → shut (update first k after_end rs) ≡ shut rs
  shut_ended first k rs r h left_now = grind (arith, nat_tests, numbered.update_is rs first k after_end r h, map-change (after_end_where is_left) rs first k (after_end r) r h)

  -- which places end
  idle_left : (s : Standing C) → is_idle s.place ≡ true → is_left (Some s) ≡ true
  idle_left s h = ap (λ (b : Bool). b || is_unclaimed s.place) h

  unclaimed_left : (s : Standing C) → is_unclaimed s.place ≡ true → is_left (Some s) ≡ true
  unclaimed_left s h = let place : s.place ≡ Unclaimed = unclaimed_is s.place h in ap (λ (p : Place C). is_idle p || is_unclaimed p) place

  -- an idle connection ends, and the rest of the queue is known
  pub idle-ended : {line : List ℕ} (first p top : ℕ) (rs : List (Numbered (Standing C))) (k : ℕ) (r : Numbered (Standing C)) → at first rs k ≡ Some r → stands is_idle r.standing ≡ true
      → in_order idle_at first (change first k (after_end r) rs) p ≡ line
      → shown_records first p top (change first k (after_end r) rs) ≡ record (shown_records first p top rs) { places = remove (standings first rs) k; idle = line; conns = conns_of rs - 1 }
  idle-ended first p top rs k r h idle_now left =
      let was = standing_is is_idle r.standing idle_now in
      let place = idle_is was.0.place was.2 in
      shown-changed first p top k rs (after_end r) r true false false false h (tested is_conn r was.0 (Idle place.0) was.1 place.1) refl
      (tested is_approval r was.0 (Idle place.0) was.1 place.1) refl refl (numbered.numbered-change_none (λ (x : Numbered (Standing C)). x.standing) rs first k (after_end r) r h refl) left
      (numbered.numbers-change_kept (λ x. stands is_unclaimed x.standing) rs first k (after_end r) r h (sym (tested is_unclaimed r was.0 (Idle place.0) was.1 place.1)))
      (λ n e. omega arith) (λ n e. omega arith) refl

  module _ (first p top : ℕ) where
    abbrev show : List (Numbered (Standing C)) → RecordsView C
    show = shown_records first p top

    -- the idle connection that is first ends
    pub shown-idle_end : (rs : List (Numbered (Standing C))) (k : ℕ) (rest : List ℕ) → in_order idle_at first rs p ≡ k ∷ rest
        → (show (update first k after_end rs) ≡ machine.after_idle_end k (show rs)) × (shut (update first k after_end rs) ≡ shut rs)
    shown-idle_end rs k rest h =
        let m : (r : Numbered (Standing C)) × (at first rs k ≡ Some r) × (q : ℕ) × (q < p)
        × (idle_at q r ≡ true) = numbered.in_order_member idle_at rs first p 0 k (ap (λ (xs : List ℕ). slice_get xs 0) h) in
        let r : Numbered (Standing C) = m.0 in
        let idle_now = (and_right (stands is_idle r.standing) _ m.4).0 in
        let was = standing_is is_idle r.standing idle_now in
        let shows = ap show (numbered.update_is rs first k after_end r m.1) ∙ idle-ended first p top rs k r m.1 idle_now
        (numbered.in_order-change_head idle_at idle_once rs first k rest (after_end r) (λ q. refl) p h ∙ sym (ap (drop 1) h)) in
        (shows, shut_ended first k rs r m.1 (ap is_left was.1 ∙ idle_left was.0 was.2))

    -- the unclaimed approval that is first ends
    shown-unclaimed_end : (rs : List (Numbered (Standing C))) (k : ℕ) (rest : List ℕ)
        → numbers (λ r. stands is_unclaimed r.standing) first rs ≡ k ∷ rest
        → (show (update first k after_end rs) ≡ machine.after_unclaimed_end k (show rs)) × (shut (update first k after_end rs) ≡ shut rs)
    shown-unclaimed_end rs k rest h =
        let m : (r : Numbered (Standing C)) × (at first rs k ≡ Some r) × (stands is_unclaimed r.standing ≡ true) =
        numbered.numbers_member (λ r. stands is_unclaimed r.standing) rs first 0 k (ap (λ (xs : List ℕ). slice_get xs 0) h) in
        let r : Numbered (Standing C) = m.0 in
        let was = standing_is is_unclaimed r.standing m.2 in
        let place : was.0.place ≡ Unclaimed = unclaimed_is was.0.place was.2 in
        let shows =
        ap show (numbered.update_is rs first k after_end r m.1)
        ∙ shown-changed {t = machine.after_unclaimed_end k (show rs)} first p top k rs (after_end r) r false false true false m.1 (tested is_conn r was.0 Unclaimed was.1 place) refl
        (tested is_approval r was.0 Unclaimed was.1 place) refl refl
        (numbered.numbered-change_none (λ (x : Numbered (Standing C)). x.standing) rs first k (after_end r) r m.1 refl)
        (numbered.in_order-change_kept idle_at rs first k (after_end r) r m.1 p (λ q l. sym (ap (λ (b : Bool). b && eqb r.position q) (tested is_idle r was.0 Unclaimed was.1 place))))
        (numbered.numbers-change_head (λ x. stands is_unclaimed x.standing) rs first k rest (after_end r) h refl ∙ sym (ap (drop 1) h))
        (λ n e. omega arith) (λ n e. omega arith) refl in
        (shows, shut_ended first k rs r m.1 (ap is_left was.1 ∙ unclaimed_left was.0 was.2))

    -- records that are left alone by all that ends
    record Ends (rs : List (Numbered (Standing C))) (s : RecordsView C) : Type 0 where
      pub to : List (Numbered (Standing C))
      pub shows : show to ≡ s
      pub same : shut to ≡ shut rs
      pub before : Before idle_at p to
      pub no_idle : in_order idle_at first to p ≡ []

    -- all idle connections end
    idles_end : (xs : List ℕ) (rs : List (Numbered (Standing C))) → Before idle_at p rs → in_order idle_at first rs p ≡ xs → Ends rs (machine.after_idle_ends xs (show rs))
    idles_end [] rs b h = record { to = rs; shows = refl; same = refl; before = b; no_idle = h }
    idles_end (k ∷ xs) rs b h =
        let step = shown-idle_end rs k xs h in
        let next = idles_end xs (update first k after_end rs) (ended_before p first k rs b) (ap (λ (s : RecordsView C). s.idle) step.0 ∙ ap (drop 1) h) in
        record { to = next.to; shows = next.shows ∙ ap (machine.after_idle_ends xs) step.0; same = next.same ∙ step.1; before = next.before; no_idle = next.no_idle }

    -- all unclaimed approvals end
    unclaimeds_end : (xs : List ℕ) (rs : List (Numbered (Standing C))) → Before idle_at p rs
        → numbers (λ r. stands is_unclaimed r.standing) first rs ≡ xs → in_order idle_at first rs p ≡ []
        → (e : Ends rs (machine.after_unclaimed_ends xs (show rs))) × (numbers (λ r. stands is_unclaimed r.standing) first e.to ≡ [])
    unclaimeds_end [] rs b h i = (record { to = rs; shows = refl; same = refl; before = b; no_idle = i }, h)
    unclaimeds_end (k ∷ xs) rs b h i =
        let step = shown-unclaimed_end rs k xs h in
        let next = unclaimeds_end xs (update first k after_end rs) (ended_before p first k rs b)
        (ap (λ (s : RecordsView C). s.unclaimed) step.0 ∙ ap (drop 1) h) (ap (λ (s : RecordsView C). s.idle) step.0 ∙ i) in
        (record { to = next.0.to; shows = next.0.shows ∙ ap (machine.after_unclaimed_ends xs) step.0; same = next.0.same ∙ step.1; before = next.0.before; no_idle = next.0.no_idle }, next.1)

    -- where nothing is idle or unclaimed, nothing ends
    nothing_left : (rs : List (Numbered (Standing C))) (n : ℕ) → tally (λ r. stands is_idle r.standing) rs ≡ 0 → numbers (λ r. stands is_unclaimed r.standing) n rs ≡ [] → shut rs ≡ rs
    nothing_left [] n i u = refl
    nothing_left (r ∷ rs) n i u = go (nothing_left rs (suc n)) (stands is_idle r.standing) (stands is_unclaimed r.standing) refl refl i u
      where
        stays : (o : Option (Standing C)) → stands is_idle o ≡ false → stands is_unclaimed o ≡ false → is_left o ≡ false
        stays o a b = grind (arith, nat_tests)

        go : (tally (λ x. stands is_idle x.standing) rs ≡ 0 → numbers (λ x. stands is_unclaimed x.standing) (suc n) rs ≡ [] → shut rs ≡ rs)
            → (a b : Bool) → stands is_idle r.standing ≡ a → stands is_unclaimed r.standing ≡ b
            → one a + tally (λ x. stands is_idle x.standing) rs ≡ 0
            → cond b (n ∷ numbers (λ x. stands is_unclaimed x.standing) (suc n) rs)
            (numbers (λ x. stands is_unclaimed x.standing) (suc n) rs) ≡ [] → shut (r ∷ rs) ≡ r ∷ rs
        go others a b idle_now unclaimed_now t m = grind (arith, nat_tests)

    -- what the leave of the last handle shows
    pub shown-left : (rs : List (Numbered (Standing C))) → Before idle_at p rs → show (shut rs) ≡ machine.after_leave (show rs)
    shown-left rs b =
        let idle = idles_end (in_order idle_at first rs p) rs b refl in
        let all = unclaimeds_end (numbers (λ r. stands is_unclaimed r.standing) first idle.to) idle.to idle.before refl idle.no_idle in
        let none : tally (λ r. stands is_idle r.standing) all.0.to ≡ 0 = sym (idle_counted first p all.0.to all.0.before) ∙ ap length all.0.no_idle in
        ap show (sym (all.0.same ∙ idle.same) ∙ nothing_left all.0.to first none all.1)
        ∙ all.0.shows
        ∙ ap (λ (s : RecordsView C). machine.after_unclaimed_ends s.unclaimed s) idle.shows

  -- no more is left than there was
  idles_few : (xs : List ℕ) (s : RecordsView C) → (machine.after_idle_ends xs s).conns + (machine.after_idle_ends xs s).approved ≤ s.conns + s.approved
  idles_few [] s = omega arith
  idles_few (k ∷ xs) s = omega (arith, idles_few xs (machine.after_idle_end k s))

  unclaimeds_few : (xs : List ℕ) (s : RecordsView C) → (machine.after_unclaimed_ends xs s).conns + (machine.after_unclaimed_ends xs s).approved ≤ s.conns + s.approved
  unclaimeds_few [] s = omega arith
  unclaimeds_few (k ∷ xs) s = omega (arith, unclaimeds_few xs (machine.after_unclaimed_end k s))

  pub left_few : (s : RecordsView C) → (machine.after_leave s).conns + (machine.after_leave s).approved ≤ s.conns + s.approved
  left_few s = grind (arith, nat_tests, idles_few, unclaimeds_few)
