-- The connections that a reap or the last leave closes, one by one.
use Rattle.std.proofs.lemmas.Bool.Decides.{nat_tests}
use Rattle.bb8_core.proofs.Words.{◌≡◌, ◌≢◌, ℕ, suc, ◌+◌, ◌<◌, max, Bool, true, false, cond, eqb, List, [], ◌∷◌, ◌++◌, drop, slice_get, Option, option_and_then, Some, None, refl, sym, ap, ◌∙◌, arith, subst, FinMap, get, remove, Grant, Idle, Standing, Numbered, at_number, update, numbers, in_order, tally, one, after_end, stands, is_idle, idles_out, lives_out, ReapCounts, Reaps, after_reap, after_reaped, AreReaped, AreFirst, RecordsView, Ledger, Start, start, position, latest, records, peak, idle_at, outlived, reaped_at, outlived_at, idled_at, retiring, retired_at, Settings, StateView, HasLedger, shown_records, Before, same_or_not, at-below, get_removed, and_right, standing_is, idle_is, lives_idle, idles_idle, entered_before, ended_before, inl, inr}
use Rattle.std.specs.Ordering.{nat_cmp}
use Rattle.circular_buffer.specs.Buffer.{Buffer}
use Rattle.bb8_tables.specs.declared.closed.Closed.{Closed}
use Rattle.bb8_tables.specs.Closed.{offered_all, closed_at, closed_in, closed_of}
use Rattle.bb8_core.specs.declared.answers.ReapAnswer.TheVariants as reaping
use Rattle.bb8_core.specs.Closings.{AreIdleAs, Offers, OffersReaped, OffersRetired, OffersLeft, OffersShut}
use Rattle.bb8_types.proofs.Numbered as numbered
use Rattle.bb8_core.proofs.Fitting.{shown, shown_record}
use Rattle.bb8_core.proofs.Meets.{retiring_by}
use Rattle.bb8_core.proofs.Reaps.{both_ended, Ended_at, ended_at, Retired_at, retired_ends, old_ones, other_ones}
use Rattle.bb8_core.proofs.ShownLeft.{shown-idle_end}

-- ---- how often a number comes

tally_both : {R : Type 0} (p : R → Bool) (xs ys : List R) → tally p (xs ++ ys) ≡ tally p xs + tally p ys
tally_both p [] ys = omega arith
tally_both p (x ∷ xs) ys = omega (arith, tally_both p xs ys)

module _ {R : Type 0} (p : R → Bool) where
  -- one, where there is something that passes
  abbrev passing : Option R → ℕ
  passing None = 0
  passing (Some r) = one (p r)

  ones : (b : Bool) → cond b (one true) 0 ≡ one b
  ones b = grind (arith, nat_tests)

  zeros : (b : Bool) → cond b (one false) 0 ≡ 0
  zeros b = grind (arith, nat_tests)

  head_count : (k n : ℕ) (ks : List ℕ) (b : Bool) → tally (eqb k) (cond b (n ∷ ks) ks) ≡ cond b (one (eqb k n)) 0 + tally (eqb k) ks
  head_count k n ks true = refl
  head_count k n ks false = omega arith

  -- a number comes once among those that pass, if its element does, and else never
  numbers_count : (rs : List R) (n k : ℕ) → tally (eqb k) (numbers p n rs) ≡ passing (at_number n rs k)
  numbers_count [] n k = refl
  numbers_count (r ∷ rs) n k = grind (arith, nat_tests, numbers_count rs (suc n) k, head_count k n (numbers p (suc n) rs) (p r), same_or_not k n, at-below rs (suc n) k, ones (p r), zeros (p r))

module _ {C : Type 0} where
  -- each is idle as its turn to end comes
  abbrev AreIdle : List ℕ → FinMap nat_cmp (Standing C) → Type 0
  AreIdle [] m = Unit {0}
  AreIdle (k ∷ ks) m = ((s : Standing C) × (c : C) × (get m k ≡ Some s) × (s.place ≡ Idle c)) × AreIdle ks (remove m k)

  -- what is left after a removal was there before
  left_in : (m : FinMap nat_cmp (Standing C)) (k j : ℕ) (r : Standing C) → get (remove m k) j ≡ Some r → get m j ≡ Some r
  left_in m k j r h = grind (arith, nat_tests, get_removed m k j)

  -- so each was idle under its number in the beginning
  are_closed : (s : StateView C) (ks : List ℕ) (m : FinMap nat_cmp (Standing C)) → AreIdle ks m → ((k : ℕ) (r : Standing C) → get m k ≡ Some r → get s.records.places k ≡ Some r)
      → AreIdleAs s ks (closed_of ks m)
  are_closed s [] m each from = tt
  are_closed s (k ∷ ks) m each from =
      let it = each.0 in
      let here : closed_in k (get m k) ≡ record { number = k; conn = it.1 } ∷ [] = ap (closed_in k) it.2 ∙ ap (closed_at k) it.3 in
      subst (λ (xs : List (Closed C)). AreIdleAs s (k ∷ ks) (xs ++ closed_of ks (remove m k))) (sym here)
      (refl, (λ l legal means. (it.0, shown_record l s means k ∙ from k it.0 it.2, it.3)), are_closed s ks (remove m k) each.1 (λ j r h. from j r (left_in m k j r h)))

  -- ---- a reap

  idle_both : (js ks : List ℕ) (s : RecordsView C) → AreIdle js s.places → AreIdle ks (after_reap js s).places → AreIdle (js ++ ks) s.places
  idle_both [] ks s a b = b
  idle_both (j ∷ js) ks s a b = (a.0, idle_both js ks (after_reaped j s) a.1 b)

  first_are : (test : Option (Standing C) → Bool) (ks : List ℕ) (s : RecordsView C) → AreFirst test ks s → AreReaped test ks s
  first_are test [] s a = tt
  first_are test (k ∷ ks) s a = (a.1, first_are test ks (after_reaped k s) a.2)

  module _ (test : Option (Standing C) → Bool) (off : test None ≡ false) where
    -- those that pass a test for idle ones are idle
    reaped_idle : ((s : Standing C) → test (Some s) ≡ true → is_idle s.place ≡ true) → (ks : List ℕ) (s : RecordsView C) → AreReaped test ks s → AreIdle ks s.places
    reaped_idle idle [] s each = tt
    reaped_idle idle (k ∷ ks) s each = (go (get s.places k) refl, reaped_idle idle ks (after_reaped k s) each.1)
      where
        go : (o : Option (Standing C)) → get s.places k ≡ o → (r : Standing C) × (c : C) × (get s.places k ≡ Some r) × (r.place ≡ Idle c)
        go o e = grind (arith, nat_tests)

    -- a number is among them once if it passed before, and does not any more
    reaped_count : (k : ℕ) (ks : List ℕ) (s : RecordsView C) → AreReaped test ks s → tally (eqb k) ks + one (test (get (after_reap ks s).places k)) ≡ one (test (get s.places k))
    reaped_count k [] s each = omega arith
    reaped_count k (j ∷ js) s each =
        let ih : tally (eqb k) js + one (test (get (after_reap js (after_reaped j s)).places k)) ≡ one (test (get (remove s.places j) k)) = reaped_count k js (after_reaped j s) each.1 in
        let gone : one (test (get (remove s.places j) k)) ≡ one (test (cond (eqb k j) None (get s.places k))) = ap (λ (o : Option (Standing C)). one (test o)) (get_removed s.places j k) in
        elim (same_or_not k j) [
          | inl t ↦ omega (arith, ap one t.0, ap one (ap (λ (q : ℕ). test (get s.places q)) t.1 ∙ each.0), ap (λ (b : Bool). one (test (cond b None (get s.places k)))) t.0 ∙ ap one off)
          | inr t ↦ omega (arith, ap one t.0, ap (λ (b : Bool). one (test (cond b None (get s.places k)))) t.0)
        ]

  -- those that live too long come as often as in the ledger's list
  aged_count : (s : Start) (now p top : ℕ) (rs : List (Numbered (Standing C))) (js : List ℕ) → AreReaped (lives_out s.config now) js (shown_records s.first p top rs)
      → ((k : ℕ) → lives_out s.config now (get (after_reap js (shown_records s.first p top rs)).places k) ≡ false) → (k : ℕ) → tally (eqb k) js ≡ tally (eqb k) (outlived s now rs)
  aged_count s now p top rs js each none k =
      let all : tally (eqb k) js + one (lives_out s.config now (get (after_reap js (shown_records s.first p top rs)).places k))
      ≡ one (lives_out s.config now (get (shown_records s.first p top rs).places k)) = reaped_count (lives_out s.config now) refl k js (shown_records s.first p top rs) each in
      let over : one (lives_out s.config now (get (after_reap js (shown_records s.first p top rs)).places k)) ≡ 0 = ap one (none k) in
      let listed : tally (eqb k) (outlived s now rs) ≡ passing (λ (r : Numbered (Standing C)). lives_out s.config now r.standing) (at_number s.first rs k) =
      numbers_count (λ (r : Numbered (Standing C)). lives_out s.config now r.standing) rs s.first k in
      omega (arith, ap (λ (o : Option (Standing C)). one (lives_out s.config now o)) (numbered.get-numbered (λ (r : Numbered (Standing C)). r.standing) rs s.first k) ∙ go (at_number s.first rs k))
    where
      go : (o : Option (Numbered (Standing C))) → one (lives_out s.config now (option_and_then (λ (r : Numbered (Standing C)). r.standing) o))
          ≡ passing (λ (r : Numbered (Standing C)). lives_out s.config now r.standing) o
      go o = grind (arith, nat_tests)

  -- what the code closed comes as often as in the ledger's list
  reap_count : (l : Ledger C) (at : ℕ) (js ks : List ℕ) (outcome : ReapCounts)
      → Reaps (start l).config (max (latest l) at) (shown l).records js ks (both_ended js ks (shown l).records) outcome
      → (k : ℕ) → tally (eqb k) (js ++ ks) ≡ tally (eqb k) (reaped_at l at)
  reap_count l at js ks outcome r k =
      let e : Ended_at l at (position l) js ks = ended_at l at (position l) js ks outcome (entered_before l) refl r in
      let aged : tally (eqb k) js ≡ tally (eqb k) (outlived_at l at) = aged_count (start l) (max (latest l) at) (position l) (peak l) (records l) js r.aged r.none_aged k in
      omega (arith, ap (λ (xs : List ℕ). tally (eqb k) xs) e.idle, tally_both (eqb k) js ks, tally_both (eqb k) (outlived_at l at) (idled_at l at))

  -- and so for a retire
  retire_count : (l : Ledger C) (at : ℕ) (js ks : List ℕ) (outcome : ReapCounts)
      → Reaps (retiring_by (start l).config) (max (latest l) at) (shown l).records js ks (both_ended js ks (shown l).records) outcome
      → (k : ℕ) → tally (eqb k) (js ++ ks) ≡ tally (eqb k) (retired_at l at)
  retire_count l at js ks outcome r k =
      let e : Retired_at l at (position l) js ks = retired_ends l at (position l) js ks outcome (entered_before l) refl r in
      let aged : tally (eqb k) js ≡ tally (eqb k) (old_ones l at) = aged_count (retiring (start l)) (max (latest l) at) (position l) (peak l) (records l) js r.aged r.none_aged k in
      omega (arith, ap (λ (xs : List ℕ). tally (eqb k) xs) e.idle, tally_both (eqb k) js ks, tally_both (eqb k) (old_ones l at) (other_ones l at))

  -- what ends by some settings is offered
  ended_offers : (s : StateView C) (config : Settings) {now : ℕ} {js ks : List ℕ} {mid : RecordsView C} {outcome : ReapCounts} (list : Buffer (Closed C)) {offered : Buffer (Closed C)}
      → Reaps config now s.records js ks mid outcome → offered ≡ offered_all (closed_of (js ++ ks) s.records.places) list → Offers s (js ++ ks) list offered
  ended_offers s config {now} {js} {ks} {mid} list r listed = (closed_of (js ++ ks) s.records.places, are_closed s (js ++ ks) s.records.places each (λ k q h. h), listed)
    where
      each : AreIdle (js ++ ks) s.records.places
      each = idle_both js ks s.records
          (reaped_idle (lives_out config now) refl (λ x h. lives_idle config now (Some x) h) js s.records r.aged)
          (reaped_idle (idles_out config now) refl (λ x h. idles_idle config now (Some x) h) ks (after_reap js s.records) (first_are (idles_out config now) ks (after_reap js s.records) r.first))

  pub reap_offers : {s t : StateView C} (at : ℕ) {now : ℕ} {js ks : List ℕ} {mid : RecordsView C} {outcome : ReapCounts} (grant : Grant) (list : Buffer (Closed C)) {offered : Buffer (Closed C)} → s ≡ t
      → now ≡ max s.latest at → Reaps s.config now s.records js ks mid outcome → offered ≡ offered_all (closed_of (js ++ ks) s.records.places) list
      → OffersReaped t at (reaping.Reaped outcome.closed outcome.by_idle outcome.by_life grant) list offered
  reap_offers {s} {t} at {now} {js} {ks} {mid} {outcome} grant list {offered} is now_is r listed =
      subst (λ (x : StateView C). OffersReaped x at (reaping.Reaped outcome.closed outcome.by_idle outcome.by_life grant) list offered) is (
        js ++ ks,
        ended_offers s s.config list r listed,
        λ l legal means k. subst (λ (x : StateView C). now ≡ max x.latest at → Reaps x.config now x.records js ks mid outcome → tally (eqb k) (js ++ ks) ≡ tally (eqb k) (reaped_at l at)) means
            (λ n q. reap_count l at js ks outcome
            (subst (λ (m : ℕ). Reaps (start l).config m (shown l).records js ks (both_ended js ks (shown l).records) outcome) n
            (subst (λ (x : RecordsView C). Reaps (start l).config now (shown l).records js ks x outcome) q.state q)) k) now_is r,
      )

  pub retire_offers : {s t : StateView C} (at : ℕ) {now : ℕ} {js ks : List ℕ} {mid : RecordsView C} {outcome : ReapCounts} (grant : Grant) (list : Buffer (Closed C)) {offered : Buffer (Closed C)} → s ≡ t
      → now ≡ max s.latest at → Reaps (retiring_by s.config) now s.records js ks mid outcome → offered ≡ offered_all (closed_of (js ++ ks) s.records.places) list
      → OffersRetired t at (reaping.Reaped outcome.closed 0 0 grant) list offered
  retire_offers {s} {t} at {now} {js} {ks} {mid} {outcome} grant list {offered} is now_is r listed =
      subst (λ (x : StateView C). OffersRetired x at (reaping.Reaped outcome.closed 0 0 grant) list offered) is (
        js ++ ks,
        ended_offers s (retiring_by s.config) list r listed,
        λ l legal means k. subst (λ (x : StateView C). now ≡ max x.latest at → Reaps (retiring_by x.config) now x.records js ks mid outcome
            → tally (eqb k) (js ++ ks) ≡ tally (eqb k) (retired_at l at)) means
            (λ n q. retire_count l at js ks outcome
            (subst (λ (m : ℕ). Reaps (retiring_by (start l).config) m (shown l).records js ks (both_ended js ks (shown l).records) outcome) n
            (subst (λ (x : RecordsView C). Reaps (retiring_by (start l).config) now (shown l).records js ks x outcome) q.state q)) k) now_is r,
      )

  -- where no handle is alive none is offered
  pub no_reap_offers : {s : StateView C} (at : ℕ) (list : Buffer (Closed C)) → OffersReaped s at reaping.Ended list list
  no_reap_offers at list = ([], ([], tt, refl), λ l legal means k. refl)

  pub no_retire_offers : {s : StateView C} (at : ℕ) (list : Buffer (Closed C)) → OffersRetired s at reaping.Ended list list
  no_retire_offers at list = ([], ([], tt, refl), λ l legal means k. refl)

  -- ---- the last leave

  line_idle : (first p top : ℕ) (ks : List ℕ) (rs : List (Numbered (Standing C))) → Before idle_at p rs → in_order idle_at first rs p ≡ ks → AreIdle ks (shown_records first p top rs).places
  line_idle first p top [] rs b h = tt
  line_idle first p top (k ∷ ks) rs b h =
      let m : (r : Numbered (Standing C)) × (at_number first rs k ≡ Some r) × (q : ℕ) × (q < p)
      × (idle_at q r ≡ true) = numbered.in_order_member idle_at rs first p 0 k (ap (λ (xs : List ℕ). slice_get xs 0) h) in
      let was = standing_is is_idle m.0.standing (and_right (stands is_idle m.0.standing) _ m.4).0 in
      let place = idle_is was.0.place was.2 in
      let step = (shown-idle_end first p top rs k ks h).0 in
      let found : get (shown_records first p top rs).places k ≡ Some was.0 =
      numbered.get-numbered (λ (r : Numbered (Standing C)). r.standing) rs first k ∙ ap (option_and_then (λ (r : Numbered (Standing C)). r.standing)) m.1 ∙ was.1 in
      let rest = line_idle first p top ks (update first k after_end rs) (ended_before p first k rs b) (ap (λ (s : RecordsView C). s.idle) step ∙ ap (drop 1) h) in
      ((was.0, place.0, found, place.1), subst (λ (s : RecordsView C). AreIdle ks s.places) step rest)

  pub left_offers : {s t : StateView C} (list : Buffer (Closed C)) {offered : Buffer (Closed C)} → s ≡ t → HasLedger s → s.handles ≡ 1
      → offered ≡ offered_all (closed_of s.records.idle s.records.places) list → OffersLeft t list offered
  left_offers {s} {t} list {offered} is h last listed =
      grind (arith, nat_tests, are_closed s s.records.idle s.records.places, line_idle (start h.0).first (position h.0) (peak h.0) (shown h.0).records.idle (records h.0), entered_before h.0)

  pub shut_offers : {s t : StateView C} (list : Buffer (Closed C)) {offered : Buffer (Closed C)} → s ≡ t → HasLedger s
      → offered ≡ offered_all (closed_of s.records.idle s.records.places) list → OffersShut t list offered
  shut_offers {s} {t} list {offered} is h listed =
      grind (arith, nat_tests, are_closed s s.records.idle s.records.places, line_idle (start h.0).first (position h.0) (peak h.0) (shown h.0).records.idle (records h.0), entered_before h.0)

  pub none_left : {s t : StateView C} (list : Buffer (Closed C)) → s ≡ t → s.handles ≢ 1 → OffersLeft t list list
  none_left {s} {t} list is more = grind (arith, nat_tests, numbered.ne_test s.handles 1 more)
