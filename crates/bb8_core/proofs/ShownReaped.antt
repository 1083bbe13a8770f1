-- What a reap does to the view: those that live too long end, wherever they are in the queue, and
-- then some from the front of the line.
use Rattle.std.proofs.lemmas.Bool.Decides.{nat_tests}
use Rattle.bb8_core.proofs.Words.{◌≡◌, ℕ, zero, suc, ◌+◌, ◌-◌, ◌≤◌, Bool, true, false, cond, List, [], ◌∷◌, map, filter, take, length, slice_get, Option, Some, None, option_and_then, ◌⊎◌, inl, inr, refl, sym, ap, ◌∙◌, arith, subst, eq-eqb, ne_eqb, unwrap_or, get, Standing, Settings, Numbered, at, update, numbers, in_order, tally, one, standing_at, after_end, after_end_where, stands, is_idle, idles_out, lives_out, Start, idle_at, idle_of, with_ended, outlived, idled, over_idle_at, RecordsView, after_reaped, after_reap, AreReaped, AreFirst, beyond, shown_records, change, same_or_not, at-below, Before, and_right, idle_counted, ended_all_before, ended_swept, over_idle, over_idle_line, lives_idle, idles_idle}
use Rattle.std.proofs.lemmas.List.Elements.{filter-append}
use Rattle.bb8_types.proofs.Numbered as numbered
use Rattle.bb8_core.proofs.ShownLeft.{map-change, idle-ended}

module _ {C : Type 0} where
  -- the content of an element, if there is one
  abbrev standing_in : Option (Numbered (Standing C)) → Option (Standing C)
  standing_in = option_and_then (λ r. r.standing)

  -- where none passes, a sweep ends nothing
  nothing_due : (test : Option (Standing C) → Bool) → test None ≡ false → (rs : List (Numbered (Standing C))) (n : ℕ)
      → ((k : ℕ) → test (standing_at n rs k) ≡ false) → (map (after_end_where test) rs ≡ rs) × (tally (λ r. test r.standing) rs ≡ 0)
  nothing_due test off [] n none = (refl, refl)
  nothing_due test off (r ∷ rs) n none = grind (arith, nat_tests, eq-eqb n n, nothing_due test off rs (suc n), same_or_not, at-below rs (suc n))

  -- no more is left than there was
  pub reap_few : (ks : List ℕ) (s : RecordsView C) → (after_reap ks s).conns + (after_reap ks s).approved ≤ s.conns + s.approved
  reap_few [] s = omega arith
  reap_few (k ∷ ks) s = omega (arith, reap_few ks (after_reaped k s))

  -- those of a position that are idle too long are among the idle ones of that position
  numbers_among : (config : Settings) (now m : ℕ) (rs : List (Numbered (Standing C))) (n : ℕ) (f : ℕ → Bool)
      → ((k : ℕ) → n ≤ k → f k ≡ idles_out config now (standing_at n rs k))
      → numbers (over_idle_at config now m) n rs ≡ filter f (numbers (idle_at m) n rs)
  numbers_among config now m [] n f is = refl
  numbers_among config now m (r ∷ rs) n f is = grind (arith, nat_tests, numbers_among config now m rs (suc n) f, ne_eqb, eq-eqb n n, idles_idle config now r.standing)

  -- so the line of those that are idle too long is the line of the idle ones without the others
  line_among : (s : Start) (now : ℕ) (rs : List (Numbered (Standing C))) (m : ℕ)
      → over_idle s m now rs ≡ filter (λ k. idles_out s.config now (standing_at s.first rs k)) (in_order idle_at s.first rs m)
  line_among s now rs zero = refl
  line_among s now rs (suc m) = grind (arith, nat_tests, line_among s now rs m, numbers_among s.config now m rs s.first, filter-append)

  module _ (s : Start) (p top : ℕ) (now : ℕ) where
    abbrev show : List (Numbered (Standing C)) → RecordsView C
    show = shown_records s.first p top

    -- what is shown of a number
    shown_standing : (rs : List (Numbered (Standing C))) (k : ℕ) → get (show rs).places k ≡ standing_at s.first rs k
    shown_standing rs k = numbered.get-numbered (λ (r : Numbered (Standing C)). r.standing) rs s.first k

    -- the record of a number that passes a test
    due_record : (test : Option (Standing C) → Bool) → test None ≡ false → (rs : List (Numbered (Standing C))) (k : ℕ) → test (get (show rs).places k) ≡ true
        → (r : Numbered (Standing C)) × (at s.first rs k ≡ Some r) × (test r.standing ≡ true)
    due_record test off rs k h = go (at s.first rs k) refl
      where
        go : (o : Option (Numbered (Standing C))) → at s.first rs k ≡ o → (r : Numbered (Standing C)) × (at s.first rs k ≡ Some r) × (test r.standing ≡ true)
        go None e = absurd (let clash : false ≡ true = sym (ap test (shown_standing rs k ∙ ap standing_in e) ∙ off) ∙ h in cc)
        go (Some r) e = (r, e, sym (ap test (shown_standing rs k ∙ ap standing_in e)) ∙ h)

    -- an idle one ends, wherever it is in the queue
    shown-idle_end : (rs : List (Numbered (Standing C))) (k : ℕ) (r : Numbered (Standing C)) → at s.first rs k ≡ Some r → stands is_idle r.standing ≡ true
        → show (change s.first k (after_end r) rs) ≡ after_reaped k (show rs)
    shown-idle_end rs k r h idle_now = idle-ended s.first p top rs k r h idle_now (numbered.in_order-change_off idle_at rs s.first k (after_end r) (λ q. refl) p)

    -- ---- those that live too long

    abbrev due : Option (Standing C) → Bool
    due = lives_out s.config now

    abbrev swept : List (Numbered (Standing C)) → List (Numbered (Standing C))
    swept = map (after_end_where due)

    -- Records after those of these numbers ended: a sweep makes the same of them, and the tally
    -- has lost those that ended.
    record Ends (ks : List ℕ) (rs : List (Numbered (Standing C))) : Type 0 where
      pub to : List (Numbered (Standing C))
      pub shows : show to ≡ after_reap ks (show rs)
      pub same : swept to ≡ swept rs
      pub counted : tally (λ r. due r.standing) to + length ks ≡ tally (λ r. due r.standing) rs

    ends : (ks : List ℕ) (rs : List (Numbered (Standing C))) → AreReaped due ks (show rs) → Ends ks rs
    ends [] rs each = record { to = rs; shows = refl; same = refl; counted = omega arith }
    ends (k ∷ ks) rs each =
        let r = due_record due refl rs k each.0 in
        let now_rs : List (Numbered (Standing C)) = change s.first k (after_end r.0) rs in
        let step : show now_rs ≡ after_reaped k (show rs) = shown-idle_end rs k r.0 r.1 (lives_idle s.config now r.0.standing r.2) in
        let next = ends ks now_rs (subst (λ (t : RecordsView C). AreReaped due ks t) (sym step) each.1) in
        record {
          to = next.to;
          shows = next.shows ∙ ap (after_reap ks) step;
          same = next.same ∙ map-change (after_end_where due) rs s.first k (after_end r.0) r.0 r.1 (ap (λ (b : Bool). cond b (after_end r.0) r.0) (sym r.2));
          counted = omega (arith, next.counted, numbered.tally-change (λ (x : Numbered (Standing C)). due x.standing) rs s.first k (after_end r.0) r.0 r.1, ap one r.2);
        }

    -- The records that live too long are those of the ledger's list, however the code came by them.
    pub record AreAged (ks : List ℕ) (rs : List (Numbered (Standing C))) : Type 0 where
      pub shows : show (with_ended s.first (outlived s now rs) rs) ≡ after_reap ks (show rs)
      pub closed : length ks ≡ length (outlived s now rs)

    pub all_aged : (ks : List ℕ) (rs : List (Numbered (Standing C))) → AreReaped due ks (show rs) → ((k : ℕ) → due (get (after_reap ks (show rs)).places k) ≡ false) → AreAged ks rs
    all_aged ks rs each none =
        let e : Ends ks rs = ends ks rs each in
        let left = nothing_due due refl e.to s.first (λ k. sym (ap due (shown_standing e.to k)) ∙ ap (λ (t : RecordsView C). due (get t.places k)) e.shows ∙ none k) in
        record {
          shows = ap show (ended_swept due s.first rs ∙ sym e.same ∙ left.0) ∙ e.shows;
          closed = (omega (arith, e.counted, numbered.length-numbers (λ r. due r.standing) rs s.first, left.1));
        }

    -- ---- those that are idle too long

    -- the first in line, where it is idle too long, is the first of those that are
    heads : (rs : List (Numbered (Standing C))) (k : ℕ) → slice_get (show rs).idle 0 ≡ Some k → idles_out s.config now (get (show rs).places k) ≡ true
        → (rest : List ℕ) × (over_idle s p now rs ≡ k ∷ rest)
    heads rs k first_is due_now = go (in_order idle_at s.first rs p) refl
      where
        go : (xs : List ℕ) → in_order idle_at s.first rs p ≡ xs → (rest : List ℕ) × (over_idle s p now rs ≡ k ∷ rest)
        go [] e = absurd (let clash : None ≡ Some k = sym (ap (λ (ks : List ℕ). slice_get ks 0) e) ∙ first_is in cc)
        go (x ∷ xs) e =
            let both : Some x ≡ Some k = sym (ap (λ (ks : List ℕ). slice_get ks 0) e) ∙ first_is in
            let same : x ≡ k = cc in
            let on : idles_out s.config now (standing_at s.first rs k) ≡ true = sym (ap (idles_out s.config now) (shown_standing rs k)) ∙ due_now in (
              filter (λ k. idles_out s.config now (standing_at s.first rs k)) xs,
              line_among s now rs p
                  ∙ ap (filter (λ k. idles_out s.config now (standing_at s.first rs k))) (e ∙ ap (λ (y : ℕ). y ∷ xs) same)
                  ∙ ap (λ (b : Bool). cond b (k ∷ filter (λ k. idles_out s.config now (standing_at s.first rs k)) xs) (filter (λ k. idles_out s.config now (standing_at s.first rs k)) xs)) on,
            )

    -- where none is idle too long, nobody is in that line
    nobody : (rs : List (Numbered (Standing C))) → ((k : ℕ) → idles_out s.config now (get (show rs).places k) ≡ false) → over_idle s p now rs ≡ []
    nobody rs none = go (over_idle s p now rs) refl
      where
        go : (xs : List ℕ) → over_idle s p now rs ≡ xs → over_idle s p now rs ≡ []
        go [] e = e
        go (k ∷ xs) e =
            let x = numbered.in_order_member (over_idle_at s.config now) rs s.first p 0 k (ap (λ (ks : List ℕ). slice_get ks 0) e) in
            let on : idles_out s.config now x.0.standing ≡ true = (and_right (idles_out s.config now x.0.standing) _ x.4).0 in
            let off : idles_out s.config now x.0.standing ≡ false = sym (ap (idles_out s.config now) (shown_standing rs k ∙ ap standing_in x.1)) ∙ none k in
            absurd (let clash : true ≡ false = sym on ∙ off in cc)

    -- Those that ended are the first of the ledger's line, and as many as may.
    pub record AreIdled (q : ℕ) (ks : List ℕ) (rs : List (Numbered (Standing C))) : Type 0 where
      pub shows : show (with_ended s.first ks rs) ≡ after_reap ks (show rs)
      pub are : ks ≡ take q (over_idle s p now rs)

    pub all_idled : (q : ℕ) (ks : List ℕ) (rs : List (Numbered (Standing C))) → AreFirst (idles_out s.config now) ks (show rs) → length ks ≤ q
        → (length ks ≡ q) ⊎ ((k : ℕ) → idles_out s.config now (get (after_reap ks (show rs)).places k) ≡ false) → AreIdled q ks rs
    all_idled q [] rs first few (inl all) = record { shows = refl; are = ap (λ (n : ℕ). take n (over_idle s p now rs)) all }
    all_idled q [] rs first few (inr none) = record { shows = refl; are = sym (ap (take q) (nobody rs none) ∙ none_taken q) }
      where
        none_taken : (q : ℕ) → take {A = ℕ} q [] ≡ []
        none_taken q = grind (arith, nat_tests)
    all_idled zero (k ∷ ks) rs first few all = absurd (omega arith)
    all_idled (suc q) (k ∷ ks) rs first few all =
        let r = due_record (idles_out s.config now) refl rs k first.1 in
        let h = heads rs k first.0 first.1 in
        let step : show (update s.first k after_end rs) ≡ after_reaped k (show rs) =
        ap show (numbered.update_is rs s.first k after_end r.0 r.1) ∙ shown-idle_end rs k r.0 r.1 (idles_idle s.config now r.0.standing r.2) in
        let rest : AreIdled q ks (update s.first k after_end rs) = all_idled q ks (update s.first k after_end rs)
        (subst (λ (t : RecordsView C). AreFirst (idles_out s.config now) ks t) (sym step) first.2) (omega arith)
        (subst (λ (t : RecordsView C). (length ks ≡ q) ⊎ ((k : ℕ) → idles_out s.config now (get (after_reap ks t).places k) ≡ false)) (sym step) (one_less all)) in
        record {
          shows = rest.shows ∙ ap (after_reap ks) step;
          are = ap (λ (xs : List ℕ). k ∷ xs) rest.are ∙ ap (λ (xs : List ℕ). k ∷ take q xs) ((over_idle_line s p now).leaves rs k h.0 h.1) ∙ sym (ap (take (suc q)) h.1);
        }
      where
        one_less : {P : Type 0} → (suc (length ks) ≡ suc q) ⊎ P → (length ks ≡ q) ⊎ P
        one_less v = grind (arith, nat_tests)

    -- ---- both

    pub record AreEnded (js ks : List ℕ) (rs : List (Numbered (Standing C))) : Type 0 where
      pub shows : show (with_ended s.first ks (with_ended s.first (outlived s now rs) rs)) ≡ after_reap ks (after_reap js (show rs))
      pub aged : length js ≡ length (outlived s now rs)
      pub idle : ks ≡ idled s p now (with_ended s.first (outlived s now rs) rs)

    pub all_ended : (js ks : List ℕ) (rs : List (Numbered (Standing C))) → Before idle_at p rs → AreReaped due js (show rs)
        → ((k : ℕ) → due (get (after_reap js (show rs)).places k) ≡ false)
        → AreFirst (idles_out s.config now) ks (after_reap js (show rs)) → length ks ≤ beyond s.config (after_reap js (show rs))
        → (length ks ≡ beyond s.config (after_reap js (show rs))) ⊎ ((k : ℕ) → idles_out s.config now (get (after_reap ks (after_reap js (show rs))).places k) ≡ false)
        → AreEnded js ks rs
    all_ended js ks rs before each none first few all =
        let a : AreAged js rs = all_aged js rs each none in
        let then : List (Numbered (Standing C)) = with_ended s.first (outlived s now rs) rs in
        let idle_is : length (in_order idle_at s.first then p) ≡ idle_of then = idle_counted s.first p then (ended_all_before p s.first (outlived s now rs) rs before) in
        let q_is : beyond s.config (show then) ≡ idle_of then - unwrap_or s.config.min_idle 0 = ap (λ (n : ℕ). n - unwrap_or s.config.min_idle 0) idle_is in
        let i : AreIdled (beyond s.config (show then)) ks then = all_idled (beyond s.config (show then)) ks then
        (subst (λ (t : RecordsView C). AreFirst (idles_out s.config now) ks t) (sym a.shows) first)
        (subst (λ (t : RecordsView C). length ks ≤ beyond s.config t) (sym a.shows) few)
        (subst (λ (t : RecordsView C). (length ks ≡ beyond s.config t) ⊎ ((k : ℕ) → idles_out s.config now (get (after_reap ks t).places k) ≡ false)) (sym a.shows) all) in
        record { shows = i.shows ∙ ap (after_reap ks) a.shows; aged = a.closed; idle = i.are ∙ ap (λ (n : ℕ). take n (over_idle s p now then)) q_is }
