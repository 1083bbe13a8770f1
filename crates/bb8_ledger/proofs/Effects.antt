-- What one event of a legal ledger does to the records and to the gets, by the place that it moves
-- from and the place that it moves to.
use Rattle.bb8_ledger.proofs.Words.{ne_eqb, ◌≡◌, ◌⊎◌, ℕ, zero, suc, ◌+◌, ◌<◌, ◌≤◌, max, Bool, true, false, cond, eqb, List, [], ◌∷◌, ◌++◌, length, take, drop, ◌-◌, map, Option, Some, None, slice_get, option_map, option_and_then, refl, sym, ap, ◌∙◌, inl, inr, arith, subst, length-append, length-map, take-length, unwrap_or, Place, Unclaimed, Idle, Held, Guarded, Standing, Holder, Guard, Get, Settings, is_lawful, Act, Leave, Answer, Left, Unfit, Numbered, at_number, update, numbers, in_order, one, standing_at, after_end, after_end_where, Ledger, Opening, Later, Start, start, position, latest, handles, records, conns, approved, idle_count, out, first_idle, unclaimed, record_of, with_ended, outlived, idled, reaped, over_idle_at, tally_places, conns_of, approved_of, idle_of, at_place, entry, at_entry, approval, with_approvals, stands, is_conn, is_approval, is_idle, is_out, is_claimed, is_guarded, is_held_by, idles_out, lives_out, is_left, with_place, Row, IsLegal, Allowed, fits, with_record, reaped_at, outlived_at, idled_at, retired_at, retiring, standing_is, unclaimed_is, claimed_is, guarded_is, idle_is, and_right, ◌*◌, MatchBool, Claimed, nat_tests}
use Rattle.bb8_types.proofs.Numbered as numbered
use Rattle.bb8_ledger.specs.Limits.{AtEach}
use Rattle.bb8_ledger.proofs.Facts.{conns_split}
use Rattle.bb8_ledger.proofs.Waiters.{at_update, changed_tally}

-- which way a test went, with what it says
pub by_fit : (b : Bool) (P Q G : Type 0) → MatchBool b P Q → (b ≡ true → P → G) → (b ≡ false → Q → G) → G
by_fit b P Q G m fit misfit = grind (arith, nat_tests)

-- a number that is not one is less or more
not_one : (n : ℕ) → eqb n 1 ≡ false → 1 ≤ (n - 1) + (1 - n)
not_one n e = grind (arith, nat_tests)

module _ {R : Type 0} where
  -- what is shown of an element, once one has changed that shows this then
  pub updated_shows : {X : Type 0} (show : Option R → X) (rs : List R) (n k q : ℕ) (f : R → R) (x : X) → show (option_map f (at_number n rs k)) ≡ x
      → show (at_number n (update n k f rs) q) ≡ cond (eqb q k) x (show (at_number n rs q))
  updated_shows show rs n k q f x is = grind (arith, at_update rs n k q f, numbered.same_or_not q k)

  -- one has changed, and shows the same
  pub updated_same : {X : Type 0} (show : Option R → X) (rs : List R) (n k q : ℕ) (f : R → R) → show (option_map f (at_number n rs k)) ≡ show (at_number n rs k)
      → show (at_number n (update n k f rs) q) ≡ show (at_number n rs q)
  updated_same show rs n k q f is = grind (arith, updated_shows show rs n k q f _ is)

  -- one has come that shows as much as none
  pub appended_same : {X : Type 0} (show : Option R → X) (rs : List R) (n q : ℕ) (new : R) → show (Some new) ≡ show None
      → show (at_number n (rs ++ new ∷ []) q) ≡ show (at_number n rs q)
  appended_same show rs n q new is = grind (arith, nat_tests, numbered.at-append rs new n q, numbered.same_or_not q (n + length rs), numbered.at-past rs n q)

module _ {C : Type 0} where
  -- ---- one event after another

  -- an event that is allowed did not fit, or it fits and its answer is one of the table
  pub each_allowed : (G : Answer → Type 0) (l : Ledger C) (at : ℕ) (e : Act C) (a : Answer) → Allowed l at e a → G Unfit → (fits l e ≡ true → Row l at e a → G a) → G a
  each_allowed G l at e a allowed unfit row = by_fit (fits l e) _ _ (G a) allowed row (λ t is. subst G (sym is) unfit)

  -- what holds at the beginning, where an event does not fit, and by each row, holds of each legal
  -- ledger
  pub each_legal : (P : Ledger C → Type 0) → ((s : Start) → is_lawful s.config ≡ true → P (Opening s))
      → ((l : Ledger C) (at : ℕ) (e : Act C) → P l → P (Later l at e Unfit))
      → ((l : Ledger C) (at : ℕ) (e : Act C) (a : Answer) → IsLegal l → fits l e ≡ true → Row l at e a → P l → P (Later l at e a))
      → (l : Ledger C) → IsLegal l → P l
  each_legal P opening unfit row (Opening s) legal = opening s legal
  each_legal P opening unfit row (Later l at e a) legal = grind (arith, nat_tests, each_legal P opening unfit row l legal.0, each_allowed)

  -- what holds at each event of the table, and at one that does not fit, holds at each event
  pub at_each : (P : Ledger C → ℕ → Act C → Answer → Type 0) → ((l : Ledger C) (at : ℕ) (e : Act C) → P l at e Unfit)
      → ((l : Ledger C) (at : ℕ) (e : Act C) (a : Answer) → IsLegal l → fits l e ≡ true → Row l at e a → P l at e a) → (l : Ledger C) → IsLegal l → AtEach P l
  at_each P unfit row = each_legal (AtEach P) (λ s lawful. tt) (λ l at e before. (before, unfit l at e)) (λ l at e a legal f z before. (before, row l at e a legal f z))

  -- ---- the state of a record

  -- whether a place passes, where there is one
  abbrev pub passes : (Place C → Bool) → Option (Place C) → Bool
  passes test None = false
  passes test (Some p) = test p

  -- the place of a record that has not ended
  abbrev pub place_of : Option (Standing C) → Option (Place C)
  place_of None = None
  place_of (Some s) = Some s.place

  stands_by_place : (test : Place C → Bool) (o : Option (Standing C)) → stands test o ≡ passes test (place_of o)
  stands_by_place test o = grind (arith, nat_tests)

  -- the record k, which had a state, is changed, and then has another or has ended
  pub record Turns (l : Ledger C) (k : ℕ) (p : Place C) (q : Option (Place C)) (f : Numbered (Standing C) → Numbered (Standing C)) : Type 0 where
    pub standing : Standing C
    pub was : record_of l k ≡ Some standing
    pub from : standing.place ≡ p
    pub to : (r : Numbered (Standing C)) → r.standing ≡ Some standing → place_of (f r).standing ≡ q

  -- a record in another place
  pub to_place : (p : Place C) (s : Standing C) (r : Numbered (Standing C)) → r.standing ≡ Some s → place_of (at_place p r).standing ≡ Some p
  to_place p s r e = ap (λ (o : Option (Standing C)). place_of (option_map (with_place p) o)) e

  -- a record whose state a test decides
  turns_by : (l : Ledger C) (k : ℕ) (test : Place C → Bool) (p : Place C) (q : Option (Place C))
      (f : Numbered (Standing C) → Numbered (Standing C)) → ((x : Place C) → test x ≡ true → x ≡ p) → stands test (record_of l k) ≡ true
      → ((s : Standing C) (r : Numbered (Standing C)) → r.standing ≡ Some s → place_of (f r).standing ≡ q) → Turns l k p q f
  turns_by l k test p q f only h to = grind (arith, standing_is test (record_of l k) h)

  held_by : (g : ℕ) (p : Place C) → is_held_by g p ≡ true → p ≡ Held g
  held_by g p h = grind (arith, nat_tests)

  pub held_turns : (l : Ledger C) (g k : ℕ) (q : Option (Place C)) (f : Numbered (Standing C) → Numbered (Standing C))
      → stands (is_held_by g) (record_of l k) ≡ true
      → ((s : Standing C) (r : Numbered (Standing C)) → r.standing ≡ Some s → place_of (f r).standing ≡ q) → Turns l k (Held g) q f
  held_turns l g k q f = turns_by l k (is_held_by g) (Held g) q f (held_by g)

  -- the idle record that goes out
  pub idle_turns : (l : Ledger C) (k : ℕ) (p : Place C) → first_idle l ≡ Some k → (c : C) × Turns l k (Idle c) (Some p) (at_place p)
  idle_turns l k p first = grind (arith, numbered.in_order_member, standing_is, and_right, idle_is, to_place)

  -- the approval that is claimed
  pub unclaimed_turns : (l : Ledger C) (k : ℕ) → slice_get (unclaimed l) 0 ≡ Some k → Turns l k Unclaimed (Some Claimed) (at_place Claimed)
  unclaimed_turns l k first = grind (arith, numbered.numbers_member, turns_by, unclaimed_is)

  -- a guard gives its connection back, which is kept, or closed
  pub returns_turn : (l : Ledger C) (at k : ℕ) (c : C) → stands is_guarded (record_of l k) ≡ true → Turns l k Guarded (Some (Idle c)) (at_entry c (max (latest l) at) (position l))
  returns_turn l at k c f = turns_by l k is_guarded Guarded (Some (Idle c)) (at_entry c (max (latest l) at) (position l)) guarded_is f (λ s r e. refl)

  pub closes_turn : (l : Ledger C) (k : ℕ) → stands is_guarded (record_of l k) ≡ true → Turns l k Guarded None after_end
  closes_turn l k f = turns_by l k is_guarded Guarded None after_end guarded_is f (λ s r e. refl)

  -- an idle record ends
  pub evicts_turn : (l : Ledger C) (k : ℕ) → stands is_idle (record_of l k) ≡ true → (c : C) × Turns l k (Idle c) None after_end
  evicts_turn l k f = grind (arith, standing_is, idle_is)

  -- a claimed approval brings its connection, or ends
  pub opens_turn : (l : Ledger C) (at k : ℕ) (c : C) → stands is_claimed (record_of l k) ≡ true → Turns l k Claimed (Some (Idle c)) (λ r. entry c (max (latest l) at) (max (latest l) at) (position l))
  opens_turn l at k c f = turns_by l k is_claimed Claimed (Some (Idle c)) (λ r. entry c (max (latest l) at) (max (latest l) at) (position l)) claimed_is f (λ s r e. refl)

  pub ends_turn : (l : Ledger C) (k : ℕ) → stands is_claimed (record_of l k) ≡ true → Turns l k Claimed None after_end
  ends_turn l k f = turns_by l k is_claimed Claimed None after_end claimed_is f (λ s r e. refl)

  -- ---- how many are where

  -- The records once one has moved from a place, or from nowhere, to a place, or to nowhere; more
  -- of them, and so many new approvals.
  pub record Sized (l : Ledger C) (p q : Option (Place C)) (more n : ℕ) (rs : List (Numbered (Standing C))) : Type 0 where
    pub conns_are : conns_of rs + one (passes is_conn p) ≡ conns l + one (passes is_conn q)
    pub approved_are : approved_of rs + one (passes is_approval p) ≡ approved l + one (passes is_approval q) + n
    pub idle_are : idle_of rs + one (passes is_idle p) ≡ idle_count l + one (passes is_idle q)
    pub out_are : tally_places is_out rs + one (passes is_out p) ≡ out l + one (passes is_out q)
    pub many_are : length rs ≡ length (records l) + more + n

  pub stays_sized : (l : Ledger C) → Sized l None None 0 0 (records l)
  stays_sized l = omega arith

  turned_tally : (l : Ledger C) (k : ℕ) (p : Place C) (q : Option (Place C)) (f : Numbered (Standing C) → Numbered (Standing C))
      (test : Place C → Bool) → Turns l k p q f → tally_places test (with_record l k f) + one (test p) ≡ tally_places test (records l) + one
      (passes test q)
  turned_tally l k p q f test t =
      let m = numbered.standing_found (records l) (start l).first k t.standing t.was in
      let from : one (test t.standing.place) ≡ one (test p) = ap one (ap test t.from) in
      omega (arith, ap one (stands_by_place test (f m.0).standing ∙ ap (passes test) (t.to m.0 m.2)), changed_tally (stands test) f (records l) (start l).first k m.0 (Some t.standing) m.1 m.2)

  pub turned_sized : {l : Ledger C} {k : ℕ} {p : Place C} {q : Option (Place C)} {f : Numbered (Standing C) → Numbered (Standing C)} → Turns l k p q f → Sized l (Some p) q 0 0 (with_record l k f)
  turned_sized {l} {k} {p} {q} {f} t =
      grind (
        arith,
        nat_tests,
        turned_tally l k p q f is_conn t,
        turned_tally l k p q f is_approval t,
        turned_tally l k p q f is_idle t,
        turned_tally l k p q f is_out t,
        numbered.length-update (records l) (start l).first k f,
      )

  appended_tally : (test : Place C → Bool) (rs : List (Numbered (Standing C))) (new : Numbered (Standing C))
      → tally_places test (rs ++ new ∷ []) ≡ tally_places test rs + one (stands test new.standing)
  appended_tally test rs new = numbered.tally-append (λ (r : Numbered (Standing C)). stands test r.standing) rs new

  -- a connection is added
  pub adds_sized : (l : Ledger C) (at : ℕ) (c : C) → Sized l None (Some (Idle c)) 1 0 (records l ++ entry c (max (latest l) at) (max (latest l) at) (position l) ∷ [])
  adds_sized l at c = grind (arith, nat_tests, appended_tally, length-append (records l))

  -- The state of each record once so many approvals are made.
  pub record Approved (n : ℕ) (rs new : List (Numbered (Standing C))) : Type 0 where
    pub conns_are : conns_of new ≡ conns_of rs
    pub approved_are : approved_of new ≡ approved_of rs + n
    pub idle_are : idle_of new ≡ idle_of rs
    pub out_are : tally_places is_out new ≡ tally_places is_out rs
    pub many_are : length new ≡ length rs + n

  pub approves : (claimed : Bool) (n : ℕ) (rs : List (Numbered (Standing C))) → Approved n rs (with_approvals claimed n rs)
  approves claimed zero rs = omega arith
  approves claimed (suc n) rs = grind (arith, nat_tests, approves claimed n rs, appended_tally, length-append)

  pub granted_sized : {l : Ledger C} {p q : Option (Place C)} {more : ℕ} {rs : List (Numbered (Standing C))} (claimed : Bool) (n : ℕ)
      → Sized l p q more 0 rs → Sized l p q more n (with_approvals claimed n rs)
  granted_sized {rs = rs} claimed n s = omega (arith, s, approves claimed n rs)

  -- ---- who holds what

  -- who has the connection at a place, where it is out
  abbrev pub holder_in : Option (Place C) → Option Holder
  holder_in (Some (Held g)) = Some (Get g)
  holder_in (Some Guarded) = Some Guard
  holder_in _ = None

  -- who has the connection of a record
  abbrev pub holder : Option (Numbered (Standing C)) → Option Holder
  holder o = holder_in (place_of (option_and_then (λ r. r.standing) o))

  -- who has the connection of a number, of these records
  abbrev pub holder_at : ℕ → List (Numbered (Standing C)) → ℕ → Option Holder
  holder_at first rs j = holder (at_number first rs j)

  -- one record has moved
  pub turned_holder : {l : Ledger C} {k : ℕ} {p : Place C} {q : Option (Place C)} {f : Numbered (Standing C) → Numbered (Standing C)}
      (j : ℕ) → Turns l k p q f → holder_at (start l).first (with_record l k f) j ≡ cond (eqb j k) (holder_in q) (holder_at (start l).first (records l) j)
  turned_holder {l} {k} {q = q} {f = f} j t =
      let m = numbered.standing_found (records l) (start l).first k t.standing t.was in
      updated_shows holder (records l) (start l).first k j f (holder_in q) (ap (λ (o : Option (Numbered (Standing C))). holder (option_map f o)) m.1 ∙ ap holder_in (t.to m.0 m.2))

  -- and who had its connection
  pub turned_from : {l : Ledger C} {k : ℕ} {p : Place C} {q : Option (Place C)} {f : Numbered (Standing C) → Numbered (Standing C)}
      → Turns l k p q f → holder_at (start l).first (records l) k ≡ holder_in (Some p)
  turned_from t = ap (λ (o : Option (Standing C)). holder_in (place_of o)) t.was ∙ ap (λ (x : Place C). holder_in (Some x)) t.from

  -- a record has moved that nobody had, and nobody has
  pub kept_holder : {l : Ledger C} {k : ℕ} {p : Place C} {q : Option (Place C)} {f : Numbered (Standing C) → Numbered (Standing C)}
      (j : ℕ) → Turns l k p q f → holder_in (Some p) ≡ None → holder_in q ≡ None → holder_at (start l).first (with_record l k f) j ≡ holder_at (start l).first (records l) j
  kept_holder {l} {k} {f = f} j t was is =
      grind (arith, nat_tests, numbered.standing_found (records l) (start l).first k t.standing t.was, updated_same holder (records l) (start l).first k j f, turned_from t)

  -- approvals are made, which nobody has
  pub granted_holder : (first j : ℕ) (claimed : Bool) (n : ℕ) (rs : List (Numbered (Standing C))) → holder_at first (with_approvals claimed n rs) j ≡ holder_at first rs j
  granted_holder first j claimed zero rs = refl
  granted_holder first j claimed (suc n) rs = grind (arith, nat_tests, appended_same holder (with_approvals claimed n rs) first j (approval claimed), granted_holder first j claimed n rs)

  -- What the last leave does to a record: it is not idle then, it is no approval that it was not,
  -- and who has it has it.
  record IsSwept (old new : Numbered (Standing C)) : Type 0 where
    pub idle : one (stands is_idle new.standing) ≡ 0
    pub approval : one (stands is_approval new.standing) ≤ one (stands is_approval old.standing)
    pub out : one (stands is_out new.standing) ≡ one (stands is_out old.standing)
    pub holder : holder (Some new) ≡ holder (Some old)

  swept : (r : Numbered (Standing C)) → IsSwept r (after_end_where is_left r)
  swept r = grind arith

  -- the last leave
  pub left_holder : (first j : ℕ) (rs : List (Numbered (Standing C))) → holder_at first (map (after_end_where is_left) rs) j ≡ holder_at first rs j
  left_holder first j [] = refl
  left_holder first j (r ∷ rs) = grind (arith, nat_tests, left_holder (suc first) j rs)

  -- The sizes after a reap.
  pub record AreReaped (l : Ledger C) (closed life n : ℕ) (rs : List (Numbered (Standing C))) : Type 0 where
    pub conns_are : conns_of rs + closed ≡ conns l
    pub approved_are : approved_of rs ≡ approved l + n
    pub idle_are : idle_of rs + closed ≡ idle_count l
    pub out_are : tally_places is_out rs ≡ out l
    pub many_are : length rs ≡ length (records l) + n
    pub few : life ≤ closed

  -- those of a list of numbers end, and none is the first of the row
  ended_skip : (ks : List ℕ) (n : ℕ) (r : Numbered (Standing C)) (rs : List (Numbered (Standing C))) → ((j k : ℕ) → slice_get ks j ≡ Some k → n < k)
      → with_ended n ks (r ∷ rs) ≡ r ∷ with_ended (suc n) ks rs
  ended_skip [] n r rs above = refl
  ended_skip (k ∷ ks) n r rs above =
      ap (λ (b : Bool). with_ended n ks (cond b (after_end r) r ∷ update (suc n) k after_end rs)) (ne_eqb k n (λ same. omega (arith, above 0 k refl)))
      ∙ ended_skip ks n r (update (suc n) k after_end rs) (λ j m e. above (suc j) m e)

  -- the ends of those that pass a test, one after another, are a sweep
  pub ended_swept : (test : Option (Standing C) → Bool) (n : ℕ) (rs : List (Numbered (Standing C))) → with_ended n (numbers (λ r. test r.standing) n rs) rs ≡ map (after_end_where test) rs
  ended_swept test n [] = refl
  ended_swept test n (r ∷ rs) = pick (test r.standing) (ended_swept test (suc n) rs)
    where
      ks : List ℕ
      ks = numbers (λ x. test x.standing) (suc n) rs

      skip : (x : Numbered (Standing C)) → with_ended n ks (x ∷ rs) ≡ x ∷ with_ended (suc n) ks rs
      skip x = ended_skip ks n x rs (λ j k e. omega (arith, numbered.numbers_from (λ y. test y.standing) rs (suc n) j k e))

      pick : (b : Bool) → with_ended (suc n) ks rs ≡ map (after_end_where test) rs
          → with_ended n (cond b (n ∷ ks) ks) (r ∷ rs) ≡ cond b (after_end r) r ∷ map (after_end_where test) rs
      pick b ih = grind (arith, nat_tests, ks, numbered.eqb_self n, numbered.update_below rs (suc n) n after_end, skip (after_end r), skip r)

  -- ---- idle records end, one after another

  -- the ends of some numbers and then of others
  pub ended_append : (first : ℕ) (ks js : List ℕ) (rs : List (Numbered (Standing C))) → with_ended first (ks ++ js) rs ≡ with_ended first js (with_ended first ks rs)
  ended_append first [] js rs = refl
  ended_append first (k ∷ ks) js rs = ended_append first ks js (update first k after_end rs)

  -- each of these is idle when it ends
  abbrev pub AllIdle : ℕ → List ℕ → List (Numbered (Standing C)) → Type 0
  AllIdle first [] rs = Unit {0}
  AllIdle first (k ∷ ks) rs = (stands is_idle (standing_at first rs k) ≡ true) × AllIdle first ks (update first k after_end rs)

  all_idle_append : (first : ℕ) (ks js : List ℕ) (rs : List (Numbered (Standing C))) → AllIdle first ks rs → AllIdle first js (with_ended first ks rs) → AllIdle first (ks ++ js) rs
  all_idle_append first [] js rs a b = b
  all_idle_append first (k ∷ ks) js rs a b = (a.0, all_idle_append first ks js (update first k after_end rs) a.1 b)

  -- a tally loses each of them, or none
  pub ended_tally : (test : Place C → Bool) (z : ℕ) → ((c : C) → one (test (Idle c)) ≡ z) → (first : ℕ) (ks : List ℕ) (rs : List (Numbered (Standing C)))
      → AllIdle first ks rs → tally_places test (with_ended first ks rs) + z * length ks ≡ tally_places test rs
  ended_tally test z is first [] rs all = omega arith
  ended_tally test z is first (k ∷ ks) rs all =
      let s = standing_is is_idle (standing_at first rs k) all.0 in
      let r = numbered.standing_found rs first k s.0 s.1 in
      let c = idle_is s.0.place s.2 in
      let here : one (test s.0.place) ≡ z = ap (λ (p : Place C). one (test p)) c.1 ∙ is c.0 in
      omega (arith, changed_tally (stands test) after_end rs first k r.0 (Some s.0) r.1 r.2, ended_tally test z is first ks (update first k after_end rs) all.1)

  -- and nobody has one of them
  pub ended_holder : (first : ℕ) (ks : List ℕ) (rs : List (Numbered (Standing C))) (j : ℕ) → AllIdle first ks rs → holder_at first (with_ended first ks rs) j ≡ holder_at first rs j
  ended_holder first [] rs j all = refl
  ended_holder first (k ∷ ks) rs j all =
      let s = standing_is is_idle (standing_at first rs k) all.0 in
      let r = numbered.standing_found rs first k s.0 s.1 in
      let free : holder (at_number first rs k) ≡ None = ap (λ (o : Option (Standing C)). holder_in (place_of o)) s.1 ∙ ap (λ (p : Place C). holder_in (Some p)) (idle_is s.0.place s.2).1 in
      ended_holder first ks (update first k after_end rs) j all.1
      ∙ updated_same holder rs first k j after_end (ap (λ (x : Option (Numbered (Standing C))). holder (option_map after_end x)) r.1 ∙ sym free)

  ended_length : (first : ℕ) (ks : List ℕ) (rs : List (Numbered (Standing C))) → length (with_ended first ks rs) ≡ length rs
  ended_length first [] rs = refl
  ended_length first (k ∷ ks) rs = ended_length first ks (update first k after_end rs) ∙ numbered.length-update rs first k after_end

  -- ---- some of a line end, from its front

  -- a queue of idle records, which the first one leaves by its end
  pub record IsLine (first : ℕ) (line : List (Numbered (Standing C)) → List ℕ) : Type 0 where
    pub idle : (rs : List (Numbered (Standing C))) (k : ℕ) (rest : List ℕ) → line rs ≡ k ∷ rest → stands is_idle (standing_at first rs k) ≡ true
    pub leaves : (rs : List (Numbered (Standing C))) (k : ℕ) (rest : List ℕ) → line rs ≡ k ∷ rest → line (update first k after_end rs) ≡ rest

  pub front_idle : (first : ℕ) (line : List (Numbered (Standing C)) → List ℕ) → IsLine first line → (q : ℕ) (xs : List ℕ) (rs : List (Numbered (Standing C)))
      → line rs ≡ xs → AllIdle first (take q xs) rs
  front_idle first line is zero xs rs h = tt
  front_idle first line is (suc q) [] rs h = tt
  front_idle first line is (suc q) (k ∷ xs) rs h = (is.idle rs k xs h, front_idle first line is q xs (update first k after_end rs) (is.leaves rs k xs h))

  pub front_ended : (first : ℕ) (line : List (Numbered (Standing C)) → List ℕ) → IsLine first line → (q : ℕ) (xs : List ℕ) (rs : List (Numbered (Standing C)))
      → line rs ≡ xs → line (with_ended first (take q xs) rs) ≡ drop q xs
  front_ended first line is zero xs rs h = h
  front_ended first line is (suc q) [] rs h = h
  front_ended first line is (suc q) (k ∷ xs) rs h = front_ended first line is q xs (update first k after_end rs) (is.leaves rs k xs h)

  pub lives_idle : (config : Settings) (now : ℕ) (o : Option (Standing C)) → lives_out config now o ≡ true → stands is_idle o ≡ true
  lives_idle config now o e = grind (arith, nat_tests)

  pub idles_idle : (config : Settings) (now : ℕ) (o : Option (Standing C)) → idles_out config now o ≡ true → stands is_idle o ≡ true
  idles_idle config now o e = grind (arith, nat_tests)

  -- those that live too long are one
  pub outlived_line : (s : Start) (now : ℕ) → IsLine s.first (outlived s now)
  outlived_line s now = record {
    idle = λ rs k rest h.
        let m = numbered.numbers_member (λ (r : Numbered (Standing C)). lives_out s.config now r.standing) rs s.first 0 k (ap (λ (xs : List ℕ). slice_get xs 0) h) in
        ap (λ (o : Option (Numbered (Standing C))). stands is_idle (option_and_then (λ r. r.standing) o)) m.1
        ∙ lives_idle s.config now m.0.standing m.2;
    leaves = λ rs k rest h.
        let m = numbered.numbers_member (λ (r : Numbered (Standing C)). lives_out s.config now r.standing) rs s.first 0 k (ap (λ (xs : List ℕ). slice_get xs 0) h) in
        ap (outlived s now) (numbered.update_is rs s.first k after_end m.0 m.1)
        ∙ numbered.numbers-change_head (λ (r : Numbered (Standing C)). lives_out s.config now r.standing) rs s.first k rest (after_end m.0) h refl;
  }

  -- those that are idle too long, by position
  abbrev pub over_idle : Start → ℕ → ℕ → List (Numbered (Standing C)) → List ℕ
  over_idle s position now rs = in_order (over_idle_at s.config now) s.first rs position

  -- and those are one
  pub over_idle_line : (s : Start) (m now : ℕ) → IsLine s.first (over_idle s m now)
  over_idle_line s m now = record {
    idle = λ rs k rest h.
        let x = numbered.in_order_member (over_idle_at s.config now) rs s.first m 0 k (ap (λ (xs : List ℕ). slice_get xs 0) h) in
        ap (λ (o : Option (Numbered (Standing C))). stands is_idle (option_and_then (λ r. r.standing) o)) x.1
        ∙ idles_idle s.config now x.0.standing (and_right (idles_out s.config now x.0.standing) _ x.4).0;
    leaves = λ rs k rest h.
        let x = numbered.in_order_member (over_idle_at s.config now) rs s.first m 0 k (ap (λ (xs : List ℕ). slice_get xs 0) h) in
        ap (over_idle s m now) (numbered.update_is rs s.first k after_end x.0 x.1)
        ∙ numbered.in_order-change_head (over_idle_at s.config now) one_place rs s.first k rest (after_end x.0) (λ q. refl) m h;
  }
    where
      one_place : (p q : ℕ) (r : Numbered (Standing C)) → over_idle_at s.config now p r ≡ true → over_idle_at s.config now q r ≡ true → p ≡ q
      one_place p q r a b = grind (arith, nat_tests)

  -- ---- what a reap ends

  -- each that a reap ends is idle then
  pub reaped_idle : (s : Start) (m now : ℕ) (rs : List (Numbered (Standing C))) → AllIdle s.first (reaped s m now rs) rs
  reaped_idle s m now rs =
      let aged : AllIdle s.first (take (length (outlived s now rs)) (outlived s now rs)) rs =
      front_idle s.first (outlived s now) (outlived_line s now) (length (outlived s now rs)) (outlived s now rs) rs refl in
      let then : List (Numbered (Standing C)) = with_ended s.first (outlived s now rs) rs in
      all_idle_append s.first (outlived s now rs) (idled s m now then) rs
      (subst (λ (ks : List ℕ). AllIdle s.first ks rs) (take-length (outlived s now rs)) aged)
      (front_idle s.first (over_idle s m now) (over_idle_line s m now) (idle_of then - unwrap_or s.config.min_idle 0) (over_idle s m now then) then refl)

  -- once idle records have ended, `life` of them for their age
  ended_sized : (l : Ledger C) (ks : List ℕ) (life : ℕ) → AllIdle (start l).first ks (records l) → life ≤ length ks → AreReaped l (length ks) life 0 (with_ended (start l).first ks (records l))
  ended_sized l ks life all few = omega (
    arith,
    ended_tally is_conn 1 (λ c. refl) (start l).first ks (records l) all,
    ended_tally is_approval 0 (λ c. refl) (start l).first ks (records l) all,
    ended_tally is_idle 1 (λ c. refl) (start l).first ks (records l) all,
    ended_tally is_out 0 (λ c. refl) (start l).first ks (records l) all,
    ended_length (start l).first ks (records l),
  )

  pub reaped_sized : (l : Ledger C) (at : ℕ) → AreReaped l (length (reaped_at l at)) (length (outlived_at l at)) 0
      (with_ended (start l).first (reaped_at l at) (records l))
  reaped_sized l at =
      ended_sized l (reaped_at l at) (length (outlived_at l at)) (reaped_idle (start l) (position l) (max (latest l) at) (records l)) (omega (arith, length-append (outlived_at l at) (idled_at l at)))

  -- and after a retire
  pub retired_sized : (l : Ledger C) (at : ℕ) → AreReaped l (length (retired_at l at)) (length (retired_at l at)) 0
      (with_ended (start l).first (retired_at l at) (records l))
  retired_sized l at = ended_sized l (retired_at l at) (length (retired_at l at)) (reaped_idle (retiring (start l)) (position l) (max (latest l) at) (records l)) (omega arith)

  pub granted_reaped : {l : Ledger C} {closed life : ℕ} {rs : List (Numbered (Standing C))} (n : ℕ) → AreReaped l closed life 0 rs → AreReaped l closed life n (with_approvals false n rs)
  granted_reaped {rs = rs} n s = omega (arith, s, approves false n rs)

  left_sweep : (rs : List (Numbered (Standing C))) → let new : List (Numbered (Standing C)) = map (after_end_where is_left) rs in
      (idle_of new ≡ 0) × (approved_of new ≤ approved_of rs) × (tally_places is_out new ≡ tally_places is_out rs)
  left_sweep [] = (refl, omega arith, refl)
  left_sweep (r ∷ rs) = grind (arith, nat_tests, left_sweep rs)

  -- The sizes after a close.
  pub record AreShut (l : Ledger C) (rs : List (Numbered (Standing C))) : Type 0 where
    pub conns_few : conns_of rs ≤ conns l
    pub approved_few : approved_of rs ≤ approved l
    pub out_are : tally_places is_out rs ≡ out l
    pub many_are : length rs ≡ length (records l)
    pub none_idle : idle_of rs ≡ 0

  pub shut_sized : (l : Ledger C) → AreShut l (map (after_end_where is_left) (records l))
  shut_sized l = search (arith, left_sweep, conns_split, length-map)

  -- The sizes after the leave of a handle.
  pub record AreLeft (l : Ledger C) (rs : List (Numbered (Standing C))) : Type 0 where
    pub conns_few : conns_of rs ≤ conns l
    pub approved_few : approved_of rs ≤ approved l
    pub out_are : tally_places is_out rs ≡ out l
    pub many_are : length rs ≡ length (records l)
    pub last : ((handles l ≡ 1) × (idle_of rs ≡ 0)) ⊎ ((1 ≤ (handles l - 1) + (1 - handles l)) × (conns_of rs ≡ conns l) × (approved_of rs ≡ approved l) × (idle_of rs ≡ idle_count l))

  pub left_sized : (l : Ledger C) (at n : ℕ) → AreLeft l (records (Later l at Leave (Left n)))
  left_sized l at n = pick (eqb (handles l) 1) refl
    where
      pick : (b : Bool) → eqb (handles l) 1 ≡ b → AreLeft l (cond b (map (after_end_where is_left) (records l)) (records l))
      pick false e = record { conns_few = omega arith; approved_few = omega arith; out_are = refl; many_are = refl; last = inr (not_one (handles l) e, refl, refl, refl) }
      pick true e =
          let rs : List (Numbered (Standing C)) = map (after_end_where is_left) (records l) in
          let sweep = left_sweep (records l) in
          record {
            conns_few = omega (arith, conns_split rs, conns_split (records l), sweep.0);
            approved_few = sweep.1;
            out_are = sweep.2;
            many_are = omega (arith, length-map (records l) (after_end_where is_left));
            last = inl (numbered.tested (handles l) 1 e, sweep.0);
          }
