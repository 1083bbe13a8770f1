-- Who waits, and since when: an event leaves each where it was, but for a try that begins a wait.
use Rattle.bb8_ledger.proofs.Words.{◌≡◌, ◌≢◌, ◌⊎◌, ℕ, ◌<◌, max, Bool, true, false, cond, eqb, List, [], ◌∷◌, ◌++◌, Option, Some, None, is_some, slice_get, option_map, option_and_then, refl, sym, ap, ◌∙◌, arith, inl, inr, Active, Getting, Numbered, at, at_number, update, in_order, after_end, gets_stand, is_unnotified, is_notified, unnotified_at, get_at_place, at_wait, with_notice, Act, Try, Answer, new_get, Ledger, Later, start, position, latest, gets, idle_count, get_of, Row, begins, waits_on, serves, takes_out, waits, checks, check_fails, gives_up, gives_up_kept, gives_up_closed, keeps, returns_closed, detaches, evicts, opens, adds, IsLegal, fits, and_right, nat_tests}
use Rattle.bb8_ledger.specs.Ledger.{numbered_get}
use Rattle.bb8_ledger.specs.Limits.{AtEach, WaitsSince, KeepsPlaces}
use Rattle.bb8_types.proofs.Numbered as numbered
use Rattle.bb8_ledger.proofs.Waiters.{at_update, begins_now, is_waiting, handed}
use Rattle.bb8_ledger.proofs.Effects.{each_legal, at_each}
use Rattle.bb8_ledger.proofs.GetEffects.{put_off, getting, alive_get, holder_ends, holder_turns, left_gets, left_oldest, handed_to, waits_on_gets}
use Rattle.bb8_ledger.proofs.Sums.{idle_none}

pub waiting_is : (o : Option Getting) → gets_stand is_waiting o ≡ true → (gets_stand is_notified o ≡ true) ⊎ (gets_stand is_unnotified o ≡ true)
waiting_is o on = grind (arith, nat_tests)

pub is_waiting_then : (o : Option Getting) → (gets_stand is_notified o ≡ true) ⊎ (gets_stand is_unnotified o ≡ true) → gets_stand is_waiting o ≡ true
is_waiting_then o row = grind (arith, nat_tests)

-- the get waited where it waits now
abbrev Waited : ℕ → List (Numbered Getting) → ℕ → Numbered Getting → Type 0
Waited first gs g y = (x : Numbered Getting) × (at first gs g ≡ Some x) × (y.position ≡ x.position) × (gets_stand is_waiting x.standing ≡ true)

-- the one that is changed, and another
at_own : (first k g : ℕ) (f : Numbered Getting → Numbered Getting) (gs : List (Numbered Getting)) → eqb g k ≡ true → at first (update first k f gs) g ≡ option_map f (at first gs g)
at_own first k g f gs e = at_update gs first k g f ∙ ap (λ (b : Bool). cond b (option_map f (at first gs g)) (at first gs g)) e

at_other : (first k g : ℕ) (f : Numbered Getting → Numbered Getting) (gs : List (Numbered Getting)) → eqb g k ≡ false → at first (update first k f gs) g ≡ at first gs g
at_other first k g f gs e = at_update gs first k g f ∙ ap (λ (b : Bool). cond b (option_map f (at first gs g)) (at first gs g)) e

-- one that is changed to one that does not wait
pub changed_waited : (first k g : ℕ) (f : Numbered Getting → Numbered Getting) (gs : List (Numbered Getting)) (y : Numbered Getting)
    → ((z : Numbered Getting) → gets_stand is_waiting (f z).standing ≡ false) → at first (update first k f gs) g ≡ Some y → gets_stand is_waiting y.standing ≡ true → (g ≢ k) × (at first gs g ≡ Some y)
changed_waited first k g f gs y off hy on = grind (arith, nat_tests, numbered.same_or_not g k, at_own first k g f gs, at_other first k g f gs)

-- one whose state is known
told_waited : (first m g : ℕ) (n : Option ℕ) (gs : List (Numbered Getting)) (y : Numbered Getting) → n ≡ slice_get (in_order unnotified_at first gs m) 0
    → at first (with_notice first n gs) g ≡ Some y → gets_stand is_waiting y.standing ≡ true → Waited first gs g y
told_waited first m g n gs y is hy on = grind (arith, nat_tests, numbered.same_or_not, numbered.in_order_member, at_own, is_waiting_then, and_right, at_other)

-- one that begins does not wait
begun_waited : (first g : ℕ) (gs : List (Numbered Getting)) (y : Numbered Getting) → at first (gs ++ new_get ∷ []) g ≡ Some y → gets_stand is_waiting y.standing ≡ true → at first gs g ≡ Some y
begun_waited first g gs y hy on = grind (arith, nat_tests, numbered.at-append gs new_get first g)

module _ {C : Type 0} where
  -- the get begins to wait by this event, at which nothing is idle
  abbrev WaitsNow : Ledger C → Act C → ℕ → ℕ → Type 0
  WaitsNow l e g p = (p ≡ position l) × (e ≡ Try g) × (gets_stand is_unnotified (get_of l g) ≡ false) × (idle_count l ≡ 0)

  -- a get that begins to wait, and another one
  waits_waited : (l : Ledger C) (at k g : ℕ) (y : Numbered Getting) → gets_stand is_unnotified (get_of l k) ≡ false → idle_count l ≡ 0
      → at_number (start l).first_get (update (start l).first_get k (at_wait (max (latest l) at) (position l)) (gets l)) g ≡ Some y
      → (numbered_get l g ≡ Some y) ⊎ WaitsNow l (Try k) g y.position
  waits_waited l at k g y off none hy = grind (arith, nat_tests, numbered.same_or_not, at_own, at_other, begins_now)

  -- who waits after an event waited before it where it waits now, or begins to wait by it
  row_waited : (l : Ledger C) (at : ℕ) (e : Act C) (a : Answer) (g : ℕ) (y : Numbered Getting) → fits l e ≡ true → Row l at e a → numbered_get (Later l at e a) g ≡ Some y
      → gets_stand is_waiting y.standing ≡ true → Waited (start l).first_get (gets l) g y ⊎ WaitsNow l e g y.position
  row_waited l at _ _ g y f (begins is few) hy on = inl (y, begun_waited (start l).first_get g (gets l) y hy on, refl, on)
  row_waited l at _ _ g y f (waits_on {g = q} now nothing) hy on = grind (arith, nat_tests, waits_on_gets l)
  row_waited l at _ _ g y f (waits {g = q} not_waiting none granted) hy on = grind (arith, nat_tests, waits_waited l, idle_none l none)
  row_waited l at _ _ g y f (serves {g = q} not_waiting off first want) hy on = inl (y, (changed_waited (start l).first_get q g after_end (gets l) y (λ z. refl) hy on).1, refl, on)
  row_waited l at _ _ g y f (takes_out {g = q} {k} not_waiting now first want) hy on = grind (arith, nat_tests, changed_waited, put_off)
  row_waited l at _ _ g y f (checks {g = q} holds_it nothing) hy on = inl (y, (changed_waited (start l).first_get q g after_end (gets l) y (λ z. refl) hy on).1, refl, on)
  row_waited l at _ _ g y f (check_fails {g = q} {k} {n = n} holds_it want is) hy on =
      let t = (holder_turns l q k holds_it).0 in
      let x = told_waited (start l).first_get (position l) g n (left_gets t) y (left_oldest t n is) hy on in
      inl (x.0, (changed_waited (start l).first_get q g (get_at_place Active) (gets l) x.0 (put_off Active refl) x.1 x.3).1, x.2, x.3)
  row_waited l at _ _ g y f (gives_up {g = q} {n = n} is) hy on =
      let st = alive_get (get_of l q) (and_right (is_some (get_of l q)) _ f).0 in
      let m = getting l q st.0 st.1 in
      let x = pick (is_notified st.0.place) (handed (start l).first_get (position l) q n (gets l) m.0 st.0 m.1 m.2 (handed_to l q n st.0 st.1 is)) in
      inl (x.0, (changed_waited (start l).first_get q g after_end (gets l) x.0 (λ z. refl) x.1 x.3).1, x.2, x.3)
    where
      pick : (b : Bool) → n ≡ cond b (slice_get (in_order unnotified_at (start l).first_get (update (start l).first_get q after_end (gets l)) (position l)) 0) None
          → Waited (start l).first_get (update (start l).first_get q after_end (gets l)) g y
      pick b own = grind (arith, nat_tests, told_waited)
  row_waited l at _ _ g y f (gives_up_kept {g = q} {k} {n = n} holds_it keep is) hy on =
      let t = (holder_ends l q k holds_it).0 in
      let x = told_waited (start l).first_get (position l) g n (left_gets t) y (left_oldest t n is) hy on in
      inl (x.0, (changed_waited (start l).first_get q g after_end (gets l) x.0 (λ z. refl) x.1 x.3).1, x.2, x.3)
  row_waited l at _ _ g y f (gives_up_closed {g = q} {k} {n = n} holds_it shut want is) hy on =
      let t = (holder_ends l q k holds_it).0 in
      let x = told_waited (start l).first_get (position l) g n (left_gets t) y (left_oldest t n is) hy on in
      inl (x.0, (changed_waited (start l).first_get q g after_end (gets l) x.0 (λ z. refl) x.1 x.3).1, x.2, x.3)
  row_waited l at _ _ g y f (keeps {n = n} keep is) hy on = inl (told_waited (start l).first_get (position l) g n (gets l) y is hy on)
  row_waited l at _ _ g y f (returns_closed {n = n} shut want is) hy on = inl (told_waited (start l).first_get (position l) g n (gets l) y is hy on)
  row_waited l at _ _ g y f (detaches {n = n} want is) hy on = inl (told_waited (start l).first_get (position l) g n (gets l) y is hy on)
  row_waited l at _ _ g y f (evicts {n = n} want is) hy on = inl (told_waited (start l).first_get (position l) g n (gets l) y is hy on)
  row_waited l at _ _ g y f (opens {n = n} in_time is) hy on = inl (told_waited (start l).first_get (position l) g n (gets l) y is hy on)
  row_waited l at _ _ g y f (adds {n = n} room few is who) hy on = inl (told_waited (start l).first_get (position l) g n (gets l) y who hy on)
  row_waited l at _ _ g y f _ hy on = inl (y, hy, refl, on)

  pub row_since : (l : Ledger C) (at : ℕ) (e : Act C) (a : Answer) (g p : ℕ) → fits l e ≡ true → Row l at e a → WaitsSince (Later l at e a) g p → WaitsSince l g p ⊎ WaitsNow l e g p
  row_since l at e a g p f row w = grind (arith, nat_tests, row_waited l, is_waiting_then w.0.standing w.3, waiting_is)

  -- a get waits since one position
  pub one_since : (l : Ledger C) (g p q : ℕ) → WaitsSince l g p → WaitsSince l g q → q ≡ p
  one_since l g p q v w = grind (arith, nat_tests)

  -- the standing of a get that waits
  pub since_stands : (l : Ledger C) (g p : ℕ) (w : WaitsSince l g p) → get_of l g ≡ w.0.standing
  since_stands l g p w = ap (λ (o : Option (Numbered Getting)). option_and_then (λ (x : Numbered Getting). x.standing) o) w.1

  row_keeps_places : (l : Ledger C) (at : ℕ) (e : Act C) (a : Answer) → fits l e ≡ true → Row l at e a → KeepsPlaces l at e a
  row_keeps_places l at e a f row g p q was is = grind (arith, nat_tests, row_since l at e a g q f row, one_since l g p q was, since_stands l g p)

  pub all_keep_places : (l : Ledger C) → IsLegal l → AtEach KeepsPlaces l
  all_keep_places = at_each KeepsPlaces (λ l at e g p q was is. inl (one_since l g p q was (is.0, is.1, is.2, is.3))) (λ l at e a legal f row. row_keeps_places l at e a f row)

  -- Each that waits does so since an earlier event, and no two since the same.
  pub record AreApart (l : Ledger C) : Type 0 where
    pub earlier : (g p : ℕ) → WaitsSince l g p → p < position l
    pub apart : (g h p : ℕ) → WaitsSince l g p → WaitsSince l h p → g ≡ h

  pub one_get : (e : Act C) (g h : ℕ) → e ≡ Try g → e ≡ Try h → g ≡ h
  one_get e g h is_g is_h = let same : Try g ≡ Try h = sym is_g ∙ is_h in cc

  pub all_apart : (l : Ledger C) → IsLegal l → AreApart l
  all_apart = each_legal AreApart (λ s lawful. record { earlier = λ g p w. cc; apart = λ g h p w v. cc })
      (λ l at e i. record {
        earlier = λ g p w. omega (arith, i.earlier g p (w.0, w.1, w.2, w.3));
        apart = λ g h p w v. i.apart g h p (w.0, w.1, w.2, w.3) (v.0, v.1, v.2, v.3);
      })
      (λ l at e a legal f row i. record {
        earlier = λ g p w. elim (row_since l at e a g p f row w) [ inl v ↦ omega (arith, i.earlier g p v) | inr now ↦ omega (arith, now.0) ];
        apart = λ g h p w v. elim (row_since l at e a g p f row w) [
          | inl was_g ↦ elim (row_since l at e a h p f row v) [
            | inl was_h ↦ i.apart g h p was_g was_h
            | inr now ↦ absurd (omega (arith, i.earlier g p was_g, now.0))
          ]
          | inr now ↦ elim (row_since l at e a h p f row v) [
            | inl was_h ↦ absurd (omega (arith, i.earlier h p was_h, now.0))
            | inr then ↦ one_get e g h now.1 then.1
          ]
        ];
      })
