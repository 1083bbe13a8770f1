-- If each notification is handed off, waiters are served in order.
use Rattle.bb8_ledger.proofs.Words.{eq-eqb, ◌≡◌, ◌≢◌, ◌⊎◌, ℕ, suc, ◌+◌, ◌-◌, ◌<◌, ◌≤◌, min, Bool, true, false, cond, eqb, List, [], ◌∷◌, length, Option, Some, None, is_some, slice_get, option_and_then, refl, sym, ap, ◌∙◌, arith, subst, inl, inr, IfSome, GetPlace, Holding, Waiting, Getting, Place, Idle, Standing, Numbered, at, at_number, update, in_order, numbers, tally, one, standing_at, after_end, gets_stand, stands, is_unnotified, is_notified, is_trying, is_idle, unnotified_at, get_at_place, with_notice, Act, Try, Answer, Served, Taken, Ledger, Later, start, position, records, gets, next, idle_count, notified, handles, conns, approved, first_idle, record_of, get_of, with_record, Row, begins, waits_on, serves, takes_out, waits, check_fails, gives_up, gives_up_kept, gives_up_closed, keeps, returns_closed, detaches, evicts, opens, adds, IsLegal, fits, and_right, standing_is, Guarded, Allowed, nat_tests}
use Rattle.bb8_ledger.specs.Ledger.{numbered_get}
use Rattle.bb8_ledger.specs.Limits.{AtEach, WaitsSince}
use Rattle.bb8_ledger.specs.Answers as answers
use Rattle.bb8_ledger.specs.Handed.{notified_by, brought_by, just_notified, just_brought, waiters, notified_at, oldest_notified, due_try, HandsOver, IsFirst, past, served_up_to, AllWaitBehind, GoesWith, TriesInTurn, unasked, KeepsOrder, TriesWhenNotified, IsOrderly, IsPrompt}
use Rattle.bb8_ledger.specs.Limits.{lost}
use Rattle.bb8_ledger.specs.Handed.{missed}
use Rattle.bb8_types.proofs.Numbered as numbered
use Rattle.bb8_ledger.proofs.Waiters.{some_tally, in_order_some, in_order_least, both_hold, one_few, at_update, tally_update, getting_is, handed, is_waiting}
use Rattle.bb8_ledger.proofs.Effects.{each_legal, place_of, Turns, updated_shows, idle_turns, returns_turn, opens_turn}
use Rattle.bb8_ledger.proofs.GetEffects.{put_off, getting, alive_get, trier, holder_ends, holder_turns, left_gets, left_oldest, handed_to}
use Rattle.bb8_ledger.proofs.Sums.{idle_none, untold, notified_in, IsMet, LosesFew, Provides, row_sums}
use Rattle.bb8_ledger.proofs.Held.{hands_in_turn}
use Rattle.bb8_ledger.proofs.Wants.{either_none}
use Rattle.bb8_ledger.proofs.Places.{is_waiting_then, changed_waited, row_since, one_since, one_get, all_apart}
use Rattle.bb8_ledger.proofs.Laws.{all_serve, keeps_promises}

-- ---- of those that pass a test there is one at most

none_else : {S : Type 0} (test : Option S → Bool) (rs : List (Numbered S)) (n k m : ℕ) (x y : Numbered S) → test None ≡ false
    → at n rs k ≡ Some x → test x.standing ≡ true → at n rs m ≡ Some y → test y.standing ≡ true → tally (λ r. test r.standing) rs ≤ 1 → m ≡ k
none_else {S} test rs n k m x y none hx on_x hy on_y few = elim (numbered.same_or_not m k) [
  | inl t ↦ t.1
  | inr t ↦
      let there : at n (update n k after_end rs) m ≡ Some y = at_update rs n k m after_end ∙ rw t.0 hy in
      absurd (omega (
        arith,
        tally_update (λ (r : Numbered S). test r.standing) rs n k after_end x hx,
        some_tally (λ (r : Numbered S). test r.standing) (update n k after_end rs) n m y there on_y,
        ap one on_x,
        ap one none,
        few,
      ))
]

-- ---- who is notified of those who wait

-- what the get of a number passes, of these gets
abbrev passes_at : (GetPlace → Bool) → Option (Numbered Getting) → Bool
passes_at test o = gets_stand test (option_and_then (λ (x : Numbered Getting). x.standing) o)

-- the first of those in line is notified once a result named it
told_stands : (first m g : ℕ) (gs : List (Numbered Getting)) → slice_get (in_order unnotified_at first gs m) 0 ≡ Some g
    → gets_stand is_notified (standing_at first (update first g (get_at_place (Waiting true)) gs) g) ≡ true
told_stands first m g gs is =
    grind (
      arith,
      nat_tests,
      numbered.in_order_member unnotified_at gs first m 0 g is,
      getting_is,
      and_right,
      updated_shows (passes_at is_notified) gs first g g (get_at_place (Waiting true)) true,
      numbered.eqb_self,
    )

-- the oldest waiter is notified once a result named it
told_is : (first m : ℕ) (n : Option ℕ) (gs : List (Numbered Getting)) (g : ℕ) → n ≡ slice_get (in_order unnotified_at first gs m) 0 → n ≡ Some g
    → gets_stand is_notified (standing_at first (with_notice first n gs) g) ≡ true
told_is first m n gs g is told = grind (arith, nat_tests, told_stands)

-- who is notified may try
notified_tries : (o : Option Getting) → gets_stand is_notified o ≡ true → gets_stand is_trying o ≡ true
notified_tries o on = grind (arith, nat_tests)

module _ {C : Type 0} where
  -- ---- which connection became idle

  idle_by_place : (c : C) (o : Option (Standing C)) → place_of o ≡ Some (Idle c) → stands is_idle o ≡ true
  idle_by_place c o e = grind (arith, nat_tests)

  -- whether the record of a number is idle
  abbrev idles_at : Option (Numbered (Standing C)) → Bool
  idles_at o = stands is_idle (option_and_then (λ (x : Numbered (Standing C)). x.standing) o)

  turned_idle : (l : Ledger C) (k j : ℕ) (p : Place C) (c : C) (f : Numbered (Standing C) → Numbered (Standing C)) → Turns l k p (Some (Idle c)) f → k ≡ j
      → stands is_idle (standing_at (start l).first (with_record l k f) j) ≡ true
  turned_idle l k j p c f t same =
      grind (arith, nat_tests, numbered.standing_found (records l) (start l).first k t.standing t.was, updated_shows idles_at (records l) (start l).first k k f true, idle_by_place, numbered.eqb_self)

  -- the connection that an event brought is idle
  row_brought : (l : Ledger C) (at : ℕ) (e : Act C) (a : Answer) (j : ℕ) → IsLegal l → fits l e ≡ true → Row l at e a → brought_by a ≡ Some j → stands is_idle (record_of (Later l at e a) j) ≡ true
  row_brought l at _ _ j legal f (gives_up_kept {g} {k} {c = c} holds_it keep is) brought =
      turned_idle l k j _ c _ (hands_in_turn l at g k c legal holds_it) (let same : k ≡ j = cc in same)
  row_brought l at _ _ j legal f (keeps {k} {c} keep is) brought =
      turned_idle l k j _ c _ (returns_turn l at k c f) (let same : k ≡ j = cc in same)
  row_brought l at _ _ j legal f (opens {k} {c} in_time is) brought =
      turned_idle l k j _ c _ (opens_turn l at k c f) (let same : k ≡ j = cc in same)
  row_brought l at _ _ j legal f (adds {k} {c} room few is who) brought = grind (arith, nat_tests, numbered.at-append (records l), eq-eqb j (next l))
  row_brought l at _ _ j legal f _ brought = cc

  -- what an event of the table shows then
  row_shows : (l : Ledger C) (at : ℕ) (e : Act C) (a : Answer) → Row l at e a → (just_notified (Later l at e a) ≡ notified_by a) × (just_brought (Later l at e a) ≡ brought_by a)
  row_shows l at e a z = grind (arith, nat_tests)

  all_brought : (l : Ledger C) → IsLegal l → (k : ℕ) → just_brought l ≡ Some k → stands is_idle (record_of l k) ≡ true
  all_brought = each_legal (λ l. (k : ℕ) → just_brought l ≡ Some k → stands is_idle (record_of l k) ≡ true) (λ s lawful k brought. cc) (λ l at e before. before)
      (λ l at e a legal f row before k brought. row_brought l at e a k legal f row (sym (row_shows l at e a row).1 ∙ brought))

  -- the idle connection that goes out is the one that was brought, where just that is idle
  goes_out : (l : Ledger C) (k : ℕ) → first_idle l ≡ Some k → (x : Numbered (Standing C)) × (at_number (start l).first (records l) k ≡ Some x) × (stands is_idle x.standing ≡ true)
  goes_out l k first = grind (arith, nat_tests, idle_turns l k Guarded first, numbered.standing_found)

  -- a record that is idle
  idle_found : (l : Ledger C) (k : ℕ) → stands is_idle (record_of l k) ≡ true → (x : Numbered (Standing C)) × (at_number (start l).first (records l) k ≡ Some x) × (stands is_idle x.standing ≡ true)
  idle_found l k on = grind (arith, nat_tests, standing_is, numbered.standing_found)

  some_idle : (l : Ledger C) (k : ℕ) → first_idle l ≡ Some k → 0 < idle_count l
  some_idle l k first = let x = goes_out l k first in some_tally (λ (r : Numbered (Standing C)). stands is_idle r.standing) (records l) (start l).first k x.0 x.1 x.2

  -- it is that one, where no more are idle
  that_one : (l : Ledger C) (k : ℕ) (o : Option ℕ) → first_idle l ≡ Some k → idle_count l ≤ one (is_some o) → ((j : ℕ) → o ≡ Some j → stands is_idle (record_of l j) ≡ true) → o ≡ Some k
  that_one l k None first few on = absurd (omega (arith, few, some_idle l k first))
  that_one l k (Some j) first few on =
      let x = goes_out l k first in
      let y = idle_found l j (on j refl) in
      ap (λ (q : ℕ). Some q) (sym (none_else (stands is_idle) (records l) (start l).first j k y.0 x.0 refl y.1 y.2 x.1 x.2 few))

  -- ---- whose try is due

  -- a get that passes a test, with its position
  found : (test : GetPlace → Bool) (l : Ledger C) (g : ℕ) → gets_stand test (get_of l g) ≡ true → (x : Numbered Getting) × (numbered_get l g ≡ Some x) × (gets_stand test x.standing ≡ true)
  found test l g on = grind (arith, nat_tests, getting_is test (get_of l g) on, getting l g)

  some_notified : (l : Ledger C) → 0 < notified l → (g : ℕ) × (x : Numbered Getting) × (numbered_get l g ≡ Some x) × (gets_stand is_notified x.standing ≡ true)
  some_notified l some = go (numbers (λ (x : Numbered Getting). gets_stand is_notified x.standing) (start l).first_get (gets l)) refl
    where
      go : (ks : List ℕ) → numbers (λ (x : Numbered Getting). gets_stand is_notified x.standing) (start l).first_get (gets l) ≡ ks
          → (g : ℕ) × (x : Numbered Getting) × (numbered_get l g ≡ Some x) × (gets_stand is_notified x.standing ≡ true)
      go [] e = absurd (omega (
        arith,
        some,
        numbered.length-numbers (λ (x : Numbered Getting). gets_stand is_notified x.standing) (gets l) (start l).first_get,
        ap (λ (ks : List ℕ). length ks) e,
      ))
      go (g ∷ ks) e =
          let t = numbered.numbers_member (λ (x : Numbered Getting). gets_stand is_notified x.standing) (gets l) (start l).first_get 0 g (ap (λ (ks : List ℕ). slice_get ks 0) e) in
          (g, t.0, t.1, t.2)

  -- where some are notified, one of them waits longest
  oldest_is : (l : Ledger C) → IsLegal l → 0 < notified l → (g : ℕ) × (oldest_notified l ≡ Some g)
  oldest_is l legal some = go (in_order notified_at (start l).first_get (gets l) (position l)) refl
    where
      go : (ks : List ℕ) → in_order notified_at (start l).first_get (gets l) (position l) ≡ ks → (g : ℕ) × (oldest_notified l ≡ Some g)
      go [] e =
          let t = some_notified l some in
          absurd (in_order_some notified_at (gets l) (start l).first_get (position l) t.0 t.1.position t.1 t.2
          (both_hold (gets_stand is_notified t.1.standing) (eqb t.1.position t.1.position) t.3 (numbered.eqb_self t.1.position))
          ((all_apart l legal).earlier t.0 t.1.position (t.1, t.2, refl, inl t.3)) e)
      go (g ∷ ks) e = (g, ap (λ (xs : List ℕ). slice_get xs 0) e)

  -- it is notified, and the first of all that wait
  oldest_first : (l : Ledger C) (g : ℕ) → IsLegal l → oldest_notified l ≡ Some g → (gets_stand is_notified (get_of l g) ≡ true) × IsFirst l g
  oldest_first l g legal is =
      let t = in_order_least notified_at (gets l) (start l).first_get (position l) g is in
      let on : (gets_stand is_notified t.0.standing ≡ true) × (eqb t.0.position t.2 ≡ true) = and_right (gets_stand is_notified t.0.standing) _ t.4 in
      let here : t.0.position ≡ t.2 = numbered.tested t.0.position t.2 on.1 in (
        ap (λ (o : Option (Numbered Getting)). gets_stand is_notified (option_and_then (λ (x : Numbered Getting). x.standing) o)) t.1 ∙ on.0,
        λ h q w other. (
          t.0.position,
          (t.0, t.1, refl, inl on.0),
          elim w.3 [
            | inl on_h ↦
                let below : q < t.2 → ⊥ = λ few. in_order_some notified_at (gets l) (start l).first_get t.2 h q w.0 w.1
                (both_hold (gets_stand is_notified w.0.standing) (eqb w.0.position q) on_h (eq-eqb w.0.position q w.2)) few t.5 in
                let there : q ≢ t.0.position = λ same.
                other ((all_apart l legal).apart h g q w (subst (λ (p : ℕ). WaitsSince l g p) (sym same) (t.0, t.1, refl, inl on.0))) in
                omega (arith, here, below, there)
            | inr on_h ↦ omega (arith, (keeps_promises l legal).in_turn g h t.0 w.0 t.1 w.1 on.0 on_h, w.2)
          ],
        ),
      )

  -- a try is due where a connection is idle
  due_is : (l : Ledger C) (g : ℕ) → due_try l ≡ Some g → (0 < idle_count l) × (oldest_notified l ≡ Some g)
  due_is l g is = grind (arith, nat_tests, numbered.same_or_not (idle_count l) 0)

  -- where none is, nobody waits or nothing is idle
  none_due : (l : Ledger C) → IsLegal l → due_try l ≡ None → min (waiters l) (idle_count l) ≡ 0
  none_due l legal none = grind (arith, nat_tests, numbered.same_or_not (idle_count l) 0, oldest_is l legal, all_serve l legal)

  -- of gets, for the event of one
  abbrev IsOf : Option ℕ → Act C → Type 0
  IsOf o e = IfSome o (λ g. e ≡ Try g)

  met : (l : Ledger C) (e : Act C) → IsLegal l → IsOf (due_try l) e → IsMet l e
  met l e legal h = grind (arith, nat_tests, none_due, oldest_first, due_is)

  -- ---- what a history with hand-off keeps

  -- Where somebody waits, nothing is idle but what became idle just now; and what is counted of
  -- those who wait.
  record IsHanded (l : Ledger C) : Type 0 where
    pub settled : min (waiters l) (idle_count l - one (is_some (just_brought l))) ≡ 0
    pub few : LosesFew l
    pub provided : Provides l

  row_handed : (l : Ledger C) (at : ℕ) (e : Act C) (a : Answer) → IsLegal l → fits l e ≡ true → Row l at e a → IsMet l e → IsHanded l → IsHanded (Later l at e a)
  row_handed l at e a legal f row m i = grind (arith, nat_tests, row_sums l, one_few (is_some (just_brought l)), row_shows l)

  abbrev IfHanded : (Ledger C → Type 0) → Ledger C → Type 0
  IfHanded P l = HandsOver l → P l

  -- what an event that fitted hands off
  fitted : (l : Ledger C) (at : ℕ) (e : Act C) (a : Answer) → Row l at e a → HandsOver (Later l at e a) → HandsOver l × IsOf (due_try l) e
  fitted l at e _ (begins is few) h = h
  fitted l at e _ _ h = h

  all_handed : (l : Ledger C) → IsLegal l → IfHanded IsHanded l
  all_handed = each_legal (IfHanded IsHanded)
      (λ s lawful h. record { settled = refl; few = omega arith; provided = omega arith })
      (λ l at e before h. let i = before h in record { settled = i.settled; few = i.few; provided = omega (arith, i.provided) })
      (λ l at e a legal f row before h. let t = fitted l at e a row h in row_handed l at e a legal f row (met l e legal t.1) (before t.0))

  -- ---- in turn

  -- who waits is counted
  counted : (l : Ledger C) (h q : ℕ) → WaitsSince l h q → 0 < waiters l
  counted l h q w = grind (arith, nat_tests, some_tally)

  -- where a connection is idle, only the first of those who wait may try
  first_tries : (l : Ledger C) (g : ℕ) → IsLegal l → IsOf (due_try l) (Try g) → 0 < idle_count l → IsFirst l g
  first_tries l g legal h some = go (due_try l) refl h
    where
      go : (o : Option ℕ) → due_try l ≡ o → IsOf o (Try g) → IsFirst l g
      go None is same = λ h q w other. absurd (omega (arith, none_due l legal is, some, counted l h q w))
      go (Some j) is same = subst (λ (q : ℕ). IsFirst l q) (sym (one_get (Try g) g j refl same)) (oldest_first l j legal (due_is l j is).1).1

  went_out : (l : Ledger C) (k : ℕ) → IsLegal l → IsHanded l → first_idle l ≡ Some k → 0 < waiters l → just_brought l ≡ Some k
  went_out l k legal i first some = that_one l k (just_brought l) first (omega (arith, i.settled, some)) (all_brought l legal)

  row_in_turn : (l : Ledger C) (at : ℕ) (e : Act C) (a : Answer) → IsLegal l → fits l e ≡ true → Row l at e a → IsHanded l → IsOf (due_try l) e → TriesInTurn l at e a
  row_in_turn l at e _ legal f (waits_on {g} on nothing) i h =
      let m = found is_unnotified l g on in
      omega (arith, met l (Try g) legal h, counted l g m.0.position (m.0, m.1, refl, inr m.2), ap one (untold (get_of l g) on))
  row_in_turn l at e _ legal f (serves {g} {k} not_waiting off first want) i h = (first_tries l g legal h (some_idle l k first), went_out l k legal i first)
  row_in_turn l at e _ legal f (takes_out {g} {k} not_waiting on first want) i h = (first_tries l g legal h (some_idle l k first), went_out l k legal i first)
  row_in_turn l at e _ legal f (waits {g} not_waiting none granted) i h = idle_none l none
  row_in_turn l at e _ legal f _ i h = tt

  always_in_turn : (l : Ledger C) → IsLegal l → IfHanded (AtEach TriesInTurn) l
  always_in_turn = grind (arith, nat_tests, each_legal (IfHanded (AtEach TriesInTurn)), fitted, row_in_turn, all_handed)

  -- ---- the order of those that go out

  -- a get that had waited goes out: it is the first, waited since this position, and waits no more
  record GoesOut (l : Ledger C) (at : ℕ) (e : Act C) (a : Answer) : Type 0 where
    pub who : ℕ
    pub since : ℕ
    pub waited : WaitsSince l who since
    pub earlier : since < position l
    pub first : IsFirst l who
    pub gone : (q : ℕ) → WaitsSince (Later l at e a) who q → ⊥
    pub up_to : served_up_to (Later l at e a) ≡ suc since

  went : (l : Ledger C) (at : ℕ) (e : Act C) (a : Answer) (g : ℕ) (f : Numbered Getting → Numbered Getting) → IsLegal l
      → gets_stand is_trying (get_of l g) ≡ true → gets_stand is_unnotified (get_of l g) ≡ false
      → IsFirst l g → served_up_to (Later l at e a) ≡ past (numbered_get l g) (served_up_to l) → gets (Later l at e a) ≡ update (start l).first_get g f (gets l)
      → ((z : Numbered Getting) → gets_stand is_waiting (f z).standing ≡ false) → (served_up_to (Later l at e a) ≡ served_up_to l) ⊎ GoesOut l at e a
  went l at e a g f legal try not_waiting first up_to changed off =
      let st = trier l g try not_waiting in
      let m = getting l g st.0 st.1 in
      pick m.0 m.1 (gets_stand is_notified m.0.standing) refl (up_to ∙ ap (λ (o : Option (Numbered Getting)). past o (served_up_to l)) m.1)
    where
      pick : (x : Numbered Getting) → numbered_get l g ≡ Some x → (b : Bool) → gets_stand is_notified x.standing ≡ b → served_up_to (Later l at e a) ≡ past (Some x) (served_up_to l)
          → (served_up_to (Later l at e a) ≡ served_up_to l) ⊎ GoesOut l at e a
      pick x there false was is = inl (is ∙ ap (λ (b : Bool). cond b (suc x.position) (served_up_to l)) was)
      pick x there true was is = inr (record {
        who = g;
        since = x.position;
        waited = (x, there, refl, inl was);
        earlier = (all_apart l legal).earlier g x.position (x, there, refl, inl was);
        first = first;
        gone = λ q w.
            let at_g : at_number (start l).first_get (update (start l).first_get g f (gets l)) g ≡ Some w.0 =
            sym (ap (λ (gs : List (Numbered Getting)). at_number (start l).first_get gs g) changed) ∙ w.1 in
            (changed_waited (start l).first_get g g f (gets l) w.0 off at_g (is_waiting_then w.0.standing w.3)).0 refl;
        up_to = is ∙ ap (λ (b : Bool). cond b (suc x.position) (served_up_to l)) was;
      })

  row_goes_out : (l : Ledger C) (at : ℕ) (e : Act C) (a : Answer) → IsLegal l → fits l e ≡ true → Row l at e a → TriesInTurn l at e a → (served_up_to (Later l at e a) ≡ served_up_to l) ⊎ GoesOut l at e a
  row_goes_out l at _ _ legal f (serves {g} {k} {grant} not_waiting off first want) turn = went l at (Try g) (Served k grant) g after_end legal f not_waiting turn.0 refl refl (λ z. refl)
  row_goes_out l at _ _ legal f (takes_out {g} {k} {grant} not_waiting on first want) turn =
      went l at (Try g) (Taken k grant) g (get_at_place (Holding k)) legal f not_waiting turn.0 refl refl (put_off (Holding k) refl)
  row_goes_out l at _ _ legal f _ turn = inl refl

  -- all that wait do so since then, and that is no later than the next event
  abbrev BehindAll : Ledger C → Type 0
  BehindAll l = AllWaitBehind l × (served_up_to l ≤ position l)

  row_behind : (l : Ledger C) (at : ℕ) (e : Act C) (a : Answer) → IsLegal l → fits l e ≡ true → Row l at e a → TriesInTurn l at e a → BehindAll l → BehindAll (Later l at e a)
  row_behind l at e a legal f row turn before = go (row_goes_out l at e a legal f row turn)
    where
      go : ((served_up_to (Later l at e a) ≡ served_up_to l) ⊎ GoesOut l at e a) → BehindAll (Later l at e a)
      go (inl same) = (
        λ g q w. elim (row_since l at e a g q f row w) [ inl v ↦ omega (arith, same, before.0 g q v) | inr now ↦ omega (arith, same, now.0, before.1) ],
        omega (arith, same, before.1),
      )
      go (inr t) = (
        λ g q w. elim (row_since l at e a g q f row w) [
          | inl v ↦
              let other : g ≢ t.who = λ is. t.gone q (subst (λ (h : ℕ). WaitsSince (Later l at e a) h q) is w) in
              let r = t.first g q v other in
              omega (arith, t.up_to, r.2, one_since l t.who t.since r.0 t.waited r.1)
          | inr now ↦ omega (arith, t.up_to, now.0, t.earlier)
        ],
        omega (arith, t.up_to, t.earlier),
      )

  all_behind : (l : Ledger C) → IsLegal l → IfHanded BehindAll l
  all_behind = each_legal (IfHanded BehindAll) (λ s lawful h. (λ g p w. omega arith, omega arith))
      (λ l at e before h. let b = before h in (λ g p w. b.0 g p (w.0, w.1, w.2, w.3), omega (arith, b.1)))
      (λ l at e a legal f row before h.
      let t = fitted l at e a row h in
      row_behind l at e a legal f row (row_in_turn l at e a legal f row (all_handed l legal t.0) t.1) (before t.0))

  provided_open : (l : Ledger C) → 0 < handles l → Provides l
      → min (waiters l - (approved l + idle_count l + missed l)) ((start l).config.max_size - (conns l + approved l + missed l + unasked l)) ≡ 0
  provided_open l open_now p = omega arith

  -- a notified get is counted
  notified_counted : (l : Ledger C) (g : ℕ) → gets_stand is_notified (get_of l g) ≡ true → 0 < notified l
  notified_counted l g on = grind (arith, nat_tests, found is_notified l g on, some_tally)

  -- a try is due where a connection is idle and some get is notified
  due_one : (l : Ledger C) → IsLegal l → min 1 (min (notified l) (idle_count l)) ≡ one (is_some (due_try l))
  due_one l legal = go (due_try l) refl
    where
      go : (o : Option ℕ) → due_try l ≡ o → min 1 (min (notified l) (idle_count l)) ≡ one (is_some (due_try l))
      go None is = omega (arith, none_due l legal is, ap (λ (o : Option ℕ). one (is_some o)) is)
      go (Some g) is =
          let d = due_is l g is in
          omega (arith, d.0, notified_counted l g (oldest_first l g legal d.1).0, ap (λ (o : Option ℕ). one (is_some o)) is)

  -- In a history with hand-off waiters are served in order.
  hands_in_order : (l : Ledger C) → IsLegal l → IfHanded KeepsOrder l
  hands_in_order l legal h = grind (arith, nat_tests, all_handed l legal h, due_one l legal, one_few, either_none, all_serve l legal, provided_open, always_in_turn l legal h, all_behind l legal h)

  -- ---- where each get that is notified tries at once

  -- the get that a result names is notified, in any legal ledger
  row_told : (l : Ledger C) (at : ℕ) (e : Act C) (a : Answer) (g : ℕ) → fits l e ≡ true → Row l at e a → notified_by a ≡ Some g → gets_stand is_notified (get_of (Later l at e a) g) ≡ true
  row_told l at _ _ g f (check_fails {g = q} {k} {n = n} holds_it want is) told =
      let t = (holder_turns l q k holds_it).0 in
      told_is (start l).first_get (position l) n (left_gets t) g (left_oldest t n is) told
  row_told l at _ _ g f (gives_up {g = q} {n = n} is) told =
      let st = alive_get (get_of l q) (and_right (is_some (get_of l q)) _ f).0 in
      let m = getting l q st.0 st.1 in
      pick (is_notified st.0.place) (handed (start l).first_get (position l) q n (gets l) m.0 st.0 m.1 m.2 (handed_to l q n st.0 st.1 is))
    where
      pick : (b : Bool) → n ≡ cond b (slice_get (in_order unnotified_at (start l).first_get (update (start l).first_get q after_end (gets l)) (position l)) 0) None
          → gets_stand is_notified (standing_at (start l).first_get (with_notice (start l).first_get n (update (start l).first_get q after_end (gets l))) g) ≡ true
      pick b own = grind (arith, nat_tests, told_is)
  row_told l at _ _ g f (gives_up_kept {g = q} {k} {n = n} holds_it keep is) told =
      let t = (holder_ends l q k holds_it).0 in
      told_is (start l).first_get (position l) n (left_gets t) g (left_oldest t n is) told
  row_told l at _ _ g f (gives_up_closed {g = q} {k} {n = n} holds_it shut want is) told =
      let t = (holder_ends l q k holds_it).0 in
      told_is (start l).first_get (position l) n (left_gets t) g (left_oldest t n is) told
  row_told l at _ _ g f (keeps {n = n} keep is) told = told_is (start l).first_get (position l) n (gets l) g is told
  row_told l at _ _ g f (returns_closed {n = n} shut want is) told = told_is (start l).first_get (position l) n (gets l) g is told
  row_told l at _ _ g f (detaches {n = n} want is) told = told_is (start l).first_get (position l) n (gets l) g is told
  row_told l at _ _ g f (evicts {n = n} want is) told = told_is (start l).first_get (position l) n (gets l) g is told
  row_told l at _ _ g f (opens {n = n} in_time is) told = told_is (start l).first_get (position l) n (gets l) g is told
  row_told l at _ _ g f (adds {n = n} room few is who) told = told_is (start l).first_get (position l) n (gets l) g who told
  row_told l at _ _ g f _ told = cc

  -- so it may try
  pub told_tries : (l : Ledger C) (at : ℕ) (e : Act C) (a : Answer) (g : ℕ) → fits l e ≡ true → Row l at e a → notified_by a ≡ Some g → fits (Later l at e a) (Try g) ≡ true
  told_tries l at e a g f row told = notified_tries (get_of (Later l at e a) g) (row_told l at e a g f row told)

  all_told : (l : Ledger C) → IsLegal l → (g : ℕ) → just_notified l ≡ Some g → gets_stand is_notified (get_of l g) ≡ true
  all_told = each_legal (λ l. (g : ℕ) → just_notified l ≡ Some g → gets_stand is_notified (get_of l g) ≡ true) (λ s lawful g told. cc) (λ l at e before. before)
      (λ l at e a legal f row before g told. row_told l at e a g f row (sym (row_shows l at e a row).0 ∙ told))

  -- only the get that the last result named is notified, and each close but that one was asked for
  record IsAtOnce (l : Ledger C) : Type 0 where
    pub over : HandsOver l
    pub few : notified l ≡ one (is_some (just_notified l))
    pub asked : unasked l ≤ one (is_some (just_notified l)) - idle_count l
    pub none_missed : missed l ≡ lost l

  -- the notified get tries, so a try that is due is its own
  told_due : (l : Ledger C) (e : Act C) → IsLegal l → IsAtOnce l → IsOf (just_notified l) e → IsOf (due_try l) e × (one (is_some (just_notified l)) ≤ notified_in l e)
  told_due l e legal i h = go (just_notified l) refl h
    where
      go : (o : Option ℕ) → just_notified l ≡ o → IsOf o e → IsOf (due_try l) e × (one (is_some (just_notified l)) ≤ notified_in l e)
      go None is own = (due (due_try l) refl, omega (arith, ap (λ (o : Option ℕ). one (is_some o)) is))
        where
          due : (o : Option ℕ) → due_try l ≡ o → IsOf o e
          due None found = tt
          due (Some g) found = absurd (omega (arith, notified_counted l g (oldest_first l g legal (due_is l g found).1).0, i.few, ap (λ (o : Option ℕ). one (is_some o)) is))
      go (Some j) is own =
          (due (due_try l) refl, omega (arith, ap (notified_in l) own ∙ ap one on, one_few (is_some (just_notified l))))
        where
          on : gets_stand is_notified (get_of l j) ≡ true
          on = all_told l legal j is

          due : (o : Option ℕ) → due_try l ≡ o → IsOf o e
          due None is_g = tt
          due (Some g) due_is_g =
              let m = found is_notified l g (oldest_first l g legal (due_is l g due_is_g).1).0 in
              let n = found is_notified l j on in
              own ∙ ap Try (none_else (gets_stand is_notified) (gets l) (start l).first_get g j m.0 n.0 refl m.1 m.2 n.1 n.2 (omega (arith, i.few, one_few (is_some (just_notified l)))))

  -- an ask that finds nobody notified misses what was lost
  none_missed_then : (l : Ledger C) (at : ℕ) (e : Act C) (a : Answer) → Row l at e a → missed l ≡ lost l → notified l ≤ notified_in l e → missed (Later l at e a) ≡ lost (Later l at e a)
  none_missed_then l at e a z same few = grind (arith, nat_tests)

  row_at_once : (l : Ledger C) (at : ℕ) (e : Act C) (a : Answer) → IsLegal l → fits l e ≡ true → Row l at e a → IsOf (just_notified l) e → IsAtOnce l → IsAtOnce (Later l at e a)
  row_at_once l at e a legal f row own i =
      let s = row_sums l at e a legal f row in
      let d = told_due l e legal i own in
      let shows = ap (λ (o : Option ℕ). one (is_some o)) (row_shows l at e a row).0 in
      record {
        over = both l at e a row i.over d.0;
        few = omega (arith, s.told_few, i.few, d.1, shows, told_now (notified_by a) refl);
        asked = omega (arith, s.asks (met l e legal d.0) (omega (arith, i.few, d.1)) (omega (arith, i.asked, d.1)), shows);
        none_missed = none_missed_then l at e a row i.none_missed (omega (arith, i.few, d.1));
      }
    where
      both : (l : Ledger C) (at : ℕ) (e : Act C) (a : Answer) → Row l at e a → HandsOver l → IsOf (due_try l) e → HandsOver (Later l at e a)
      both l at e a z over due = grind (arith, nat_tests)

      told_now : (o : Option ℕ) → notified_by a ≡ o → one (is_some (notified_by a)) ≤ notified (Later l at e a)
      told_now None is = omega (arith, ap (λ (o : Option ℕ). one (is_some o)) is)
      told_now (Some g) is = omega (arith, notified_counted (Later l at e a) g (row_told l at e a g f row is), one_few (is_some (notified_by a)))

  fitted_told : (l : Ledger C) (at : ℕ) (e : Act C) (a : Answer) → Row l at e a → TriesWhenNotified (Later l at e a) → TriesWhenNotified l × IsOf (just_notified l) e
  fitted_told l at e a z h = grind (arith, nat_tests)

  all_at_once : (l : Ledger C) → IsLegal l → TriesWhenNotified l → IsAtOnce l
  all_at_once = each_legal (λ l. TriesWhenNotified l → IsAtOnce l)
      (λ s lawful h. record { over = tt; few = refl; asked = omega arith; none_missed = refl })
      (λ l at e before h. let i = before h in record { over = i.over; few = i.few; asked = i.asked; none_missed = i.none_missed })
      (λ l at e a legal f row before h. let t = fitted_told l at e a row h in row_at_once l at e a legal f row t.1 (before t.0))

  -- waiters are served in order, if the history has hand-off
  pub keeps_order : (l : Ledger C) → IsLegal l → IsOrderly l
  keeps_order l legal = grind (arith, nat_tests, hands_in_order l legal, all_at_once l legal, all_told l legal)

  -- ---- an event that notifies a get, and at once the try of that get

  goes_with : (l : Ledger C) (at g : ℕ) (o : Option ℕ) (b : Answer) → idle_count l ≤ one (is_some o) → ((k : ℕ) → o ≡ Some k → stands is_idle (record_of l k) ≡ true)
      → gets_stand is_notified (get_of l g) ≡ true → Row l at (Try g) b → GoesWith o b × (notified_by b ≡ None)
  goes_with l at g o _ few on told (serves {k = j} {grant = grant} not_waiting off first want) = grind (arith, nat_tests, that_one l j o first few on)
  goes_with l at g o _ few on told (takes_out {k = j} {grant = grant} not_waiting check first want) = grind (arith, nat_tests, that_one l j o first few on)
  goes_with l at g o _ few on told (waits_on {grant = grant} now nothing) = absurd (let clash : false ≡ true = sym (untold (get_of l g) now) ∙ told in cc)
  goes_with l at g o _ few on told (waits {grant = grant} not_waiting none granted) = (go o on, refl)
    where
      go : (o : Option ℕ) → ((k : ℕ) → o ≡ Some k → stands is_idle (record_of l k) ≡ true) → GoesWith o (answers.Waiting grant)
      go None on = tt
      go (Some k) on = grind (arith, nat_tests, idle_found l k, idle_none l none, some_tally)

  -- an event goes on with a prompt history, and says itself who is to try
  told_fitted : (l : Ledger C) (at : ℕ) (e : Act C) (a : Answer) → Row l at e a → TriesWhenNotified l → IsOf (just_notified l) e → TriesWhenNotified (Later l at e a)
  told_fitted l at e a z h o = grind (arith, nat_tests)

  prompt_row : (l : Ledger C) (at : ℕ) (e : Act C) (a : Answer) → Row l at e a → IsPrompt l → TriesWhenNotified (Later l at e a) × (just_notified (Later l at e a) ≡ notified_by a)
  prompt_row l at e a row p = (told_fitted l at e a row p.0 (subst (λ (o : Option ℕ). IsOf o e) (sym p.1) tt), (row_shows l at e a row).0)

  -- where it notified nobody, the history is prompt still
  pub prompt_then : (l : Ledger C) (at : ℕ) (e : Act C) (a : Answer) → Allowed l at e a → notified_by a ≡ None → IsPrompt l → IsPrompt (Later l at e a)
  prompt_then l at e a allowed none p = grind (arith, nat_tests, prompt_row l)

  tells_nobody : (l : Ledger C) (at g : ℕ) (b : Answer) → Row l at (Try g) b → notified_by b ≡ None
  tells_nobody l at g b row = grind (arith, nat_tests)

  -- and where it notified a get, it is with the try of that get
  pub prompt_tried : (l : Ledger C) (at then g : ℕ) (e : Act C) (a b : Answer) → Row l at e a → notified_by a ≡ Some g → Row (Later l at e a) then (Try g) b
      → IsPrompt l → IsPrompt (Later (Later l at e a) then (Try g) b)
  prompt_tried l at then g e a b row told tries p = grind (arith, nat_tests, prompt_row l, told_fitted, row_shows, tells_nobody)

  -- Where nobody was notified before, a get that an event notifies, and that tries at once, goes
  -- out with the connection that the event brought, or waits anew where it brought none; and nobody
  -- is notified then.
  pub handed_over : (l : Ledger C) (at then g : ℕ) (e : Act C) (a b : Answer) → IsLegal (Later l at e a) → fits l e ≡ true → Row l at e a → notified_by a ≡ Some g
      → Row (Later l at e a) then (Try g) b → notified l ≡ 0 → GoesWith (brought_by a) b × (notified (Later (Later l at e a) then (Try g) b) ≡ 0)
  handed_over l at then g e a b legal f row told tries none =
      let s = row_sums l at e a legal.0 f row in
      let served = (all_serve l legal.0).served in
      let on = row_told l at e a g f row told in
      let m = found is_notified (Later l at e a) g on in
      let some = counted (Later l at e a) g m.0.position (m.0, m.1, refl, inl m.2) in
      let few = s.settles (omega (arith, served, none)) (omega (arith, served, none)) in
      let t = goes_with (Later l at e a) then g (brought_by a) b (omega (arith, few, some)) (λ k brought. row_brought l at e a k legal.0 f row brought) on tries in (
        t.0,
        omega (
          arith,
          none,
          s.told_few,
          ap (λ (o : Option ℕ). one (is_some o)) told,
          (row_sums (Later l at e a) then (Try g) b legal (told_tries l at e a g f row told) tries).told_few,
          ap one on,
          ap (λ (o : Option ℕ). one (is_some o)) t.1,
        ),
      )
