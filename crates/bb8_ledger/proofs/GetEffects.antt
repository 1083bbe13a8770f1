-- What one event does to the gets, where a get that was not in line ends or moves to a place where
-- it does not wait.
use Rattle.bb8_ledger.proofs.Words.{length-append, ◌≤◌, max, ◌≡◌, ℕ, suc, ◌+◌, ◌-◌, min, Bool, true, false, cond, eqb, List, [], ◌∷◌, ◌++◌, length, Option, Some, None, is_some, slice_get, option_and_then, refl, sym, ap, ◌∙◌, arith, GetPlace, Active, Holding, Getting, Numbered, at_number, update, in_order, one, standing_at, after_end, Ledger, start, position, latest, gets, alive, notified, unnotified, unnotified_at, oldest_waiter, get_of, tally_gets, alive_of, new_get, get_at_place, at_wait, with_notice, holds, held_in, gets_stand, is_notified, is_unnotified, is_trying, Before, and_right, nat_tests}
use Rattle.bb8_types.proofs.Numbered as numbered
use Rattle.bb8_ledger.proofs.Facts.{waited_before}
use Rattle.bb8_ledger.proofs.Waiters.{not_waiting, one_few, waits_on_same, begins_counted, waiters_few, IsGivenUp, given_up_counted, alive_counted, begins_alive, getting_is, is_waiting, changed_tally, notify_length, notify_alive, notify_counted, same_line, InLine, line_later, line_left, line_notified}
use Rattle.bb8_ledger.proofs.Effects.{updated_shows, appended_same}

-- a get that moves to a place where it does not wait
pub put_off : (p : GetPlace) → is_waiting p ≡ false → (x : Numbered Getting) → gets_stand is_waiting (get_at_place p x).standing ≡ false
put_off p off x = grind arith

-- So many of these gets are alive, wait unnotified, and wait notified, and so many there ever were.
pub record GetsAre (gs : List (Numbered Getting)) (living unnotified notified many : ℕ) : Type 0 where
  pub alive_are : alive_of gs ≡ living
  pub unnotified_are : tally_gets is_unnotified gs ≡ unnotified
  pub notified_are : tally_gets is_notified gs ≡ notified
  pub many_are : length gs ≡ many

-- the first of the unnotified is notified, if there is one
told_are : (first m : ℕ) (n : Option ℕ) (gs : List (Numbered Getting)) → Before unnotified_at m gs → n ≡ slice_get (in_order unnotified_at first gs m) 0
    → GetsAre (with_notice first n gs) (alive_of gs) (tally_gets is_unnotified gs - 1) (tally_gets is_notified gs + min 1 (tally_gets is_unnotified gs)) (length gs)
told_are first m n gs before is = grind (arith, notify_counted first m n gs before is, notify_alive first n gs, notify_length first n gs)

-- a get that is alive
pub alive_get : (o : Option Getting) → is_some o ≡ true → (st : Getting) × (o ≡ Some st)
alive_get o h = grind (arith, nat_tests)

-- the get that holds a connection
pub holding_is : (o : Option Getting) (k : ℕ) → holds o ≡ Some k → (s : Getting) × (o ≡ Some s) × (s.place ≡ Holding k)
holding_is o k h = grind (arith, nat_tests)

module _ {C : Type 0} where
  -- the get g is alive and not in line, and is changed to one that does not wait: b more are alive
  -- than with it ended
  pub record Leaves (l : Ledger C) (g b : ℕ) (f : Numbered Getting → Numbered Getting) : Type 0 where
    pub standing : Getting
    pub was : get_of l g ≡ Some standing
    pub off : is_unnotified standing.place ≡ false
    pub out : (x : Numbered Getting) → gets_stand is_waiting (f x).standing ≡ false
    pub lives : (x : Numbered Getting) → x.standing ≡ Some standing → one (is_some (f x).standing) ≡ b

  -- a get that ends
  pub ended_leaves : (l : Ledger C) (g : ℕ) (s : Getting) → get_of l g ≡ Some s → is_unnotified s.place ≡ false → Leaves l g 0 after_end
  ended_leaves l g s was off = record { standing = s; was = was; off = off; out = λ x. refl; lives = λ x e. refl }

  -- a get that moves
  pub moved_leaves : (l : Ledger C) (g : ℕ) (p : GetPlace) (s : Getting) → get_of l g ≡ Some s → is_unnotified s.place ≡ false → is_waiting p ≡ false → Leaves l g 1 (get_at_place p)
  moved_leaves l g p s was off still = grind (arith, put_off p still)

  -- a get that tries and was not in line
  pub trier : (l : Ledger C) (g : ℕ) → gets_stand is_trying (get_of l g) ≡ true → gets_stand is_unnotified (get_of l g) ≡ false
      → (st : Getting) × (get_of l g ≡ Some st) × (is_unnotified st.place ≡ false)
  trier l g f off = let st = getting_is is_trying (get_of l g) f in (st.0, st.1, ap (gets_stand is_unnotified) (sym st.1) ∙ off)

  pub trier_leaves : (l : Ledger C) (g : ℕ) → gets_stand is_trying (get_of l g) ≡ true → gets_stand is_unnotified (get_of l g) ≡ false → Leaves l g 0 after_end
  trier_leaves l g f off = let st = trier l g f off in ended_leaves l g st.0 st.1 st.2

  pub trier_holds : (l : Ledger C) (g k : ℕ) → gets_stand is_trying (get_of l g) ≡ true → gets_stand is_unnotified (get_of l g) ≡ false → Leaves l g 1 (get_at_place (Holding k))
  trier_holds l g k f off = let st = trier l g f off in moved_leaves l g (Holding k) st.0 st.1 st.2 refl

  -- a get that holds a connection, and does not wait
  pub holder_ends : (l : Ledger C) (g k : ℕ) → holds (get_of l g) ≡ Some k → (t : Leaves l g 0 after_end) × (is_notified t.standing.place ≡ false)
  unfolding ended_leaves holding_is
  holder_ends l g k h = let st = holding_is (get_of l g) k h in (ended_leaves l g st.0 st.1 (ap is_unnotified st.2), ap is_notified st.2)

  pub holder_turns : (l : Ledger C) (g k : ℕ) → holds (get_of l g) ≡ Some k → (t : Leaves l g 1 (get_at_place Active)) × (is_notified t.standing.place ≡ false)
  unfolding moved_leaves holding_is
  holder_turns l g k h = let st = holding_is (get_of l g) k h in (moved_leaves l g Active st.0 st.1 (ap is_unnotified st.2) refl, ap is_notified st.2)

  module _ {l : Ledger C} {g b : ℕ} {f : Numbered Getting → Numbered Getting} (t : Leaves l g b f) where
    -- the gets once it has changed
    abbrev pub left_gets : List (Numbered Getting)
    left_gets = update (start l).first_get g f (gets l)

    -- it, in its row
    left_at : (x : Numbered Getting) × (at_number (start l).first_get (gets l) g ≡ Some x) × (x.standing ≡ Some t.standing)
    left_at = numbered.standing_found (gets l) (start l).first_get g t.standing t.was

    pub left_alive : alive_of left_gets + 1 ≡ alive l + b
    left_alive = omega (arith, changed_tally is_some f (gets l) (start l).first_get g left_at.0 (Some t.standing) left_at.1 left_at.2, t.lives left_at.0 left_at.2)

    left_tally : (test : GetPlace → Bool) → gets_stand test (f left_at.0).standing ≡ false → tally_gets test left_gets + one (test t.standing.place) ≡ tally_gets test (gets l)
    left_tally test off = omega (arith, changed_tally (gets_stand test) f (gets l) (start l).first_get g left_at.0 (Some t.standing) left_at.1 left_at.2, ap one off)

    pub left_oldest : (n : Option ℕ) → n ≡ oldest_waiter l → n ≡ slice_get (in_order unnotified_at (start l).first_get left_gets (position l)) 0
    left_oldest n is = grind (arith, same_line, not_waiting)

    left_before : Before unnotified_at (position l) left_gets
    left_before = grind (arith, numbered.before-update, waited_before l, and_right)

    -- and the oldest waiter is notified
    pub left_told_alive : (n : Option ℕ) → alive_of (with_notice (start l).first_get n left_gets) + 1 ≡ alive l + b
    left_told_alive n = omega (arith, left_alive, notify_alive (start l).first_get n left_gets)

    -- how many are alive and wait then
    pub left_sums : (alive_of left_gets + 1 ≡ alive l + b) × (length left_gets ≡ length (gets l)) × (tally_gets is_unnotified left_gets ≡ unnotified l)
        × (tally_gets is_notified left_gets + one (is_notified t.standing.place) ≡ notified l) × (one (is_notified t.standing.place) ≤ 1)
    left_sums = grind (arith, nat_tests, left_alive, numbered.length-update, left_tally, not_waiting, one_few)

    -- and once the oldest waiter is notified
    pub left_told : (n : Option ℕ) → n ≡ oldest_waiter l
        → GetsAre (with_notice (start l).first_get n left_gets) (alive_of left_gets) (tally_gets is_unnotified left_gets - 1)
        (tally_gets is_notified left_gets + min 1 (tally_gets is_unnotified left_gets)) (length left_gets)
    left_told n is = told_are (start l).first_get (position l) n left_gets left_before (left_oldest n is)

    left_in_line : InLine (start l).first_get (position l) (gets l) → InLine (start l).first_get (position l) left_gets
    left_in_line i = line_left (start l).first_get (position l) g f (gets l) left_at.0 left_at.1 (t.out left_at.0) i

    -- the others are in the queue as before
    pub left_line : InLine (start l).first_get (position l) (gets l) → InLine (start l).first_get (suc (position l)) left_gets
    left_line i = line_later (start l).first_get (position l) left_gets (left_in_line i)

    pub left_told_line : (n : Option ℕ) → n ≡ oldest_waiter l → InLine (start l).first_get (position l) (gets l)
        → InLine (start l).first_get (suc (position l)) (with_notice (start l).first_get n left_gets)
    left_told_line n is i = line_later (start l).first_get (position l) (with_notice (start l).first_get n left_gets)
        (line_notified (start l).first_get (position l) n left_gets (left_oldest n is) (left_in_line i))

-- ---- how many gets there ever were, and how many are alive and wait

module _ {C : Type 0} where
  -- the get of a number that is alive, with its position
  pub getting : (l : Ledger C) (g : ℕ) (st : Getting) → get_of l g ≡ Some st → (x : Numbered Getting) × (at_number (start l).first_get (gets l) g ≡ Some x) × (x.standing ≡ Some st)
  getting l g st h = numbered.standing_found (gets l) (start l).first_get g st h

  -- who was in line waits on, and the gets are the same
  pub waits_on_gets : (l : Ledger C) (at g : ℕ) → gets_stand is_unnotified (get_of l g) ≡ true → update (start l).first_get g (at_wait (max (latest l) at) (position l)) (gets l) ≡ gets l
  waits_on_gets l at g on = grind (arith, getting_is is_unnotified (get_of l g) on, getting, waits_on_same)

  -- a get begins
  pub begun_sums : (l : Ledger C) → GetsAre (gets l ++ new_get ∷ []) (alive l + 1) (unnotified l + 0) (notified l + 0) (length (gets l) + 1)
  begun_sums l = grind (arith, nat_tests, numbered.tally-append, length-append)

  -- the gets once one of them has waited
  abbrev waited_gets : Ledger C → ℕ → ℕ → List (Numbered Getting)
  waited_gets l at g = update (start l).first_get g (at_wait (max (latest l) at) (position l)) (gets l)

  -- a get waits on
  pub waits_on_sums : (l : Ledger C) (at g : ℕ) → gets_stand is_unnotified (get_of l g) ≡ true → GetsAre (waited_gets l at g) (alive l) (unnotified l) (notified l) (length (gets l))
  waits_on_sums l at g on = rw (waits_on_gets l at g on) (record { alive_are = refl; unnotified_are = refl; notified_are = refl; many_are = refl })

  -- a get begins to wait
  pub waits_sums : (l : Ledger C) (at g : ℕ) → gets_stand is_trying (get_of l g) ≡ true → gets_stand is_unnotified (get_of l g) ≡ false
      → let gs : List (Numbered Getting) = waited_gets l at g in
      (alive_of gs ≡ alive l) × (length gs ≡ length (gets l)) × (tally_gets is_unnotified gs ≡ unnotified l + 1)
      × (tally_gets is_notified gs + one (gets_stand is_notified (get_of l g)) ≡ notified l)
      × (one (gets_stand is_notified (get_of l g)) ≤ 1) × (tally_gets is_unnotified gs + tally_gets is_notified gs ≤ alive l)
  waits_sums l at g f off =
      let now : ℕ = max (latest l) at in
      let st = trier l g f off in
      let m = getting l g st.0 st.1 in
      let standing : gets_stand is_unnotified m.0.standing ≡ false = ap (gets_stand is_unnotified) m.2 ∙ st.2 in
      omega (
        arith,
        begins_alive (start l).first_get now (position l) g (gets l),
        begins_counted is_unnotified (start l).first_get now (position l) g (gets l) m.0 st.0 m.1 m.2 standing,
        begins_counted is_notified (start l).first_get now (position l) g (gets l) m.0 st.0 m.1 m.2 standing,
        numbered.length-update (gets l) (start l).first_get g (at_wait now (position l)),
        ap one st.2,
        ap (λ (o : Option Getting). one (gets_stand is_notified o)) st.1,
        one_few (gets_stand is_notified (get_of l g)),
        waiters_few (waited_gets l at g),
      )

  -- the oldest waiter is notified
  pub told_sums : (l : Ledger C) (n : Option ℕ) → n ≡ oldest_waiter l
      → GetsAre (with_notice (start l).first_get n (gets l)) (alive l) (unnotified l - 1) (notified l + min 1 (unnotified l)) (length (gets l))
  told_sums l n is = told_are (start l).first_get (position l) n (gets l) (waited_before l) is

  -- which get is notified where a get gives up
  pub handed_to : (l : Ledger C) (g : ℕ) (n : Option ℕ) (st : Getting) → get_of l g ≡ Some st
      → n ≡ cond (gets_stand is_notified (get_of l g)) (oldest_waiter l) None
      → n ≡ cond (is_notified st.place) (oldest_waiter l) None
  handed_to l g n st h is = is ∙ ap (λ (o : Option Getting). cond (gets_stand is_notified o) (oldest_waiter l) None) h

  -- a get gives up
  pub given_up_sums : (l : Ledger C) (g : ℕ) (n : Option ℕ) → is_some (get_of l g) ≡ true → n ≡ cond (gets_stand is_notified (get_of l g)) (oldest_waiter l) None
      → let gs : List (Numbered Getting) = with_notice (start l).first_get n (update (start l).first_get g after_end (gets l)) in
      (alive_of gs + 1 ≡ alive l) × (length gs ≡ length (gets l)) × IsGivenUp (unnotified l) (notified l) (tally_gets is_unnotified gs) (tally_gets is_notified gs)
  given_up_sums l g n some is = grind (arith, alive_get (get_of l g) some, getting, alive_counted, notify_alive, notify_length, numbered.length-update, given_up_counted, handed_to, waited_before l)

-- ---- what the gets hold

-- what the get q holds, of these gets
abbrev pub held_at : ℕ → List (Numbered Getting) → ℕ → Option ℕ
held_at first gs q = holds (standing_at first gs q)

-- what is behind a number holds this
abbrev behind : Option (Numbered Getting) → Option ℕ
behind o = holds (option_and_then (λ (x : Numbered Getting). x.standing) o)

-- a place at which nothing is held
pub put_nothing : (p : GetPlace) → held_in p ≡ None → (x : Numbered Getting) → holds (get_at_place p x).standing ≡ None
put_nothing p none x = grind arith

-- a get at a place that holds nothing
stands_quiet : (test : GetPlace → Bool) → ((k : ℕ) → test (Holding k) ≡ false) → (o : Option Getting) → gets_stand test o ≡ true → holds o ≡ None
stands_quiet test off o e = grind (arith, nat_tests)

pub waits_nothing : (now p : ℕ) (x : Numbered Getting) → holds (at_wait now p x).standing ≡ None
waits_nothing now p x = grind arith

-- a get that tries holds nothing
pub trying_quiet : (o : Option Getting) → gets_stand is_trying o ≡ true → holds o ≡ None
trying_quiet = stands_quiet is_trying (λ k. refl)

-- nor does the oldest waiter
pub oldest_quiet : {C : Type 0} (l : Ledger C) (n : Option ℕ) → n ≡ oldest_waiter l → (g : ℕ) → n ≡ Some g → holds (get_of l g) ≡ None
oldest_quiet l n is g e = grind (arith, numbered.in_order_member, stands_quiet, and_right)

-- one get has changed, and holds nothing
pub dropped_holds : (first g : ℕ) (f : Numbered Getting → Numbered Getting) (gs : List (Numbered Getting)) (q : ℕ)
    → ((x : Numbered Getting) → holds (f x).standing ≡ None) → held_at first (update first g f gs) q ≡ cond (eqb q g) None (held_at first gs q)
dropped_holds first g f gs q nothing = grind (arith, nat_tests, updated_shows behind gs first g q f)

-- it takes the connection j
pub taken_holds : (first g j : ℕ) (gs : List (Numbered Getting)) (q : ℕ) (s : Getting) → standing_at first gs g ≡ Some s
    → held_at first (update first g (get_at_place (Holding j)) gs) q ≡ cond (eqb q g) (Some j) (held_at first gs q)
taken_holds first g j gs q s there = grind (arith, nat_tests, numbered.standing_found gs first g s there, updated_shows behind gs first g q (get_at_place (Holding j)) (Some j))

-- a get that holds nothing is notified, or none
pub told_holds : (first : ℕ) (n : Option ℕ) (gs : List (Numbered Getting)) (q : ℕ) → ((g : ℕ) → n ≡ Some g → held_at first gs g ≡ None)
    → held_at first (with_notice first n gs) q ≡ held_at first gs q
told_holds first n gs q quiet = grind (arith, nat_tests, dropped_holds, put_nothing, numbered.same_or_not)

-- and so it is once a get has changed that holds nothing then
pub told_dropped : (first g : ℕ) (f : Numbered Getting → Numbered Getting) (n : Option ℕ) (gs : List (Numbered Getting)) (q : ℕ)
    → ((x : Numbered Getting) → holds (f x).standing ≡ None) → ((m : ℕ) → n ≡ Some m → held_at first gs m ≡ None)
    → held_at first (with_notice first n (update first g f gs)) q ≡ cond (eqb q g) None (held_at first gs q)
told_dropped first g f n gs q nothing quiet = grind (arith, told_holds, dropped_holds, dropped_holds first g f gs q nothing)

-- a get begins
pub begun_holds : (first : ℕ) (gs : List (Numbered Getting)) (q : ℕ) → held_at first (gs ++ new_get ∷ []) q ≡ held_at first gs q
begun_holds first gs q = appended_same behind gs first q new_get refl
