-- Who holds what: what a get holds is out in its hands and its last fitting try took it, and what
-- is checked out is with a guard.
use Rattle.bb8_ledger.proofs.Words.{arith, nat_tests, ◌≡◌, ℕ, max, Bool, true, false, cond, not, eqb, ◌&&◌, ◌||◌, Option, Some, None, is_some, List, option_map, refl, sym, ap, ◌∙◌, Grant, Idle, Held, Guarded, Standing, Holder, Guard, Get, Active, Act, Try, PutBack, Detach, Evict, Leave, Answer, Served, Taken, Kept, Closed, Left, Numbered, update, after_end, Ledger, Later, start, position, latest, records, gets, record_of, get_of, at_place, entry, at_entry, with_approvals, get_at_place, at_wait, with_notice, oldest_waiter, holds, stands, gets_stand, is_held_by, is_trying, is_notified, Row, begins, waits_on, serves, takes_out, waits, checks, check_fails, gives_up, gives_up_kept, gives_up_closed, keeps, returns_closed, detaches, evicts, fills, asks_for, claims, opens, opens_late, fails, adds, reaps, retires, leaves, shuts, IsLegal, fits, agree, and_right, HasTaken, last_try, ServesChecked, is_lent, ServesUnlent, IfSome, get_in, retiring, reaped_at, retired_at}
use Rattle.bb8_types.proofs.Numbered as numbered
use Rattle.bb8_ledger.proofs.Waiters.{getting_is}
use Rattle.bb8_ledger.proofs.Effects.{each_legal, place_of, Turns, to_place, returns_turn, closes_turn, evicts_turn, opens_turn, ends_turn, held_turns, idle_turns, unclaimed_turns, holder_in, holder_at, holder, turned_holder, turned_from, kept_holder, appended_same, granted_holder, ended_holder, reaped_idle, left_holder}
use Rattle.bb8_ledger.proofs.GetEffects.{held_at, dropped_holds, taken_holds, told_holds, told_dropped, begun_holds, put_nothing, waits_nothing, trying_quiet, oldest_quiet}

-- whether it is this number
abbrev is_it : ℕ → Option ℕ → Bool
is_it k None = false
is_it k (Some j) = eqb k j

it_is : (k : ℕ) (o : Option ℕ) → is_it k o ≡ true → o ≡ Some k
it_is k o e = grind (arith, nat_tests)

if_it : (P : ℕ → Type 0) (o : Option ℕ) → IfSome o P → (k : ℕ) → is_it k o ≡ true → P k
if_it P o h k e = grind (arith, nat_tests)

-- whether the get g has it
abbrev has_get : ℕ → Option Holder → Bool
has_get g (Some (Get h)) = eqb g h
has_get g _ = false

-- whether a guard has it
abbrev has_guard : Option Holder → Bool
has_guard (Some Guard) = true
has_guard _ = false

-- ---- what an event hands off, by its result

-- the connection that an answer names
abbrev named : Answer → Option ℕ
named (Served k grant) = Some k
named (Taken k grant) = Some k
named (Kept k n) = Some k
named (Closed k grant n) = Some k
named _ = None

-- what the get of an event holds then
abbrev taken_in : Answer → Option ℕ
taken_in (Taken k grant) = Some k
taken_in _ = None

-- one more is checked out, or one less, or the same
one_more : (b : Bool) (y : Option Holder) (x : Bool) → has_guard y ≡ x → has_guard (cond b (Some Guard) y) ≡ (b || x)
one_more b y x e = grind (arith, nat_tests)

one_less : (b : Bool) (y : Option Holder) (x : Bool) → has_guard y ≡ x → has_guard (cond b None y) ≡ (not b && x)
one_less b y x e = grind (arith, nat_tests)

as_many : (b : Bool) (to from y : Option Holder) → (b ≡ true → y ≡ from) → has_guard from ≡ has_guard to → has_guard (cond b to y) ≡ has_guard y
as_many b to from y is same = grind (arith, nat_tests)

-- the event's get tried
tried : (b : Bool) (a : Answer) (o : Option ℕ) (last : Option Answer) (k : ℕ) → (o ≡ Some k → (grant : Grant) × (last ≡ Some (Taken k grant)))
    → cond b (taken_in a) o ≡ Some k → (grant : Grant) × (cond b (Some a) last ≡ Some (Taken k grant))
tried true (Taken j grant) o last k h e = let same : j ≡ k = cc in (grant, ap (λ (i : ℕ). Some (Taken i grant)) same)
tried true _ o last k h e = cc
tried false a o last k h e = h e

-- or it holds nothing
not_it : (b : Bool) (o : Option ℕ) (k : ℕ) → cond b None o ≡ Some k → o ≡ Some k
not_it b o k e = grind (arith, nat_tests)

module _ {C : Type 0} where
  -- what the get of an event held
  abbrev held_before : Act C → Answer → Option ℕ
  held_before (Try g) a = None
  held_before (PutBack k c broken) a = None
  held_before (Detach k) a = None
  held_before (Evict k) a = None
  held_before e a = named a

  -- who had the connection
  abbrev comes_from : Act C → Option Holder
  comes_from (Try g) = None
  comes_from (PutBack k c broken) = Some Guard
  comes_from (Detach k) = Some Guard
  comes_from e = option_map Get (get_in e)

  -- who has it then
  abbrev goes_to : Act C → Answer → Option Holder
  goes_to e (Served k grant) = Some Guard
  goes_to e (Taken k grant) = option_map Get (get_in e)
  goes_to e _ = None

  -- who has a connection
  abbrev holder_of : Ledger C → ℕ → Option Holder
  holder_of l k = holder_at (start l).first (records l) k

  -- The get of an event then holds what the answer took, the connection that the answer names goes
  -- from one holder to another, and nothing else is handed off.
  record Hands (l : Ledger C) (at : ℕ) (e : Act C) (a : Answer) : Type 0 where
    pub gets : (g : ℕ) → holds (get_of (Later l at e a) g) ≡ cond (is_it g (get_in e)) (taken_in a) (holds (get_of l g))
    pub had : IfSome (get_in e) (λ g. holds (get_of l g) ≡ held_before e a)
    pub conns : (k : ℕ) → holder_of (Later l at e a) k ≡ cond (is_it k (named a)) (goes_to e a) (holder_of l k)
    pub from : IfSome (named a) (λ k. holder_of l k ≡ comes_from e)

  -- A get holds a connection just where that connection is out in its hands.
  abbrev AllHold : Ledger C → Type 0
  AllHold l = (g k : ℕ) → is_it k (holds (get_of l g)) ≡ has_get g (holder_of l k)

  held_by : (g : ℕ) (o : Option (Standing C)) → stands (is_held_by g) o ≡ has_get g (holder_in (place_of o))
  held_by g o = grind (arith, nat_tests)

  -- the connection of a get that holds it is out in its hands
  in_hand : (l : Ledger C) (g k : ℕ) → AllHold l → holds (get_of l g) ≡ Some k → stands (is_held_by g) (record_of l k) ≡ true
  in_hand l g k h holds_it = held_by g (record_of l k) ∙ sym (h g k) ∙ ap (is_it k) holds_it ∙ numbered.eqb_self k

  -- a get that gives up and hands nothing in holds nothing
  free_quiet : (l : Ledger C) (g : ℕ) → (is_some (get_of l g) && agree false (is_some (holds (get_of l g)))) ≡ true → holds (get_of l g) ≡ None
  free_quiet l g f = grind (arith, nat_tests, and_right (is_some (get_of l g)))

  -- to whom it hands its notification on holds nothing
  handed_quiet : (l : Ledger C) (n : Option ℕ) (g : ℕ) → n ≡ cond (gets_stand is_notified (get_of l g)) (oldest_waiter l) None → (m : ℕ) → n ≡ Some m → holds (get_of l m) ≡ None
  handed_quiet l n g is m e = grind (arith, nat_tests, oldest_quiet l (oldest_waiter l))

  -- a get ends, and another is notified; the oldest waiter is notified
  ended : (l : Ledger C) (q : ℕ) (n : Option ℕ) → ((m : ℕ) → n ≡ Some m → holds (get_of l m) ≡ None) → (g : ℕ)
      → held_at (start l).first_get (with_notice (start l).first_get n (update (start l).first_get q after_end (gets l))) g ≡ cond (eqb g q) None (holds (get_of l g))
  ended l q n quiet g = told_dropped (start l).first_get q after_end n (gets l) g (λ x. refl) quiet

  told : (l : Ledger C) (n : Option ℕ) → n ≡ oldest_waiter l → (g : ℕ) → held_at (start l).first_get (with_notice (start l).first_get n (gets l)) g ≡ holds (get_of l g)
  told l n is g = told_holds (start l).first_get n (gets l) g (oldest_quiet l n is)

  -- a get waits
  waiting : (l : Ledger C) (at q g : ℕ) → held_at (start l).first_get (update (start l).first_get q (at_wait (max (latest l) at) (position l)) (gets l)) g ≡ cond (eqb g q) None (holds (get_of l g))
  waiting l at q g = dropped_holds (start l).first_get q (at_wait (max (latest l) at) (position l)) (gets l) g (waits_nothing (max (latest l) at) (position l))

  -- approvals are made
  granted : (l : Ledger C) (claimed : Bool) (n : ℕ) (rs : List (Numbered (Standing C))) (k : ℕ) → holder_at (start l).first (with_approvals claimed n rs) k ≡ holder_at (start l).first rs k
  granted l claimed n rs k = granted_holder (start l).first k claimed n rs

  -- a handle leaves
  left : (l : Ledger C) (at n k : ℕ) → holder_of (Later l at Leave (Left n)) k ≡ holder_of l k
  left l at n k = grind (arith, nat_tests, left_holder)

  row_hands : (l : Ledger C) (at : ℕ) (e : Act C) (a : Answer) → AllHold l → fits l e ≡ true → Row l at e a → Hands l at e a
  row_hands l at _ _ h f (begins is few) = record { gets = begun_holds (start l).first_get (gets l); had = tt; conns = λ k. refl; from = tt }
  row_hands l at _ _ h f (waits_on {g = q} {grant} on nothing) =
      record { gets = waiting l at q; had = trying_quiet (get_of l q) f; conns = granted l false grant.count (records l); from = tt }
  row_hands l at _ _ h f (serves {g = q} {k = j} {grant} anew off first want) =
      let t = (idle_turns l j Guarded first).1 in
      record { gets = ended l q None (λ m e. cc); had = trying_quiet (get_of l q) f; conns = λ k. granted l false grant.count _ k ∙ turned_holder k t; from = turned_from t }
  row_hands l at _ _ h f (takes_out {g = q} {k = j} {grant} anew on first want) =
      let t = (idle_turns l j (Held q) first).1 in
      let s = getting_is is_trying (get_of l q) f in
      record {
        gets = λ g. taken_holds (start l).first_get q j (gets l) g s.0 s.1;
        had = trying_quiet (get_of l q) f;
        conns = λ k. granted l false grant.count _ k ∙ turned_holder k t;
        from = turned_from t;
      }
  row_hands l at _ _ h f (waits {g = q} {grant} anew none due) =
      record { gets = waiting l at q; had = trying_quiet (get_of l q) f; conns = granted l false grant.count (records l); from = tt }
  row_hands l at _ _ h f (checks {g = q} {k = j} holds_it nothing) =
      let t = held_turns l q j (Some Guarded) (at_place Guarded) (in_hand l q j h holds_it) (to_place Guarded) in
      record { gets = ended l q None (λ m e. cc); had = holds_it; conns = λ k. turned_holder k t; from = turned_from t }
  row_hands l at _ _ h f (check_fails {g = q} {k = j} {grant} {n} holds_it want is) =
      let t = held_turns l q j None after_end (in_hand l q j h holds_it) (λ s r e. refl) in
      record {
        gets = λ g. told_dropped (start l).first_get q (get_at_place Active) n (gets l) g (put_nothing Active refl) (oldest_quiet l n is);
        had = holds_it;
        conns = λ k. granted l false grant.count _ k ∙ turned_holder k t;
        from = turned_from t;
      }
  row_hands l at _ _ h f (gives_up {g = q} {n} is) = record { gets = ended l q n (handed_quiet l n q is); had = free_quiet l q f; conns = λ k. refl; from = tt }
  row_hands l at _ _ h f (gives_up_kept {g = q} {k = j} {c} {n} holds_it keep is) =
      let t = held_turns l q j (Some (Idle c)) (at_entry c (max (latest l) at) (position l)) (in_hand l q j h holds_it) (λ s r e. refl) in
      record { gets = ended l q n (oldest_quiet l n is); had = holds_it; conns = λ k. turned_holder k t; from = turned_from t }
  row_hands l at _ _ h f (gives_up_closed {g = q} {k = j} {grant} {n} holds_it shut want is) =
      let t = held_turns l q j None after_end (in_hand l q j h holds_it) (λ s r e. refl) in
      record { gets = ended l q n (oldest_quiet l n is); had = holds_it; conns = λ k. granted l false grant.count _ k ∙ turned_holder k t; from = turned_from t }
  row_hands l at _ _ h f (keeps {k = j} {c} {n} keep is) =
      let t = returns_turn l at j c f in
      record { gets = told l n is; had = tt; conns = λ k. turned_holder k t; from = turned_from t }
  row_hands l at _ _ h f (returns_closed {k = j} {grant} {n} shut want is) =
      let t = closes_turn l j f in
      record { gets = told l n is; had = tt; conns = λ k. granted l false grant.count _ k ∙ turned_holder k t; from = turned_from t }
  row_hands l at _ _ h f (detaches {k = j} {grant} {n} want is) =
      let t = closes_turn l j f in
      record { gets = told l n is; had = tt; conns = λ k. granted l false grant.count _ k ∙ turned_holder k t; from = turned_from t }
  row_hands l at _ _ h f (evicts {k = j} {grant} {n} want is) =
      let t = (evicts_turn l j f).1 in
      record { gets = told l n is; had = tt; conns = λ k. granted l false grant.count _ k ∙ turned_holder k t; from = turned_from t }
  row_hands l at _ _ h f (fills {claimed} {grant} want) = record { gets = λ g. refl; had = tt; conns = granted l claimed grant.count (records l); from = tt }
  row_hands l at _ _ h f (asks_for {grant} asked) = record { gets = λ g. refl; had = tt; conns = granted l false grant.count (records l); from = tt }
  row_hands l at _ _ h f (claims {k = Some j} open_now first) = record { gets = λ g. refl; had = tt; conns = λ k. kept_holder k (unclaimed_turns l j first) refl refl; from = tt }
  row_hands l at _ _ h f (opens {k = j} {c} {n} in_time is) = record { gets = told l n is; had = tt; conns = λ k. kept_holder k (opens_turn l at j c f) refl refl; from = tt }
  row_hands l at _ _ h f (opens_late {k = j} late) = record { gets = λ g. refl; had = tt; conns = λ k. kept_holder k (ends_turn l j f) refl refl; from = tt }
  row_hands l at _ _ h f (fails {k = j}) = record { gets = λ g. refl; had = tt; conns = λ k. kept_holder k (ends_turn l j f) refl refl; from = tt }
  row_hands l at _ _ h f (adds {c} {n} room few is who) =
      record { gets = told l n who; had = tt; conns = λ k. appended_same holder (records l) (start l).first k (entry c (max (latest l) at) (max (latest l) at) (position l)) refl; from = tt }
  row_hands l at _ _ h f (reaps {grant} open_now closed_is by_idle_is by_life_is want) =
      record {
        gets = λ g. refl;
        had = tt;
        conns = λ k. granted l false grant.count _ k ∙ ended_holder (start l).first (reaped_at l at) (records l) k (reaped_idle (start l) (position l) (max (latest l) at) (records l));
        from = tt;
      }
  row_hands l at _ _ h f (retires {grant} open_now closed_is want) =
      record {
        gets = λ g. refl;
        had = tt;
        conns = λ k. granted l false grant.count _ k ∙ ended_holder (start l).first (retired_at l at) (records l) k (reaped_idle (retiring (start l)) (position l) (max (latest l) at) (records l));
        from = tt;
      }
  row_hands l at _ _ h f (leaves {n} is) = record { gets = λ g. refl; had = tt; conns = left l at n; from = tt }
  row_hands l at _ _ h f (shuts {n} is) = record { gets = λ g. refl; had = tt; conns = λ k. left_holder (start l).first k (records l); from = tt }
  row_hands l at _ _ h f _ = record { gets = λ g. refl; had = tt; conns = λ k. refl; from = tt }

  -- ---- what a get holds is out in its hands

  -- What a get held was named, or it holds it still; and only the event's get has the connection
  -- before or then.
  record IsMatched (e : Act C) (a : Answer) : Type 0 where
    pub other_conn : (k : ℕ) → is_it k (named a) ≡ false → is_it k (taken_in a) ≡ is_it k (held_before e a)
    pub other_get : (g : ℕ) → is_it g (get_in e) ≡ false → has_get g (comes_from e) ≡ has_get g (goes_to e a)
    pub same : (g k : ℕ) → is_it g (get_in e) ≡ true → is_it k (named a) ≡ true → is_it k (taken_in a) ≡ has_get g (goes_to e a)

  matched : {l : Ledger C} {at : ℕ} {e : Act C} {a : Answer} → Row l at e a → IsMatched e a
  matched v = grind (arith, nat_tests)

  row_hold : (l : Ledger C) (at : ℕ) (e : Act C) (a : Answer) → AllHold l → Hands l at e a → IsMatched e a → AllHold (Later l at e a)
  row_hold l at e a h x m g k = grind (arith, nat_tests, if_it)

  -- so it is in every legal ledger
  all_hold : (l : Ledger C) → IsLegal l → AllHold l
  all_hold = each_legal AllHold (λ s lawful g k. refl) (λ l at e h. h) (λ l at e a legal f row h. row_hold l at e a h (row_hands l at e a h f row) (matched row))

  hands : (l : Ledger C) (at : ℕ) (e : Act C) (a : Answer) → IsLegal l → fits l e ≡ true → Row l at e a → Hands l at e a
  hands l at e a legal = row_hands l at e a (all_hold l legal)

  -- what a get holds is out in its hands
  pub all_held : (l : Ledger C) → IsLegal l → (g k : ℕ) → holds (get_of l g) ≡ Some k → stands (is_held_by g) (record_of l k) ≡ true
  all_held l legal g k = in_hand l g k (all_hold l legal)

  -- and what is out in its hands it holds
  pub all_holding : (l : Ledger C) → IsLegal l → (g k : ℕ) → stands (is_held_by g) (record_of l k) ≡ true → holds (get_of l g) ≡ Some k
  all_holding l legal g k out = it_is k (holds (get_of l g)) (all_hold l legal g k ∙ sym (held_by g (record_of l k)) ∙ out)

  -- ---- what is checked out is with a guard

  abbrev IsLentRight : Ledger C → Type 0
  IsLentRight l = (k : ℕ) → has_guard (holder_of l k) ≡ is_lent l k

  row_lent : (l : Ledger C) (at : ℕ) (e : Act C) (a : Answer) → Row l at e a → Hands l at e a → IsLentRight l → IsLentRight (Later l at e a)
  row_lent l at e a row x h = grind (arith, nat_tests)

  lent_right : (l : Ledger C) → IsLegal l → IsLentRight l
  lent_right = each_legal IsLentRight (λ s lawful k. refl) (λ l at e h. h) (λ l at e a legal f row h. row_lent l at e a row (hands l at e a legal f row) h)

  -- no connection is served again before its guard gave it back
  pub row_unlent : (l : Ledger C) (at : ℕ) (e : Act C) (a : Answer) → IsLegal l → fits l e ≡ true → Row l at e a → ServesUnlent l at e a
  row_unlent l at e a legal f row = grind (arith, nat_tests, lent_right l legal, hands l at e a legal f row)

  -- ---- what a get holds its last fitting try took

  abbrev AllTaken : Ledger C → Type 0
  AllTaken l = (g k : ℕ) → holds (get_of l g) ≡ Some k → HasTaken l g k

  row_taken : (l : Ledger C) (at : ℕ) (e : Act C) (a : Answer) → Row l at e a → Hands l at e a → AllTaken l → AllTaken (Later l at e a)
  row_taken l at _ _ (waits_on {g = q} on nothing) x h = λ g k now. tried (eqb g q) _ _ (last_try l g) k (h g k) (sym (x.gets g) ∙ now)
  row_taken l at _ _ (serves {g = q} anew off first want) x h = λ g k now. tried (eqb g q) _ _ (last_try l g) k (h g k) (sym (x.gets g) ∙ now)
  row_taken l at _ _ (takes_out {g = q} anew on first want) x h = λ g k now. tried (eqb g q) _ _ (last_try l g) k (h g k) (sym (x.gets g) ∙ now)
  row_taken l at _ _ (waits {g = q} anew none due) x h = λ g k now. tried (eqb g q) _ _ (last_try l g) k (h g k) (sym (x.gets g) ∙ now)
  row_taken l at e a row x h = λ g k now. h g k (not_it (is_it g (get_in e)) _ k (sym (x.gets g) ∙ now))

  all_taken : (l : Ledger C) → IsLegal l → AllTaken l
  all_taken = each_legal AllTaken (λ s lawful g k now. cc) (λ l at e h. h) (λ l at e a legal f row h. row_taken l at e a row (hands l at e a legal f row) h)

  -- with the check on, nothing is served unchecked
  pub row_checked : (l : Ledger C) (at : ℕ) (e : Act C) (a : Answer) → IsLegal l → Row l at e a → ServesChecked l at e a
  row_checked l at e a legal row = grind (arith, nat_tests, all_taken)

  -- ---- the record that a get holds

  -- a guard takes it over
  pub checks_turn : (l : Ledger C) (g k : ℕ) → IsLegal l → holds (get_of l g) ≡ Some k → Turns l k (Held g) (Some Guarded) (at_place Guarded)
  checks_turn l g k legal holds_it = held_turns l g k (Some Guarded) (at_place Guarded) (all_held l legal g k holds_it) (to_place Guarded)

  -- it ends
  pub drops_turn : (l : Ledger C) (g k : ℕ) → IsLegal l → holds (get_of l g) ≡ Some k → Turns l k (Held g) None after_end
  drops_turn l g k legal holds_it = held_turns l g k None after_end (all_held l legal g k holds_it) (λ s r e. refl)

  -- it becomes idle
  pub hands_in_turn : (l : Ledger C) (at g k : ℕ) (c : C) → IsLegal l → holds (get_of l g) ≡ Some k → Turns l k (Held g) (Some (Idle c)) (at_entry c (max (latest l) at) (position l))
  hands_in_turn l at g k c legal holds_it = held_turns l g k (Some (Idle c)) (at_entry c (max (latest l) at) (position l)) (all_held l legal g k holds_it) (λ s r e. refl)
