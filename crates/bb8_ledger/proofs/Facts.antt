-- What holds of every ledger.
use Rattle.bb8_ledger.proofs.Words.{◌≡◌, ℕ, suc, ◌+◌, ◌≤◌, max, true, false, List, [], ◌∷◌, length, Option, None, refl, arith, option_map, ◌-◌, Place, Standing, GetPlace, Active, Holding, Getting, QueueStrategy, Act, Begin, Try, CheckedOk, CheckedErr, GiveUp, PutBack, Detach, Evict, Opened, Add, Answer, Begun, Served, Taken, Kept, Closed, GaveUp, Entered, Added, Unfit, Numbered, update, in_order, tally, after_end, Ledger, Opening, Later, Start, start, position, latest, records, with_ended, gets, gets_after, conns, approved, conns_of, idle_of, alive, peak, get_peak, idle_at, unnotified_at, at_place, new_get, get_at_place, at_wait, with_notice, idle, idle_count, unnotified, is_unnotified, gets_stand, stands, is_idle, is_out, get_with_place, first_of, Before, and_right, standing_is, Waiting, nat_tests}
use Rattle.bb8_ledger.specs.Ledger.{waiting}
use Rattle.bb8_types.proofs.Numbered as numbered
use Rattle.bb8_ledger.proofs.Waiters.{none_past}
use Rattle.bb8_ledger.proofs.Moments.{AreUpTo, up_to_latest}

-- a test that a get's place fails
off_get : (p : GetPlace) (o : Option Getting) → is_unnotified p ≡ false → gets_stand is_unnotified (option_map (get_with_place p) o) ≡ true → ⊥
off_get p o off h = grind (arith, nat_tests)

module _ (first m : ℕ) where
  get_put_before : (k : ℕ) (p : GetPlace) (gs : List (Numbered Getting)) → is_unnotified p ≡ false → Before unnotified_at m gs → Before unnotified_at m (update first k (get_at_place p) gs)
  get_put_before k p gs off b = grind (arith, numbered.before-update, off_get, and_right)

  notify_before : (n : Option ℕ) (gs : List (Numbered Getting)) → Before unnotified_at m gs → Before unnotified_at m (with_notice first n gs)
  notify_before n gs b = grind (arith, nat_tests, get_put_before)

waits_before : (first m now k : ℕ) (gs : List (Numbered Getting)) → Before unnotified_at (suc m) gs → Before unnotified_at (suc m) (update first k (at_wait now m) gs)
waits_before first m now k gs b = grind (arith, numbered.before-update_kept)

-- where nobody is first there is nobody
pub none_first : (strategy : QueueStrategy) (xs : List ℕ) → first_of strategy xs ≡ None → length xs ≡ 0
none_first strategy xs h = grind (arith, nat_tests, none_past xs 0, none_past xs (length xs - 1))

module _ {C : Type 0} where
  -- ---- nobody entered, or began to wait, after now

  pub put_before : (m first k : ℕ) (p : Place C) (rs : List (Numbered (Standing C))) → is_idle p ≡ false → Before idle_at m rs → Before idle_at m (update first k (at_place p) rs)
  put_before m first k p rs off b = grind (arith, numbered.before-update)

  pub ended_before : (m first k : ℕ) (rs : List (Numbered (Standing C))) → Before idle_at m rs → Before idle_at m (update first k after_end rs)
  ended_before m first k rs b = numbered.ended_before (stands is_idle) rs first k m refl b

  pub ended_all_before : (m first : ℕ) (ks : List ℕ) (rs : List (Numbered (Standing C))) → Before idle_at m rs → Before idle_at m (with_ended first ks rs)
  ended_all_before m first [] rs b = b
  ended_all_before m first (k ∷ ks) rs b = ended_all_before m first ks (update first k after_end rs) (ended_before m first k rs b)

  pub entered_before : (l : Ledger C) → Before idle_at (position l) (records l)
  entered_before l = go (records l) (up_to_latest l)
    where
      go : (rs : List (Numbered (Standing C))) → AreUpTo (latest l) (position l) rs → Before idle_at (position l) rs
      go [] u = tt
      go (r ∷ rs) u = grind (arith, nat_tests, and_right (stands is_idle r.standing), standing_is is_idle r.standing, numbered.tested r.position, go rs u.1)

  gets_before : (s : Start) (m now : ℕ) (gs : List (Numbered Getting)) (e : Act C) (a : Answer) → Before unnotified_at (suc m) gs → Before unnotified_at (suc m) (gets_after s m now gs e a)
  gets_before s m now gs e Unfit b = b
  gets_before s m now gs Begin (Begun g) b = numbered.before-append unnotified_at gs new_get (suc m) b (λ p h. cc)
  gets_before s m now gs (Try g) (Served k grant) b = numbered.ended_before (gets_stand is_unnotified) gs s.first_get g (suc m) refl b
  gets_before s m now gs (Try g) (Taken k grant) b = get_put_before s.first_get (suc m) g (Holding k) gs refl b
  gets_before s m now gs (Try g) (Waiting grant) b = waits_before s.first_get m now g gs b
  gets_before s m now gs (CheckedOk g) (Served k grant) b = numbered.ended_before (gets_stand is_unnotified) gs s.first_get g (suc m) refl b
  gets_before s m now gs (CheckedErr g broken) (Closed k grant n) b = notify_before s.first_get (suc m) n _ (get_put_before s.first_get (suc m) g Active gs refl b)
  gets_before s m now gs (GiveUp g why held broken) (GaveUp n) b = notify_before s.first_get (suc m) n _ (numbered.ended_before (gets_stand is_unnotified) gs s.first_get g (suc m) refl b)
  gets_before s m now gs (GiveUp g why held broken) (Kept k n) b = notify_before s.first_get (suc m) n _ (numbered.ended_before (gets_stand is_unnotified) gs s.first_get g (suc m) refl b)
  gets_before s m now gs (GiveUp g why held broken) (Closed k grant n) b = notify_before s.first_get (suc m) n _ (numbered.ended_before (gets_stand is_unnotified) gs s.first_get g (suc m) refl b)
  gets_before s m now gs (PutBack k c broken) (Kept j n) b = notify_before s.first_get (suc m) n gs b
  gets_before s m now gs (PutBack k c broken) (Closed j grant n) b = notify_before s.first_get (suc m) n gs b
  gets_before s m now gs (Detach k) (Closed j grant n) b = notify_before s.first_get (suc m) n gs b
  gets_before s m now gs (Evict k) (Closed j grant n) b = notify_before s.first_get (suc m) n gs b
  gets_before s m now gs (Opened k c) (Entered j n) b = notify_before s.first_get (suc m) n gs b
  gets_before s m now gs (Add c broken) (Added k n) b = notify_before s.first_get (suc m) n gs b
  gets_before s m now gs _ _ b = b

  pub waited_before : (l : Ledger C) → Before unnotified_at (position l) (gets l)
  waited_before (Opening s) = tt
  waited_before (Later l at e a) = gets_before (start l) (position l) (max (latest l) at) (gets l) e a (numbered.before_later unnotified_at (gets l) (position l) (waited_before l))

  -- ---- the peaks hold

  pub peak_holds : (l : Ledger C) → conns l + approved l ≤ peak l
  peak_holds (Opening s) = omega arith
  peak_holds (Later l at e a) = omega arith

  pub get_peak_holds : (l : Ledger C) → alive l ≤ get_peak l
  get_peak_holds (Opening s) = omega arith
  get_peak_holds (Later l at e a) = omega arith

  -- ---- the idle numbers are as many as the idle records

  pub idle_counted : (first m : ℕ) (rs : List (Numbered (Standing C))) → Before idle_at m rs → length (in_order idle_at first rs m) ≡ idle_of rs
  idle_counted first m rs b = numbered.line_counted (stands is_idle) rs first m b

  pub idle_tally : (l : Ledger C) → length (idle l) ≡ idle_count l
  idle_tally l = idle_counted (start l).first (position l) (records l) (entered_before l)

  -- ---- and those in line are as many as the waiters that were not notified

  pub waiting_counted : (l : Ledger C) → length (waiting l) ≡ unnotified l
  waiting_counted l = numbered.line_counted (gets_stand is_unnotified) (gets l) (start l).first_get (position l) (waited_before l)

  -- ---- a connection is idle or out

  pub conns_split : (rs : List (Numbered (Standing C))) → conns_of rs ≡ idle_of rs + tally (λ r. stands is_out r.standing) rs
  conns_split [] = omega arith
  conns_split (r ∷ rs) = grind (arith, nat_tests, conns_split rs)
