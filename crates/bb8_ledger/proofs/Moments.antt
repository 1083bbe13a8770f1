-- No birth and no entry lies after the latest moment, and none entered after now.
use Rattle.bb8_ledger.proofs.Words.{◌≡◌, ℕ, zero, suc, ◌≤◌, max, Bool, true, false, cond, eqb, List, [], ◌∷◌, ◌++◌, map, Option, Some, None, option_map, option_and_then, refl, arith, Place, Idle, Held, Guarded, Standing, Numbered, at, standing_at, update, after_end, after_end_where, is_left, with_place, birth_in, Act, Try, CheckedOk, CheckedErr, GiveUp, PutBack, Detach, Evict, Fill, Ask, Claim, Opened, Failed, Add, Reap, Retire, retiring, Leave, Close, Answer, Served, Taken, Kept, Closed, Granted, Entered, Late, GivenBack, Added, Reaped, Left, Unfit, Ledger, Opening, Later, Start, start, position, latest, records, record_of, records_after, moment_after, reaped, with_ended, with_approvals, at_place, at_entry, entry, is_idle, sym, ◌∙◌, ◌<◌, Claimed, Waiting, nat_tests}
use Rattle.bb8_ledger.specs.Answers as answers

module _ {C : Type 0} where
  -- the moments of a record are no later than this one, and it is idle since a position before this
  -- one
  abbrev pub IsUpTo : ℕ → ℕ → Numbered (Standing C) → Type 0
  IsUpTo m q r = (s : Standing C) → r.standing ≡ Some s → (s.birth ≤ m) × (s.entered ≤ m) × (is_idle s.place ≡ true → r.position < q)

  abbrev pub AreUpTo : ℕ → ℕ → List (Numbered (Standing C)) → Type 0
  AreUpTo m q [] = Unit {0}
  AreUpTo m q (r ∷ rs) = IsUpTo m q r × AreUpTo m q rs

  raised : (m n q : ℕ) (rs : List (Numbered (Standing C))) → m ≤ n → AreUpTo m q rs → AreUpTo n (suc q) rs
  raised m n q [] l u = tt
  raised m n q (r ∷ rs) l u = (λ s e. (let was = u.0 s e in (omega (arith, was.0), omega (arith, was.1), λ idle. omega (arith, was.2 idle))), raised m n q rs l u.1)

  appended : (m q : ℕ) (rs : List (Numbered (Standing C))) (r : Numbered (Standing C)) → AreUpTo m q rs → IsUpTo m q r → AreUpTo m q (rs ++ r ∷ [])
  appended m q [] r u new = (new, tt)
  appended m q (x ∷ rs) r u new = (u.0, appended m q rs r u.1 new)

  updated : (m q n k : ℕ) (f : Numbered (Standing C) → Numbered (Standing C)) (rs : List (Numbered (Standing C)))
      → ((r : Numbered (Standing C)) → IsUpTo m q r → IsUpTo m q (f r)) → AreUpTo m q rs → AreUpTo m q (update n k f rs)
  updated m q n k f [] keeps u = tt
  updated m q n k f (r ∷ rs) keeps u = (pick (eqb k n), updated m q (suc n) k f rs keeps u.1)
    where
      pick : (t : Bool) → IsUpTo m q (cond t (f r) r)
      pick true = keeps r u.0
      pick false = u.0

  ended : (m q : ℕ) (r : Numbered (Standing C)) → IsUpTo m q (after_end r)
  ended m q r s e = cc

  swept : (m q : ℕ) (test : Option (Standing C) → Bool) (rs : List (Numbered (Standing C))) → AreUpTo m q rs → AreUpTo m q (map (after_end_where test) rs)
  swept m q test [] u = tt
  swept m q test (r ∷ rs) u = (pick (test r.standing), swept m q test rs u.1)
    where
      pick : (t : Bool) → IsUpTo m q (cond t (after_end r) r)
      pick true = ended m q r
      pick false = u.0

  all_ended : (m q first : ℕ) (ks : List ℕ) (rs : List (Numbered (Standing C))) → AreUpTo m q rs → AreUpTo m q (with_ended first ks rs)
  all_ended m q first [] rs u = u
  all_ended m q first (k ∷ ks) rs u = all_ended m q first ks (update first k after_end rs) (updated m q first k after_end rs (λ r h. ended m q r) u)

  -- a record is given a standing that is no later
  stands_up_to : (m q : ℕ) (t : Standing C) (position : ℕ) → t.birth ≤ m → t.entered ≤ m → (is_idle t.place ≡ true → position < q)
      → IsUpTo m q (record { standing = Some t; position = position })
  stands_up_to m q t position birth entered idle s e = grind arith

  granted : (m q : ℕ) (claimed : Bool) (n : ℕ) (rs : List (Numbered (Standing C))) → AreUpTo m q rs → AreUpTo m q (with_approvals claimed n rs)
  granted m q claimed zero rs u = u
  granted m q claimed (suc n) rs u = grind (arith, nat_tests, appended, stands_up_to, granted m q claimed n rs u)

  placed : (m q : ℕ) (p : Place C) → is_idle p ≡ false → (r : Numbered (Standing C)) → IsUpTo m q r → IsUpTo m q (at_place p r)
  placed m q p off r u = go r.standing u
    where
      go : (o : Option (Standing C)) → ((s : Standing C) → o ≡ Some s → (s.birth ≤ m) × (s.entered ≤ m) × (is_idle s.place ≡ true → r.position < q))
          → IsUpTo m q (record { standing = option_map (with_place p) o; position = r.position })
      go None h s e = cc
      go (Some t) h s e = let was = h t refl in stands_up_to m q (with_place p t) r.position was.0 was.1 (λ idle. absurd (let clash : false ≡ true = sym off ∙ idle in cc)) s e

  entered_now : (m b q : ℕ) (c : C) → b ≤ m → IsUpTo m (suc q) (entry c b m q)
  entered_now m b q c l = stands_up_to m (suc q) (record { place = Idle c; birth = b; entered = m }) q l (omega arith) (λ idle. omega arith)

  kept : (m q : ℕ) (c : C) (r : Numbered (Standing C)) → IsUpTo m (suc q) r → IsUpTo m (suc q) (at_entry c m q r)
  kept m q c r u = entered_now m (birth_in r.standing) q c (go r.standing (λ s e. (u s e).0))
    where
      go : (o : Option (Standing C)) → ((s : Standing C) → o ≡ Some s → s.birth ≤ m) → birth_in o ≤ m
      go None h = omega arith
      go (Some s) h = h s refl

  -- so it is after each event
  up_to_after : (s : Start) (h q late at : ℕ) (rs : List (Numbered (Standing C))) (e : Act C) (a : Answer) → AreUpTo late (suc q) rs → AreUpTo (max late at) (suc q) rs
      → AreUpTo (moment_after late at a) (suc q) (records_after s h q (max late at) rs e a)
  up_to_after s h q late at rs e Unfit was u = was
  up_to_after s h q late at rs (Try g) (Served k grant) was u = granted _ _ false grant.count _ (updated _ _ s.first k (at_place Guarded) rs (placed _ _ Guarded refl) u)
  up_to_after s h q late at rs (Try g) (Taken k grant) was u = granted _ _ false grant.count _ (updated _ _ s.first k (at_place (Held g)) rs (placed _ _ (Held g) refl) u)
  up_to_after s h q late at rs (Try g) (Waiting grant) was u = granted _ _ false grant.count rs u
  up_to_after s h q late at rs (CheckedOk g) (Served k grant) was u = updated _ _ s.first k (at_place Guarded) rs (placed _ _ Guarded refl) u
  up_to_after s h q late at rs (CheckedErr g broken) (Closed k grant n) was u = granted _ _ false grant.count _ (updated _ _ s.first k after_end rs (λ r _. ended _ _ r) u)
  up_to_after s h q late at rs (GiveUp g why (Some c) broken) (Kept k n) was u = updated _ _ s.first k (at_entry c (max late at) q) rs (kept _ q c) u
  up_to_after s h q late at rs (GiveUp g why held broken) (Closed k grant n) was u = granted _ _ false grant.count _ (updated _ _ s.first k after_end rs (λ r _. ended _ _ r) u)
  up_to_after s h q late at rs (PutBack k c broken) (Kept j n) was u = updated _ _ s.first k (at_entry c (max late at) q) rs (kept _ q c) u
  up_to_after s h q late at rs (PutBack k c broken) (Closed j grant n) was u = granted _ _ false grant.count _ (updated _ _ s.first k after_end rs (λ r _. ended _ _ r) u)
  up_to_after s h q late at rs (Detach k) (Closed j grant n) was u = granted _ _ false grant.count _ (updated _ _ s.first k after_end rs (λ r _. ended _ _ r) u)
  up_to_after s h q late at rs (Evict k) (Closed j grant n) was u = granted _ _ false grant.count _ (updated _ _ s.first k after_end rs (λ r _. ended _ _ r) u)
  up_to_after s h q late at rs (Fill claimed) (Granted grant) was u = granted _ _ claimed grant.count rs u
  up_to_after s h q late at rs Ask (Granted grant) was u = granted _ _ false grant.count rs u
  up_to_after s h q late at rs Claim (answers.Claimed (Some k)) was u = updated _ _ s.first k (at_place Claimed) rs (placed _ _ Claimed refl) u
  up_to_after s h q late at rs (Opened k c) (Entered j n) was u = grind (arith, nat_tests, updated, entered_now (max late at) (max late at) q c)
  up_to_after s h q late at rs (Opened k c) (Late j) was u = updated _ _ s.first k after_end rs (λ r _. ended _ _ r) u
  up_to_after s h q late at rs (Failed k) GivenBack was u = updated _ _ s.first k after_end rs (λ r _. ended _ _ r) u
  up_to_after s h q late at rs (Add c broken) (Added k n) was u = appended _ _ rs (entry c (max late at) (max late at) q) u (entered_now (max late at) (max late at) q c (omega arith))
  up_to_after s h q late at rs Reap (Reaped closed by_idle by_life grant) was u = granted _ _ false grant.count _ (all_ended _ _ s.first (reaped s q (max late at) rs) rs u)
  up_to_after s h q late at rs Retire (Reaped closed by_idle by_life grant) was u = granted _ _ false grant.count _ (all_ended _ _ s.first (reaped (retiring s) q (max late at) rs) rs u)
  up_to_after s h q late at rs Leave (Left n) was u = last (eqb h 1)
    where
      last : (t : Bool) → AreUpTo (max late at) (suc q) (cond t (map (after_end_where is_left) rs) rs)
      last true = swept _ _ is_left rs u
      last false = u
  up_to_after s h q late at rs Close (Left n) was u = swept _ _ is_left rs u
  up_to_after s h q late at rs _ _ was u = u

  pub up_to_latest : (l : Ledger C) → AreUpTo (latest l) (position l) (records l)
  up_to_latest (Opening s) = tt
  up_to_latest (Later l at e a) = grind (arith, nat_tests, up_to_after, raised, up_to_latest l)

  -- no record of a ledger was born or entered after its latest moment
  pub none_later : (l : Ledger C) (k : ℕ) (s : Standing C) → record_of l k ≡ Some s → (s.birth ≤ latest l) × (s.entered ≤ latest l)
  none_later l k s e = go (start l).first (records l) (up_to_latest l) e
    where
      go : (n : ℕ) (rs : List (Numbered (Standing C))) → AreUpTo (latest l) (position l) rs → standing_at n rs k ≡ Some s → (s.birth ≤ latest l) × (s.entered ≤ latest l)
      go n [] u h = cc
      go n (r ∷ rs) u h = pick (eqb k n) (go (suc n) rs u.1) h
        where
          pick : (t : Bool) → (standing_at (suc n) rs k ≡ Some s → (s.birth ≤ latest l) × (s.entered ≤ latest l))
              → option_and_then (λ (x : Numbered (Standing C)). x.standing) (cond t (Some r) (at (suc n) rs k)) ≡ Some s
              → (s.birth ≤ latest l) × (s.entered ≤ latest l)
          pick true rest f = let was = u.0 s f in (was.0, was.1)
          pick false rest f = rest f
