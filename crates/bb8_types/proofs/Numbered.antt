-- Laws of lists whose elements have numbers in a row.
use Rattle.std.proofs.Common.{◌≡◌, ◌≢◌, ◌⊎◌, ℕ, zero, suc, ◌+◌, ◌<◌, ◌≤◌, Bool, ◌&&◌, ltb, lt-ltb, le-ltb, true, false, cond, not, eqb, List, [], ◌∷◌, ◌++◌, length, Option, Some, None, filter, map, option_and_then, slice_get, refl, sym, ap, ◌∙◌, inl, inr, ⊎_elim, arith, append-nil, ne_eqb, eq-eqb, eqb-true, length-append, nat_cmp}
use Rattle.std.proofs.lemmas.Bool.Decides.{eqb_tells, nat_tests}
use Rattle.std.proofs.lemmas.List.Elements.{filter-append}
use Rattle.std.specs.Ordering.{eq_by_cmp}
use Rattle.std.specs.Cmp.{nat_cmp_total}
use Rattle.std.specs.FinMap.{FinMap, insert, remove, get, get-empty, get-insert, get-remove, same_map, nat_cmp-IsAntisymmetric}
use Rattle.bb8_types.specs.Numbered.{after_end, Numbered, standing_at, at, update, numbers, in_order, with_value, by_number, one, tally}

-- the list with another element at the number k
abbrev pub change : {R : Type 0} → ℕ → ℕ → R → List R → List R
change n k new [] = []
change n k new (r ∷ rs) = cond (eqb k n) new r ∷ change (suc n) k new rs

-- each element is below the position m, if it is anywhere
abbrev pub Before : {R : Type 0} → (ℕ → R → Bool) → ℕ → List R → Type 0
Before stands m [] = Unit {0}
Before stands m (r ∷ rs) = ((p : ℕ) → stands p r ≡ true → p < m) × Before stands m rs

-- two numbers are the same, or not, with what the test says
pub same_or_not : (q k : ℕ) → ((eqb q k ≡ true) × (q ≡ k)) ⊎ ((eqb q k ≡ false) × (q ≢ k))
same_or_not q k = eqb_tells q k

pub eqb_self : (q : ℕ) → eqb q q ≡ true
eqb_self q = eq-eqb q q refl

pub tested : (p q : ℕ) → eqb p q ≡ true → p ≡ q
tested p q h = eqb-true p q h

pub ne_test : (p q : ℕ) → (p ≡ q → ⊥) → eqb p q ≡ false
ne_test p q h = ne_eqb p q h

get_joined : (xs ys : List ℕ) (j k : ℕ) → slice_get (xs ++ ys) j ≡ Some k → (slice_get xs j ≡ Some k) ⊎ ((i : ℕ) × (slice_get ys i ≡ Some k))
get_joined [] ys j k h = inr (j, h)
get_joined (x ∷ xs) ys zero k h = inl h
get_joined (x ∷ xs) ys (suc j) k h = get_joined xs ys j k h

module _ {R : Type 0} where
  pub at-below : (rs : List R) (n q : ℕ) → q < n → at n rs q ≡ None
  at-below [] n q h = refl
  at-below (r ∷ rs) n q h = grind (arith, nat_tests, at-below rs (suc n) q)

  pub at-past : (rs : List R) (n q : ℕ) → n + length rs ≤ q → at n rs q ≡ None
  at-past [] n q h = refl
  at-past (r ∷ rs) n q h = grind (arith, nat_tests, at-past rs (suc n) q)

  pub at-append : (rs : List R) (r : R) (n q : ℕ) → at n (rs ++ r ∷ []) q ≡ cond (eqb q (n + length rs)) (Some r) (at n rs q)
  at-append [] r n q = let e : n + 0 ≡ n = omega arith in rw e refl
  at-append (x ∷ rs) r n q = grind (arith, nat_tests, at-append rs r (suc n) q)

  pub at-change_same : (rs : List R) (n k : ℕ) (new old : R) → at n rs k ≡ Some old → at n (change n k new rs) k ≡ Some new
  at-change_same [] n k new old h = cc
  at-change_same (r ∷ rs) n k new old h = grind (arith, nat_tests, at-change_same rs (suc n) k new old)

  pub at-change_other : (rs : List R) (n k q : ℕ) (new : R) → q ≢ k → at n (change n k new rs) q ≡ at n rs q
  at-change_other [] n k q new h = refl
  at-change_other (r ∷ rs) n k q new h = grind (arith, nat_tests, at-change_other rs (suc n) k q new)

  pub change_below : (rs : List R) (n k : ℕ) (new : R) → k < n → change n k new rs ≡ rs
  change_below [] n k new h = refl
  change_below (r ∷ rs) n k new h = grind (arith, nat_tests, change_below rs (suc n) k new)

  pub update_below : (rs : List R) (n k : ℕ) (f : R → R) → k < n → update n k f rs ≡ rs
  update_below [] n k f h = refl
  update_below (r ∷ rs) n k f h = grind (arith, nat_tests, update_below rs (suc n) k f)

  -- where the element is known, so is the one that it is changed to
  pub update_is : (rs : List R) (n k : ℕ) (f : R → R) (old : R) → at n rs k ≡ Some old → update n k f rs ≡ change n k (f old) rs
  update_is [] n k f old h = refl
  update_is (r ∷ rs) n k f old h = grind (arith, nat_tests, update_is rs (suc n) k f old, update_below rs (suc n) k f, change_below rs (suc n) k (f old))

  pub length-change : (rs : List R) (n k : ℕ) (new : R) → length (change n k new rs) ≡ length rs
  length-change [] n k new = refl
  length-change (r ∷ rs) n k new = ap suc (length-change rs (suc n) k new)

  pub length-update : (rs : List R) (n k : ℕ) (f : R → R) → length (update n k f rs) ≡ length rs
  length-update [] n k f = refl
  length-update (r ∷ rs) n k f = ap suc (length-update rs (suc n) k f)

  pub tally-change : (p : R → Bool) (rs : List R) (n k : ℕ) (new old : R) → at n rs k ≡ Some old → tally p (change n k new rs) + one (p old) ≡ tally p rs + one (p new)
  tally-change p [] n k new old h = cc
  tally-change p (r ∷ rs) n k new old h = grind (arith, nat_tests, tally-change p rs (suc n) k new old, change_below rs (suc n) k new)

  pub tally-append : (p : R → Bool) (rs : List R) (r : R) → tally p (rs ++ r ∷ []) ≡ tally p rs + one (p r)
  tally-append p [] r = omega arith
  tally-append p (x ∷ rs) r = let ih : tally p (rs ++ r ∷ []) ≡ tally p rs + one (p r) = tally-append p rs r in omega arith

  -- the number k no longer passes
  pub numbers-change_off : (p : R → Bool) (rs : List R) (n k : ℕ) (new : R) → p new ≡ false → numbers p n (change n k new rs) ≡ filter (λ q. not (eqb q k)) (numbers p n rs)
  numbers-change_off p [] n k new h = refl
  numbers-change_off p (r ∷ rs) n k new h = grind (arith, nat_tests, numbers-change_off p rs (suc n) k new)

  -- nothing passes but the number k
  pub numbers-change_on : (p : R → Bool) (rs : List R) (n k : ℕ) (new old : R) → numbers p n rs ≡ [] → at n rs k ≡ Some old → p new ≡ true → numbers p n (change n k new rs) ≡ k ∷ []
  numbers-change_on p [] n k new old none h pass = cc
  numbers-change_on p (r ∷ rs) n k new old none h pass = grind (arith, nat_tests, numbers-change_on p rs (suc n) k new old, change_below rs (suc n) k new)

  -- the number k passes as before
  pub numbers-change_kept : (p : R → Bool) (rs : List R) (n k : ℕ) (new old : R) → at n rs k ≡ Some old → p new ≡ p old → numbers p n (change n k new rs) ≡ numbers p n rs
  numbers-change_kept p [] n k new old h e = refl
  numbers-change_kept p (r ∷ rs) n k new old h e = grind (arith, nat_tests, numbers-change_kept p rs (suc n) k new old, change_below rs (suc n) k new)

  pub numbers-append : (p : R → Bool) (rs : List R) (r : R) (n : ℕ) → numbers p n (rs ++ r ∷ []) ≡ numbers p n rs ++ cond (p r) ((n + length rs) ∷ []) []
  numbers-append p [] r n = let e : n + 0 ≡ n = omega arith in rw e refl
  numbers-append p (x ∷ rs) r n = grind (arith, nat_tests, numbers-append p rs r (suc n))

  -- ---- who is in a list

  pub numbers_from : (p : R → Bool) (rs : List R) (n j k : ℕ) → slice_get (numbers p n rs) j ≡ Some k → n ≤ k
  numbers_from p [] n j k h = cc
  numbers_from p (r ∷ rs) n j k h = grind (arith, nat_tests, numbers_from p rs (suc n))

  pub numbers_member : (p : R → Bool) (rs : List R) (n j k : ℕ) → slice_get (numbers p n rs) j ≡ Some k → (r : R) × (at n rs k ≡ Some r) × (p r ≡ true)
  numbers_member p [] n j k h = cc
  numbers_member p (r ∷ rs) n j k h = go (λ i e. numbers_member p rs (suc n) i k e) (p r) refl j h
    where
      later : ((i : ℕ) → slice_get (numbers p (suc n) rs) i ≡ Some k → (r : R) × (at (suc n) rs k ≡ Some r) × (p r ≡ true)) → (j : ℕ)
          → slice_get (numbers p (suc n) rs) j ≡ Some k → (x : R) × (at n (r ∷ rs) k ≡ Some x) × (p x ≡ true)
      later ih j h = grind (arith, nat_tests, numbers_from p rs (suc n) j k)

      go : ((i : ℕ) → slice_get (numbers p (suc n) rs) i ≡ Some k → (r : R) × (at (suc n) rs k ≡ Some r) × (p r ≡ true)) → (b : Bool)
          → p r ≡ b → (j : ℕ) → slice_get (cond b (n ∷ numbers p (suc n) rs) (numbers p (suc n) rs)) j ≡ Some k → (x : R)
          × (at n (r ∷ rs) k ≡ Some x) × (p x ≡ true)
      go ih false e j h = later ih j h
      go ih true e zero h = grind (arith, nat_tests)
      go ih true e (suc j) h = later ih j h

  -- the first number no longer passes
  pub numbers-change_head : (p : R → Bool) (rs : List R) (n k : ℕ) (rest : List ℕ) (new : R) → numbers p n rs ≡ k ∷ rest → p new ≡ false → numbers p n (change n k new rs) ≡ rest
  numbers-change_head p [] n k rest new h off = cc
  numbers-change_head p (r ∷ rs) n k rest new h off = grind (arith, nat_tests, numbers-change_head p rs (suc n) k rest new, change_below rs (suc n) k new, numbers_from p rs (suc n) 0 k)

  -- ---- by position

  -- the elements at a position are at no other
  abbrev pub Stands : (ℕ → R → Bool) → Type 0
  Stands stands = (p q : ℕ) (r : R) → stands p r ≡ true → stands q r ≡ true → p ≡ q

  pub in_order-change_off : (stands : ℕ → R → Bool) (rs : List R) (n k : ℕ) (new : R) → ((p : ℕ) → stands p new ≡ false) → (m : ℕ)
      → in_order stands n (change n k new rs) m ≡ filter (λ q. not (eqb q k)) (in_order stands n rs m)
  in_order-change_off stands rs n k new off zero = refl
  in_order-change_off stands rs n k new off (suc m) = grind (arith, nat_tests, in_order-change_off stands rs n k new off m, numbers-change_off, filter-append)

  pub in_order-change_kept : (stands : ℕ → R → Bool) (rs : List R) (n k : ℕ) (new old : R) → at n rs k ≡ Some old → (m : ℕ)
      → ((p : ℕ) → p < m → stands p new ≡ stands p old) → in_order stands n (change n k new rs) m ≡ in_order stands n rs m
  in_order-change_kept stands rs n k new old h zero same = refl
  in_order-change_kept stands rs n k new old h (suc m) same = grind (arith, nat_tests, in_order-change_kept stands rs n k new old h m, numbers-change_kept (stands m) rs n k new old h)

  -- a new element that is at no position below m
  in_order-append_under : (stands : ℕ → R → Bool) (rs : List R) (n : ℕ) (new : R) (m : ℕ) → ((p : ℕ) → p < m → stands p new ≡ false) → in_order stands n (rs ++ new ∷ []) m ≡ in_order stands n rs m
  in_order-append_under stands rs n new zero off = refl
  in_order-append_under stands rs n new (suc m) off = grind (arith, nat_tests, in_order-append_under stands rs n new m, numbers-append, append-nil)

  pub in_order-append : (stands : ℕ → R → Bool) (rs : List R) (n : ℕ) (new : R) → ((p : ℕ) → stands p new ≡ false) → (m : ℕ) → in_order stands n (rs ++ new ∷ []) m ≡ in_order stands n rs m
  in_order-append stands rs n new off m = in_order-append_under stands rs n new m (λ p below. off p)

  pub before_later : (stands : ℕ → R → Bool) (rs : List R) (m : ℕ) → Before stands m rs → Before stands (suc m) rs
  before_later stands [] m b = tt
  before_later stands (r ∷ rs) m b = (λ p h. let l : p < m = b.0 p h in omega arith, before_later stands rs m b.1)

  pub before-append : (stands : ℕ → R → Bool) (rs : List R) (new : R) (m : ℕ) → Before stands m rs → ((p : ℕ) → stands p new ≡ true → p < m) → Before stands m (rs ++ new ∷ [])
  before-append stands [] new m b h = (h, tt)
  before-append stands (r ∷ rs) new m b h = (b.0, before-append stands rs new m b.1 h)

  pub before-update : (stands : ℕ → R → Bool) (rs : List R) (n k : ℕ) (f : R → R) (m : ℕ) → Before stands m rs → ((r : R) (p : ℕ) → stands p (f r) ≡ true → p < m) → Before stands m (update n k f rs)
  before-update stands [] n k f m b h = tt
  before-update stands (r ∷ rs) n k f m b h = grind (arith, nat_tests, before-update stands rs (suc n) k f m b.1)

  -- an element that is changed is below m, where it was before
  pub before-update_kept : (stands : ℕ → R → Bool) (rs : List R) (n k : ℕ) (f : R → R) (m : ℕ) → Before stands m rs
      → ((r : R) → ((p : ℕ) → stands p r ≡ true → p < m) → (p : ℕ) → stands p (f r) ≡ true → p < m) → Before stands m (update n k f rs)
  before-update_kept stands [] n k f m b h = tt
  before-update_kept stands (r ∷ rs) n k f m b h = grind (arith, nat_tests, before-update_kept stands rs (suc n) k f m b.1)

  pub before-map : (stands : ℕ → R → Bool) (rs : List R) (f : R → R) (m : ℕ) → Before stands m rs
      → ((r : R) → ((p : ℕ) → stands p r ≡ true → p < m) → (p : ℕ) → stands p (f r) ≡ true → p < m) → Before stands m (map f rs)
  before-map stands [] f m b h = tt
  before-map stands (r ∷ rs) f m b h = (h r b.0, before-map stands rs f m b.1 h)

  -- so nobody is at m
  pub none_at : (stands : ℕ → R → Bool) (rs : List R) (n m : ℕ) → Before stands m rs → numbers (stands m) n rs ≡ []
  none_at stands [] n m b = refl
  none_at stands (r ∷ rs) n m b = grind (arith, nat_tests, none_at stands rs (suc n) m b.1)

  -- an event at which nobody enters
  pub in_order-later : (stands : ℕ → R → Bool) (rs : List R) (n m : ℕ) → Before stands m rs → in_order stands n rs (suc m) ≡ in_order stands n rs m
  in_order-later stands rs n m b = let none : numbers (stands m) n rs ≡ [] = none_at stands rs n m b in rw none (append-nil (in_order stands n rs m))

  -- an event at which the number k enters, that was nowhere before
  pub in_order-enter : (stands : ℕ → R → Bool) (rs : List R) (n k m : ℕ) (new old : R) → Before stands m rs → at n rs k ≡ Some old
      → ((p : ℕ) → stands p old ≡ false) → stands m new ≡ true → ((p : ℕ) → p < m → stands p new ≡ false)
      → in_order stands n (change n k new rs) (suc m) ≡ in_order stands n rs m ++ k ∷ []
  in_order-enter stands rs n k m new old b h off on rest = grind (arith, nat_tests, numbers-change_on (stands m) rs n k new old, none_at stands rs n m, in_order-change_kept stands rs n k new old)

  -- an event at which a new element enters
  pub in_order-append_new : (stands : ℕ → R → Bool) (rs : List R) (n m : ℕ) (new : R) → Before stands m rs → stands m new ≡ true
      → ((p : ℕ) → p < m → stands p new ≡ false) → in_order stands n (rs ++ new ∷ []) (suc m) ≡ in_order stands n rs m
      ++ (n + length rs) ∷ []
  in_order-append_new stands rs n m new b on off = grind (arith, nat_tests, in_order-append_under, numbers-append, none_at)

  pub in_order_member : (stands : ℕ → R → Bool) (rs : List R) (n m j k : ℕ) → slice_get (in_order stands n rs m) j ≡ Some k → (r : R) × (at n rs k ≡ Some r) × (p : ℕ) × (p < m) × (stands p r ≡ true)
  in_order_member stands rs n zero j k h = cc
  in_order_member stands rs n (suc m) j k h = grind (arith, nat_tests, in_order_member stands rs n m j k, numbers_member, get_joined)

  -- the first number is nowhere any more
  pub in_order-change_head : (stands : ℕ → R → Bool) → Stands stands → (rs : List R) (n k : ℕ) (rest : List ℕ) (new : R)
      → ((p : ℕ) → stands p new ≡ false) → (m : ℕ) → in_order stands n rs m ≡ k ∷ rest → in_order stands n (change n k new rs) m ≡ rest
  in_order-change_head stands one_place rs n k rest new off zero h = cc
  in_order-change_head stands one_place rs n k rest new off (suc m) h = go (λ front e. in_order-change_head stands one_place rs n k front new off m e) (in_order stands n rs m) refl h
    where
      never : (t : Bool) → (t ≡ true → ⊥) → t ≡ false
      never t clash = grind (arith, nat_tests)

      go : ((front : List ℕ) → in_order stands n rs m ≡ k ∷ front → in_order stands n (change n k new rs) m ≡ front) → (front : List ℕ)
          → in_order stands n rs m ≡ front → front ++ numbers (stands m) n rs ≡ k ∷ rest
          → in_order stands n (change n k new rs) (suc m) ≡ rest
      go before [] e h = grind (arith, nat_tests, in_order-change_off, numbers-change_head)
      go before (x ∷ front) e h =
          let same : x ≡ k = cc in
          let parts : front ++ numbers (stands m) n rs ≡ rest = cc in
          let e' : in_order stands n rs m ≡ k ∷ front = e ∙ ap (λ (t : ℕ). t ∷ front) same in
          let ih : in_order stands n (change n k new rs) m ≡ front = before front e' in
          let t : (r : R) × (at n rs k ≡ Some r) × (p : ℕ) × (p < m) × (stands p r ≡ true) = in_order_member stands rs n m 0 k (ap (λ (t : List ℕ). slice_get t 0) e') in
          let elsewhere : stands m t.0 ≡ false = never (stands m t.0) (λ s. let clash : t.2 ≡ m = one_place t.2 m t.0 t.4 s in let l : t.2 < m = t.3 in omega arith) in
          let here : numbers (stands m) n (change n k new rs) ≡ numbers (stands m) n rs = numbers-change_kept (stands m) rs n k new t.0 t.1 (off m ∙ sym elsewhere) in
          rw (ih, here) parts

  -- ---- how many are at each position

  pub length-numbers : (p : R → Bool) (rs : List R) (n : ℕ) → length (numbers p n rs) ≡ tally p rs
  length-numbers p [] n = refl
  length-numbers p (r ∷ rs) n = grind (arith, length-numbers p rs (suc n))

  -- the elements below a position are counted once more at that position
  pub length-in_order : (stands : ℕ → R → Bool) (rs : List R) (n : ℕ) (below : ℕ → R → Bool) → ((r : R) → below 0 r ≡ false)
      → ((m : ℕ) (r : R) → one (below (suc m) r) ≡ one (below m r) + one (stands m r)) → (m : ℕ)
      → length (in_order stands n rs m) ≡ tally (below m) rs
  length-in_order stands rs n below none more zero = nobody rs
    where
      nobody : (xs : List R) → 0 ≡ tally (below 0) xs
      nobody [] = refl
      nobody (x ∷ xs) = let ih : 0 ≡ tally (below 0) xs = nobody xs in let e : one (below 0 x) ≡ 0 = ap one (none x) in omega arith
  length-in_order stands rs n below none more (suc m) =
      let ih : length (in_order stands n rs m) ≡ tally (below m) rs = length-in_order stands rs n below none more m in
      let here : length (numbers (stands m) n rs) ≡ tally (stands m) rs = length-numbers (stands m) rs n in
      let joined : length (in_order stands n rs m ++ numbers (stands m) n rs) ≡ length (in_order stands n rs m) + length
      (numbers (stands m) n rs) = length-append (in_order stands n rs m) (numbers (stands m) n rs) in
      let sum : tally (below (suc m)) rs ≡ tally (below m) rs + tally (stands m) rs = both rs in
      omega arith
    where
      both : (xs : List R) → tally (below (suc m)) xs ≡ tally (below m) xs + tally (stands m) xs
      both [] = refl
      both (x ∷ xs) = grind (arith, nat_tests, both xs)

-- ---- maps

pub key_test : (q k : ℕ) → eq_by_cmp nat_cmp q k ≡ eqb q k
key_test q k = grind (arith, nat_tests)

module _ {S : Type 0} where
  pub get_inserted : (m : FinMap nat_cmp S) (k : ℕ) (s : S) (q : ℕ) → get (insert m k s) q ≡ cond (eqb q k) (Some s) (get m q)
  get_inserted m k s q = get-insert nat_cmp_total m k s q ∙ ap (λ (b : Bool). cond b (Some s) (get m q)) (key_test q k)

  pub get_removed : (m : FinMap nat_cmp S) (k q : ℕ) → get (remove m k) q ≡ cond (eqb q k) None (get m q)
  get_removed m k q = get-remove nat_cmp_total m k q ∙ ap (λ (b : Bool). cond b None (get m q)) (key_test q k)

  pub same_gets : (m n : FinMap nat_cmp S) → ((q : ℕ) → get m q ≡ get n q) → m ≡ n
  same_gets m n h = same_map nat_cmp_total nat_cmp-IsAntisymmetric m n h

  -- a key that is inserted twice has its later value
  pub inserted_again : (m : FinMap nat_cmp S) (k : ℕ) (f : Option S → S) (s : S) → insert m k (f (Some s)) ≡ insert (insert m k s) k (f (get (insert m k s) k))
  inserted_again m k f s = grind (arith, nat_tests, same_gets, get_inserted, eqb_self)

  -- a new key that is taken out again leaves nothing behind
  pub removed_inserted : (m : FinMap nat_cmp S) (k : ℕ) (s : S) → get m k ≡ None → remove (insert m k s) k ≡ m
  removed_inserted m k s absent = grind (arith, nat_tests, same_gets, get_removed (insert m k s) k, get_inserted m k s)

module _ {R S : Type 0} where
  pub get-numbered : (f : R → Option S) (rs : List R) (n q : ℕ) → get (by_number f n rs) q ≡ option_and_then f (at n rs q)
  get-numbered f [] n q = get-empty nat_cmp q
  get-numbered f (r ∷ rs) n q = grind (arith, nat_tests, at-below, get-numbered f rs (suc n) q, get_inserted, same_or_not)

  pub numbered-change_some : (f : R → Option S) (rs : List R) (n k : ℕ) (new old : R) (s : S) → at n rs k ≡ Some old → f new ≡ Some s
      → by_number f n (change n k new rs) ≡ insert (by_number f n rs) k s
  numbered-change_some f rs n k new old s h e = grind (arith, nat_tests, same_gets, get-numbered, at-change_same rs n k new old, get_inserted, at-change_other, get-numbered f rs n, same_or_not)

  pub numbered-change_none : (f : R → Option S) (rs : List R) (n k : ℕ) (new old : R) → at n rs k ≡ Some old → f new ≡ None → by_number f n (change n k new rs) ≡ remove (by_number f n rs) k
  numbered-change_none f rs n k new old h e = grind (arith, nat_tests, same_gets, get-numbered, at-change_same rs n k new old, get_removed, at-change_other, get-numbered f rs n, same_or_not)

  pub numbered-append_some : (f : R → Option S) (rs : List R) (n : ℕ) (new : R) (s : S) → f new ≡ Some s → by_number f n (rs ++ new ∷ []) ≡ insert (by_number f n rs) (n + length rs) s
  numbered-append_some f rs n new s e = grind (arith, nat_tests, same_gets, get-numbered f, at-append rs new n, get_inserted (by_number f n rs) (n + length rs) s, get-numbered f rs n)

module _ {S : Type 0} where
  -- the element behind a number's
  pub standing_found : (rs : List (Numbered S)) (n k : ℕ) (s : S) → standing_at n rs k ≡ Some s → (r : Numbered S) × (at n rs k ≡ Some r) × (r.standing ≡ Some s)
  standing_found rs n k s h = grind (arith, nat_tests)

  -- nobody is in line for one that has ended
  pub ended_before : (on : Option S → Bool) (rs : List (Numbered S)) (n k m : ℕ) → on None ≡ false
      → Before (λ p r. on r.standing && eqb r.position p) m rs
      → Before (λ p r. on r.standing && eqb r.position p) m (update n k after_end rs)
  ended_before on rs n k m off b = grind (arith, nat_tests, before-update)

  -- those in line are as many as those who are there
  pub line_counted : (on : Option S → Bool) (rs : List (Numbered S)) (first m : ℕ) → Before (λ p r. on r.standing && eqb r.position p) m rs
      → length (in_order (λ p r. on r.standing && eqb r.position p) first rs m) ≡ tally (λ r. on r.standing) rs
  line_counted on rs first m b = length-in_order (λ p r. on r.standing && eqb r.position p) rs first
      (λ p r. on r.standing && ltb r.position p) (λ r. none (on r.standing) (ltb r.position 0) (le-ltb r.position 0 (omega arith)))
      (λ p r. more p r.position (on r.standing)) m ∙ all m rs b
    where
      none : (a b : Bool) → b ≡ false → (a && b) ≡ false
      none a b e = grind (arith, nat_tests)

      step : (a x y z : Bool) → one x ≡ one y + one z → one (a && x) ≡ one (a && y) + one (a && z)
      step a x y z e = grind (arith, nat_tests)

      more : (p q : ℕ) (a : Bool) → one (a && ltb q (suc p)) ≡ one (a && ltb q p) + one (a && eqb q p)
      more p q a = step a (ltb q (suc p)) (ltb q p) (eqb q p) (grind (arith, nat_tests, eqb_tells q p))

      all : (p : ℕ) (xs : List (Numbered S)) → Before (λ p r. on r.standing && eqb r.position p) p xs → tally (λ r. on r.standing && ltb r.position p) xs ≡ tally (λ r. on r.standing) xs
      all p [] below = refl
      all p (r ∷ xs) below =
          let ih : tally (λ x. on x.standing && ltb x.position p) xs ≡ tally (λ x. on x.standing) xs = all p xs below.1 in
          let here : (t : Bool) → (t ≡ true → r.position < p) → one (t && ltb r.position p) ≡ one t =
          elim [ true ↦ (λ under. ap one (lt-ltb r.position p (under refl))) | false ↦ (λ under. refl) ] in
          let e : one (on r.standing && ltb r.position p) ≡ one (on r.standing) =
          here (on r.standing) (λ t. below.0 r.position (ap (λ (x : Bool). x && eqb r.position r.position) t ∙ eqb_self r.position)) in
          omega arith
