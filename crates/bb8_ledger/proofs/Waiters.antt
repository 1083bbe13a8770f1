-- What each change of the gets does to those who wait: how many they are, and in which order they
-- wait.
use Rattle.bb8_ledger.proofs.Words.{nat_tests, ◌≡◌, ne_eqb, eq-eqb, option_map, ◌≢◌, ◌⊎◌, ℕ, zero, suc, ◌+◌, ◌-◌, ◌<◌, ◌≤◌, min, Bool, true, false, cond, eqb, ◌&&◌, List, [], ◌∷◌, ◌++◌, length, Option, Some, None, is_some, slice_get, refl, sym, ap, ◌∙◌, arith, subst, inl, inr, GetPlace, Active, Holding, Getting, Numbered, at, update, numbers, in_order, tally, one, after_end, gets_stand, is_unnotified, is_notified, get_with_place, get_in_wait, unnotified_at, tally_gets, alive_of, new_get, get_at_place, at_wait, with_notice, change, Before, and_right, Waiting}
use Rattle.bb8_types.proofs.Numbered as numbered

-- ---- lists whose elements have numbers

no_front : (xs ys : List ℕ) → xs ++ ys ≡ [] → xs ≡ []
no_front [] ys h = refl
no_front (x ∷ xs) ys h = cc

-- where nothing is found a list has ended
pub none_past : (xs : List ℕ) (i : ℕ) → slice_get xs i ≡ None → length xs ≤ i
none_past [] i h = omega arith
none_past (x ∷ xs) zero h = cc
none_past (x ∷ xs) (suc i) h = omega (arith, none_past xs i h)

no_back : (xs ys : List ℕ) → xs ++ ys ≡ [] → ys ≡ []
no_back [] ys h = h
no_back (x ∷ xs) ys h = cc

module _ {R : Type 0} where
  -- an element that passes is counted
  pub some_tally : (p : R → Bool) (rs : List R) (n q : ℕ) (r : R) → at n rs q ≡ Some r → p r ≡ true → 0 < tally p rs
  some_tally p [] n q r h on = cc
  some_tally p (x ∷ rs) n q r h on = grind (arith, nat_tests, some_tally p rs (suc n) q r)

  -- so it is in the list
  numbers_some : (p : R → Bool) (rs : List R) (n q : ℕ) (r : R) → at n rs q ≡ Some r → p r ≡ true → numbers p n rs ≡ [] → ⊥
  numbers_some p rs n q r h on none = omega (arith, some_tally p rs n q r h on, numbered.length-numbers p rs n, ap (λ (xs : List ℕ). length xs) none)

  -- nor is the list empty if an element is below the last position
  pub in_order_some : (stands : ℕ → R → Bool) (rs : List R) (n m q p : ℕ) (r : R) → at n rs q ≡ Some r → stands p r ≡ true → p < m → in_order stands n rs m ≡ [] → ⊥
  in_order_some stands rs n zero q p r h on below none = absurd (omega arith)
  in_order_some stands rs n (suc m) q p r h on below none = grind (arith, nat_tests, numbered.same_or_not, numbers_some, no_back, no_front, in_order_some stands rs n m q p r h on)

  -- the first in the list is at a position below which there is nobody
  abbrev pub Least : (ℕ → R → Bool) → List R → (n m k : ℕ) → Type 0
  Least stands rs n m k = (r : R) × (at n rs k ≡ Some r) × (p : ℕ) × (p < m) × (stands p r ≡ true) × (in_order stands n rs p ≡ [])

  pub in_order_least : (stands : ℕ → R → Bool) (rs : List R) (n m k : ℕ) → slice_get (in_order stands n rs m) 0 ≡ Some k → Least stands rs n m k
  in_order_least stands rs n zero k h = cc
  in_order_least stands rs n (suc m) k h = go (in_order_least stands rs n m k) (in_order stands n rs m) refl h
    where
      go : (slice_get (in_order stands n rs m) 0 ≡ Some k → Least stands rs n m k) → (xs : List ℕ) → in_order stands n rs m ≡ xs
          → slice_get (xs ++ numbers (stands m) n rs) 0 ≡ Some k → Least stands rs n (suc m) k
      go ih [] e first = let t = numbered.numbers_member (stands m) rs n 0 k first in (t.0, t.1, m, omega arith, t.2, e)
      go ih (x ∷ xs) e first = let t = ih (ap (λ (ys : List ℕ). slice_get ys 0) e ∙ first) in (t.0, t.1, t.2, omega (arith, t.3), t.4, t.5)

  -- an element that is changed to itself
  change_self : (rs : List R) (n k : ℕ) (r : R) → at n rs k ≡ Some r → change n k r rs ≡ rs
  change_self [] n k r h = refl
  change_self (x ∷ rs) n k r h = grind (arith, nat_tests, numbered.same_or_not k n, numbered.change_below rs (suc n) k r, change_self rs (suc n) k r)

  -- the element q, once the element k has changed
  pub at_update : (rs : List R) (n k q : ℕ) (f : R → R) → at n (update n k f rs) q ≡ cond (eqb q k) (option_map f (at n rs q)) (at n rs q)
  at_update [] n k q f = grind arith
  at_update (r ∷ rs) n k q f = grind (arith, nat_tests, numbered.same_or_not q n, numbered.same_or_not k n, eq-eqb q k, ne_eqb q k, at_update rs (suc n) k q f)

  -- who is in a list after an element has changed
  updated_at : (rs : List R) (n k q : ℕ) (f : R → R) (old r : R) → at n rs k ≡ Some old → at n (update n k f rs) q ≡ Some r → ((q ≡ k) × (r ≡ f old)) ⊎ ((q ≢ k) × (at n rs q ≡ Some r))
  updated_at rs n k q f old r h e = grind (arith, nat_tests, at_update rs n k q f, numbered.same_or_not q k)

  -- how many pass once an element is changed
  pub tally_update : (p : R → Bool) (rs : List R) (n k : ℕ) (f : R → R) (r : R) → at n rs k ≡ Some r → tally p (update n k f rs) + one (p r) ≡ tally p rs + one (p (f r))
  tally_update p rs n k f r h = ap (λ (xs : List R). tally p xs + one (p r)) (numbered.update_is rs n k f r h) ∙ numbered.tally-change p rs n k (f r) r h

  -- as many, if no change matters
  pub tally_same : (p : R → Bool) (f : R → R) → ((r : R) → p (f r) ≡ p r) → (rs : List R) (n k : ℕ) → tally p (update n k f rs) ≡ tally p rs
  tally_same p f same [] n k = refl
  tally_same p f same (r ∷ rs) n k = grind (arith, nat_tests, tally_same p f same rs (suc n) k)

-- how many standings pass once one is changed
pub changed_tally : {S : Type 0} (test : Option S → Bool) (f : Numbered S → Numbered S) (rs : List (Numbered S)) (n k : ℕ) (x : Numbered S) (o : Option S)
    → at n rs k ≡ Some x → x.standing ≡ o → tally (λ r. test r.standing) (update n k f rs) + one (test o) ≡ tally (λ r. test r.standing) rs + one (test (f x).standing)
changed_tally {S} test f rs n k x o h is = rw (← is) (tally_update (λ (r : Numbered S). test r.standing) rs n k f x h)

-- ---- the state of a get

-- the get in a state that passes
pub getting_is : (test : GetPlace → Bool) (o : Option Getting) → gets_stand test o ≡ true → (s : Getting) × (o ≡ Some s) × (test s.place ≡ true)
getting_is test o h = grind (arith, nat_tests)

-- it waits, notified or not
abbrev pub is_waiting : GetPlace → Bool
is_waiting Active = false
is_waiting (Waiting notified) = true
is_waiting (Holding k) = false

pub unnotified_place : (p : GetPlace) → is_unnotified p ≡ true → p ≡ Waiting false
unnotified_place p h = grind (arith, nat_tests)

-- who does not wait is neither unnotified nor notified
pub not_waiting : (o : Option Getting) → gets_stand is_waiting o ≡ false → (gets_stand is_unnotified o ≡ false) × (gets_stand is_notified o ≡ false)
not_waiting o off = grind (arith, nat_tests)

-- a get is counted once at most among those who wait
one_place : (p : GetPlace) → one (is_unnotified p) + one (is_notified p) ≤ 1
one_place p = grind (arith, nat_tests)

untold_place : (p : GetPlace) → is_notified p ≡ true → is_unnotified p ≡ false
untold_place p told = grind (arith, nat_tests)

-- those who wait are alive
pub waiters_few : (gs : List (Numbered Getting)) → tally_gets is_unnotified gs + tally_gets is_notified gs ≤ alive_of gs
waiters_few [] = omega arith
waiters_few (g ∷ gs) = grind (arith, nat_tests, waiters_few gs, one_place)

-- ---- how many wait, and how many are alive

-- a get that is alive is counted
pub alive_counted : (first g : ℕ) (gs : List (Numbered Getting)) (x : Numbered Getting) (s : Getting) → at first gs g ≡ Some x
    → x.standing ≡ Some s → alive_of (update first g after_end gs) + 1 ≡ alive_of gs
alive_counted first g gs x s h is = omega (arith, changed_tally is_some after_end gs first g x (Some s) h is)

-- a get that waits from a position on
abbrev pub waiter : ℕ → ℕ → Option Getting → Numbered Getting
waiter now position o = record { standing = option_map (get_in_wait now) o; position = position }

-- a get that was not unnotified begins to wait
pub begins_now : (now p : ℕ) (x : Numbered Getting) → gets_stand is_unnotified x.standing ≡ false → at_wait now p x ≡ waiter now p x.standing
begins_now now p x off = ap (λ (b : Bool). cond b x (waiter now p x.standing)) off

-- a get that was not notified waits on
pub waits_on_same : (first now p g : ℕ) (gs : List (Numbered Getting)) (x : Numbered Getting) → at first gs g ≡ Some x
    → gets_stand is_unnotified x.standing ≡ true → update first g (at_wait now p) gs ≡ gs
waits_on_same first now p g gs x h on = grind (arith, nat_tests, numbered.update_is gs first g (at_wait now p) x h, change_self gs first g x h)

pub begins_counted : (test : GetPlace → Bool) (first now p g : ℕ) (gs : List (Numbered Getting)) (x : Numbered Getting) (s : Getting)
    → at first gs g ≡ Some x → x.standing ≡ Some s → gets_stand is_unnotified x.standing ≡ false
    → tally_gets test (update first g (at_wait now p) gs) + one (test s.place) ≡ tally_gets test gs + one (test (Waiting false))
begins_counted test first now p g gs x s h is off = grind (arith, begins_now now p x off, changed_tally (gets_stand test) (at_wait now p) gs first g x (Some s) h is)

as_some : (f : Getting → Getting) (o : Option Getting) → is_some (option_map f o) ≡ is_some o
as_some f o = grind (arith, nat_tests)

pub begins_alive : (first now p g : ℕ) (gs : List (Numbered Getting)) → alive_of (update first g (at_wait now p) gs) ≡ alive_of gs
begins_alive first now p g gs = grind (arith, tally_same)

pub notify_length : (first : ℕ) (n : Option ℕ) (gs : List (Numbered Getting)) → length (with_notice first n gs) ≡ length gs
notify_length first n gs = grind (arith, nat_tests, numbered.length-update gs first)

pub notify_alive : (first : ℕ) (n : Option ℕ) (gs : List (Numbered Getting)) → alive_of (with_notice first n gs) ≡ alive_of gs
notify_alive first n gs = grind (arith, nat_tests, tally_same, as_some)

-- the first of the unnotified, if there is one, is notified
pub notify_counted : (first m : ℕ) (n : Option ℕ) (gs : List (Numbered Getting)) → Before unnotified_at m gs
    → n ≡ slice_get (in_order unnotified_at first gs m) 0
    → (tally_gets is_unnotified (with_notice first n gs) ≡ tally_gets is_unnotified gs - 1)
    × (tally_gets is_notified (with_notice first n gs) ≡ tally_gets is_notified gs + min 1 (tally_gets is_unnotified gs))
notify_counted first m None gs b is = grind (arith, numbered.line_counted (gets_stand is_unnotified) gs first m b, none_past (in_order unnotified_at first gs m) 0 (sym is))
notify_counted first m (Some g) gs b is =
    let t : (x : Numbered Getting) × (at first gs g ≡ Some x) × (p : ℕ) × (p < m) × (unnotified_at p x ≡ true) = numbered.in_order_member unnotified_at gs first m 0 g (sym is) in
    let s = getting_is is_unnotified t.0.standing (and_right (gets_stand is_unnotified t.0.standing) _ t.4).0 in
    let place : s.0.place ≡ Waiting false = unnotified_place s.0.place s.2 in
    let moved = λ (test : GetPlace → Bool). changed_tally (gets_stand test) (get_at_place (Waiting true)) gs first g t.0 (Some s.0) t.1 s.1 in
    let was = λ (test : GetPlace → Bool). ap (λ (p : GetPlace). one (test p)) place in
    let now = λ (test : GetPlace → Bool). ap (λ (o : Option Getting). one (gets_stand test (option_map (get_with_place (Waiting true)) o))) s.1 in
    let less : tally_gets is_unnotified (update first g (get_at_place (Waiting true)) gs) + 1 ≡ tally_gets is_unnotified gs =
    omega (arith, moved is_unnotified, was is_unnotified, now is_unnotified) in
    (omega arith, omega (arith, moved is_notified, was is_notified, now is_notified))

-- once a get that was not in the line has changed and is not in it, the line is the same
pub same_line : (first m g : ℕ) (f : Numbered Getting → Numbered Getting) (gs : List (Numbered Getting)) (x : Numbered Getting)
    → at first gs g ≡ Some x → gets_stand is_unnotified x.standing ≡ false → gets_stand is_unnotified (f x).standing ≡ false
    → in_order unnotified_at first (update first g f gs) m ≡ in_order unnotified_at first gs m
same_line first m g f gs x h off still = grind (arith, numbered.update_is gs first g f x h, numbered.in_order-change_kept)

-- ---- the order of those who wait

pub both_hold : (a b : Bool) → a ≡ true → b ≡ true → (a && b) ≡ true
both_hold a b e f = grind (arith, nat_tests)

both_false : (a b : Bool) → b ≡ false → (a && b) ≡ false
both_false a b f = grind (arith, nat_tests)

pub one_few : (b : Bool) → one b ≤ 1
one_few b = grind (arith, nat_tests)

-- a get that was notified waits since before this position, and one that was not since then at the
-- earliest
abbrev pub Keeps : ℕ → Numbered Getting → Type 0
Keeps turn a = (gets_stand is_notified a.standing ≡ true → a.position < turn) × (gets_stand is_unnotified a.standing ≡ true → turn ≤ a.position)

-- One position, no later than this one, parts the notified waiters from those that were not, of
-- which no two wait since the same.
pub record InLine (first p : ℕ) (gs : List (Numbered Getting)) : Type 0 where
  pub turn : ℕ
  pub turn_few : turn ≤ p
  pub keeps : (g : ℕ) (a : Numbered Getting) → at first gs g ≡ Some a → Keeps turn a
  pub apart : (q : ℕ) → tally (unnotified_at q) gs ≤ 1

pub line_later : (first p : ℕ) (gs : List (Numbered Getting)) → InLine first p gs → InLine first (suc p) gs
line_later first p gs i = record { turn = i.turn; turn_few = omega (arith, i.turn_few); keeps = i.keeps; apart = i.apart }

pub line_begun : (first p : ℕ) (gs : List (Numbered Getting)) → InLine first p gs → InLine first (suc p) (gs ++ new_get ∷ [])
line_begun first p gs i = record {
  turn = i.turn;
  turn_few = omega (arith, i.turn_few);
  keeps = λ g a e. pick g a (eqb g (first + length gs)) (sym (numbered.at-append gs new_get first g) ∙ e);
  apart = λ q. omega (arith, i.apart q, numbered.tally-append (unnotified_at q) gs new_get);
}
  where
    pick : (g : ℕ) (a : Numbered Getting) (b : Bool) → cond b (Some new_get) (at first gs g) ≡ Some a → Keeps i.turn a
    pick g a true e = let is : Some new_get ≡ Some a = e in let same : new_get ≡ a = cc in subst (Keeps i.turn) same (λ w. cc, λ w. cc)
    pick g a false e = i.keeps g a e

-- a get is changed, and the position that parts them may be another
line_changed : (first q turn g : ℕ) (f : Numbered Getting → Numbered Getting) (gs : List (Numbered Getting)) (x : Numbered Getting) → at first gs g ≡ Some x
    → turn ≤ q → Keeps turn (f x) → ((k : ℕ) (a : Numbered Getting) → k ≢ g → at first (update first g f gs) k ≡ Some a → at first gs k ≡ Some a → Keeps turn a)
    → ((r : ℕ) → tally (unnotified_at r) (update first g f gs) ≤ 1) → InLine first q (update first g f gs)
line_changed first q turn g f gs x h few new others apart = record {
  turn = turn;
  turn_few = few;
  keeps = λ k a e.
      elim (updated_at gs first g k f x a h e) [ inl t ↦ subst (Keeps turn) (sym t.1) new | inr t ↦ others k a t.0 e t.1 ];
  apart = apart;
}

-- a get is changed, and does not wait
pub line_left : (first p g : ℕ) (f : Numbered Getting → Numbered Getting) (gs : List (Numbered Getting)) (x : Numbered Getting)
    → at first gs g ≡ Some x → gets_stand is_waiting (f x).standing ≡ false → InLine first p gs → InLine first p (update first g f gs)
line_left first p g f gs x h off i =
    let no_told : gets_stand is_notified (f x).standing ≡ false = (not_waiting (f x).standing off).1 in
    let no_untold : gets_stand is_unnotified (f x).standing ≡ false = (not_waiting (f x).standing off).0 in
    line_changed first p i.turn g f gs x h i.turn_few
    (λ w. absurd (let clash : false ≡ true = sym no_told ∙ w in cc), λ w. absurd (let clash : false ≡ true = sym no_untold ∙ w in cc))
    (λ k a other now e. i.keeps k a e)
    (λ r. omega (arith, i.apart r, tally_update (unnotified_at r) gs first g f x h, ap (λ (b : Bool). one (b && eqb (f x).position r)) no_untold))

-- a get comes into line last
pub line_begins : (first now p g : ℕ) (gs : List (Numbered Getting)) (x : Numbered Getting) (s : Getting) → at first gs g ≡ Some x
    → x.standing ≡ Some s → gets_stand is_unnotified x.standing ≡ false → Before unnotified_at p gs → InLine first p gs
    → InLine first (suc p) (update first g (at_wait now p) gs)
line_begins first now p g gs x s h is off before i =
    let same : at_wait now p x ≡ waiter now p x.standing = begins_now now p x off in
    let last : (at_wait now p x).position ≡ p = ap (λ (z : Numbered Getting). z.position) same in
    let no_told : gets_stand is_notified (at_wait now p x).standing ≡ false =
    ap (λ (z : Numbered Getting). gets_stand is_notified z.standing) same
    ∙ ap (λ (o : Option Getting). gets_stand is_notified (option_map (get_in_wait now) o)) is in
    line_changed first (suc p) i.turn g (at_wait now p) gs x h (omega (arith, i.turn_few))
    (λ w. absurd (let clash : false ≡ true = sym no_told ∙ w in cc), λ w. omega (arith, i.turn_few))
    (λ k a other now_is e. i.keeps k a e)
    (λ r. apart r last (numbered.same_or_not p r))
  where
    apart : (r : ℕ) → (at_wait now p x).position ≡ p → ((eqb p r ≡ true) × (p ≡ r)) ⊎ ((eqb p r ≡ false) × (p ≢ r)) → tally (unnotified_at r) (update first g (at_wait now p) gs) ≤ 1
    apart r last (inl t) =
        let none : tally (unnotified_at p) gs ≡ 0 = sym (numbered.length-numbers (unnotified_at p) gs first) ∙ ap (λ (ks : List ℕ). length ks) (numbered.none_at unnotified_at gs first p before) in
        omega (arith, tally_update (unnotified_at r) gs first g (at_wait now p) x h, ap (λ (q : ℕ). tally (unnotified_at q) gs) t.1, one_few (unnotified_at r (at_wait now p x)))
    apart r last (inr t) = grind (arith, nat_tests, both_false, tally_update (unnotified_at r) gs first g (at_wait now p) x)

-- the first of the unnotified is notified where it is
pub line_notified : (first p : ℕ) (n : Option ℕ) (gs : List (Numbered Getting)) → n ≡ slice_get (in_order unnotified_at first gs p) 0 → InLine first p gs → InLine first p (with_notice first n gs)
line_notified first p None gs is i = i
line_notified first p (Some g) gs is i =
    let t = in_order_least unnotified_at gs first p g (sym is) in
    let on : (gets_stand is_unnotified t.0.standing ≡ true) × (eqb t.0.position t.2 ≡ true) = and_right (gets_stand is_unnotified t.0.standing) _ t.4 in
    let here : t.0.position ≡ t.2 = numbered.tested t.0.position t.2 on.1 in
    let s = getting_is is_unnotified t.0.standing on.0 in
    let no_untold : gets_stand is_unnotified (get_at_place (Waiting true) t.0).standing ≡ false =
    ap (λ (o : Option Getting). gets_stand is_unnotified (option_map (get_with_place (Waiting true)) o)) s.1 in
    let less : (r : ℕ) → tally (unnotified_at r) (update first g (get_at_place (Waiting true)) gs) + one (unnotified_at r t.0) ≡ tally (unnotified_at r) gs = λ r.
    omega (arith, tally_update (unnotified_at r) gs first g (get_at_place (Waiting true)) t.0 t.1, ap (λ (b : Bool). one (b && eqb t.0.position r)) no_untold) in
    line_changed first p (suc t.2) g (get_at_place (Waiting true)) gs t.0 t.1 (omega (arith, t.3))
    (λ w. omega arith, λ w. absurd (let clash : false ≡ true = sym no_untold ∙ w in cc))
    (λ k a other now e. (
      λ w. omega (arith, (i.keeps k a e).0 w, (i.keeps g t.0 t.1).1 on.0),
      λ w.
          let at_own : unnotified_at a.position a ≡ true = both_hold (gets_stand is_unnotified a.standing) (eqb a.position a.position) w (numbered.eqb_self a.position) in
          let not_below : a.position < t.2 → ⊥ = λ l. in_order_some unnotified_at gs first t.2 k a.position a e at_own l t.5 in
          let not_there : a.position ≢ t.2 = λ same. omega (
            arith,
            some_tally (unnotified_at t.2) _ first k a now (subst (λ (q : ℕ). unnotified_at q a ≡ true) same at_own),
            less t.2,
            i.apart t.2,
            ap one t.4,
          ) in
          omega (arith, not_below, not_there),
    ))
    (λ r. omega (arith, i.apart r, less r))

-- a get that ends hands its notification on, where it was notified
pub handed : (first m g : ℕ) (n : Option ℕ) (gs : List (Numbered Getting)) (x : Numbered Getting) (s : Getting) → at first gs g ≡ Some x
    → x.standing ≡ Some s → n ≡ cond (is_notified s.place) (slice_get (in_order unnotified_at first gs m) 0) None
    → n ≡ cond (is_notified s.place) (slice_get (in_order unnotified_at first (update first g after_end gs) m) 0) None
handed first m g n gs x s h is who = grind (arith, nat_tests, same_line first m g after_end gs x h, untold_place s.place)

pub line_given_up : (first p g : ℕ) (n : Option ℕ) (gs : List (Numbered Getting)) (x : Numbered Getting) (s : Getting)
    → at first gs g ≡ Some x → x.standing ≡ Some s → n ≡ cond (is_notified s.place) (slice_get (in_order unnotified_at first gs p) 0) None → InLine first p gs
    → InLine first p (with_notice first n (update first g after_end gs))
line_given_up first p g n gs x s h is who i = grind (arith, nat_tests, handed first p g n gs x s h is, line_left first p g after_end gs x h refl, line_notified)

-- how many wait once a get has given up: one unnotified less at most, or one notification passed on
abbrev pub IsGivenUp : (u n u' n' : ℕ) → Type 0
IsGivenUp u n u' n' = ((u' ≤ u) × (n' ≡ n)) ⊎ ((u' ≡ u - 1) × (n' + 1 ≡ n + min 1 u))

pub given_up_counted : (first m g : ℕ) (n : Option ℕ) (gs : List (Numbered Getting)) (x : Numbered Getting) (s : Getting)
    → at first gs g ≡ Some x → x.standing ≡ Some s → n ≡ cond (is_notified s.place) (slice_get (in_order unnotified_at first gs m) 0) None
    → Before unnotified_at m gs
    → IsGivenUp (tally_gets is_unnotified gs) (tally_gets is_notified gs)
    (tally_gets is_unnotified (with_notice first n (update first g after_end gs)))
    (tally_gets is_notified (with_notice first n (update first g after_end gs)))
given_up_counted first m g n gs x s h is who b = grind (
  arith,
  nat_tests,
  handed first m g n gs x s h is who,
  changed_tally (gets_stand is_unnotified) after_end gs first g x (Some s) h is,
  changed_tally (gets_stand is_notified) after_end gs first g x (Some s) h is,
  notify_counted first m n (update first g after_end gs),
  numbered.ended_before (gets_stand is_unnotified) gs first g m refl b,
  untold_place,
)
