-- Laws of links that spell a list of places.
use Rattle.bb8_tables.proofs.Words.{◌≡◌, ◌≢◌, ◌⊎◌, ℕ, zero, suc, ◌+◌, ◌-◌, ◌<◌, ◌≤◌, false, eqb, List, [], ◌∷◌, ◌++◌, length, slice_get, Some, None, refl, sym, ap, ◌∙◌, inl, inr, arith, subst, ne_eqb, eqb_tells, Absent, walk, LinksLead, Spells, Joins, without, nat_tests}

-- ---- lists of places

pub absent_push : (p q : ℕ) (xs : List ℕ) → Absent p (xs ++ q ∷ []) → Absent p xs × (q ≢ p)
absent_push p q [] a = (tt, a.0)
absent_push p q (x ∷ xs) a = let r = absent_push p q xs a.1 in ((a.0, r.0), r.1)

pub push_absent : (p q : ℕ) (xs : List ℕ) → Absent p xs → q ≢ p → Absent p (xs ++ q ∷ [])
push_absent p q [] a n = (n, tt)
push_absent p q (x ∷ xs) a n = (a.0, push_absent p q xs a.1 n)

-- a place that is not there leaves the list as it is
pub without_absent : (p : ℕ) (xs : List ℕ) → Absent p xs → without p xs ≡ xs
without_absent p [] a = refl
without_absent p (x ∷ xs) a = let e : eqb x p ≡ false = ne_eqb x p a.0 in rw e (ap (λ (r : List ℕ). x ∷ r) (without_absent p xs a.1))

-- what holds of a list without p, by whether its first place is p
pub without_cases : (P : List ℕ → Type 0) (p x : ℕ) (xs : List ℕ) → (x ≡ p → P (without p xs)) → (x ≢ p → P (x ∷ without p xs)) → P (without p (x ∷ xs))
without_cases P p x xs same other = grind (arith, eqb_tells x p)

-- what is not in the list without p is p, or wasn't there
pub absent_without : (p q : ℕ) (xs : List ℕ) → q ≢ p → Absent q (without p xs) → Absent q xs
absent_without p q [] n = λ a. tt
absent_without p q (x ∷ xs) n = grind (arith, nat_tests, without_cases, absent_without p q xs n)

pub without_keeps_absent : (p q : ℕ) (xs : List ℕ) → Absent q xs → Absent q (without p xs)
without_keeps_absent p q [] a = tt
without_keeps_absent p q (x ∷ xs) a = without_cases (Absent q) p x xs (λ s. without_keeps_absent p q xs a.1) (λ s. (a.0, without_keeps_absent p q xs a.1))

pub absent_without_self : (p : ℕ) (xs : List ℕ) → Absent p (without p xs)
absent_without_self p [] = tt
absent_without_self p (x ∷ xs) = without_cases (Absent p) p x xs (λ s. absent_without_self p xs) (λ s. (s, absent_without_self p xs))

-- what is in no part of a list is not in its later part
pub absent_part : (p : ℕ) (xs ys : List ℕ) → Absent p (xs ++ ys) → Absent p ys
absent_part p [] ys a = a
absent_part p (x ∷ xs) ys a = absent_part p xs ys a.1

-- a place at an index is not absent
pub absent_get : (p j : ℕ) (xs : List ℕ) → Absent p xs → slice_get xs j ≡ Some p → ⊥
absent_get p j [] a e = cc
absent_get p zero (x ∷ xs) a e = a.0 (cc)
absent_get p (suc j) (x ∷ xs) a e = absent_get p j xs a.1 e

-- ---- different places, below a bound

abbrev pub Distinct : List ℕ → Type 0
Distinct [] = Unit {0}
Distinct (x ∷ xs) = Absent x xs × Distinct xs

abbrev pub Below : ℕ → List ℕ → Type 0
Below n [] = Unit {0}
Below n (x ∷ xs) = (x < n) × Below n xs

distinct_without : (p : ℕ) (xs : List ℕ) → Distinct xs → Distinct (without p xs)
distinct_without p [] d = tt
distinct_without p (x ∷ xs) d = without_cases Distinct p x xs (λ s. distinct_without p xs d.1) (λ s. (without_keeps_absent p x xs d.0, distinct_without p xs d.1))

below_without : (n : ℕ) (xs : List ℕ) → Below (suc n) xs → Below n (without n xs)
below_without n [] b = tt
below_without n (x ∷ xs) b = without_cases (Below n) n x xs (λ s. below_without n xs b.1) (λ s. (omega (arith, b.0), below_without n xs b.1))

one_fewer : (p : ℕ) (xs : List ℕ) → Distinct xs → length xs ≤ length (without p xs) + 1
one_fewer p [] d = omega arith
one_fewer p (x ∷ xs) d = grind (arith, nat_tests, without_cases, without_absent p xs, one_fewer p xs d.1)

-- they are no more than the bound says
pub few_below : (n : ℕ) (xs : List ℕ) → Distinct xs → Below n xs → length xs ≤ n
few_below zero [] d b = omega arith
few_below zero (x ∷ xs) d b = absurd (omega (arith, b.0))
few_below (suc n) xs d b = omega (arith, few_below n (without n xs) (distinct_without n xs d) (below_without n xs b), one_fewer n xs d)

-- ---- the walk along the links gives the list

walk_leads : (after before : ℕ → ℕ) (a z : ℕ) (xs : List ℕ) → LinksLead after before a xs z → walk after (length xs) (after a) ≡ xs
walk_leads after before a z [] l = refl
walk_leads after before a z (x ∷ xs) l = grind (arith, nat_tests, walk_leads after before x z xs l.2)

pub length-walk : (after : ℕ → ℕ) (n a : ℕ) → length (walk after n a) ≡ n
length-walk after zero a = refl
length-walk after (suc n) a = ap suc (length-walk after n (after a))

-- ---- what the links say of a place

module _ (after before : ℕ → ℕ) (z : ℕ) where
  -- the links lead back from z to what leads to z
  pub last_leads : (a : ℕ) (xs : List ℕ) → LinksLead after before a xs z → after (before z) ≡ z
  last_leads a [] l = cc
  last_leads a (x ∷ xs) l = last_leads x xs l.2

  -- no place is there twice
  not_again : (c y x : ℕ) (ys : List ℕ) → LinksLead after before y ys z → before x ≡ c → y ≢ c → Absent c ys → Absent x ys
  not_again c y x [] l e n a = tt
  not_again c y x (u ∷ us) l e n a = grind (arith, nat_tests, not_again c u x us l.2 e a.0 a.1)

  rest_absent : (c x : ℕ) (xs : List ℕ) → LinksLead after before c (x ∷ xs) z → Absent c (x ∷ xs) → Absent x xs
  rest_absent c x xs l a = not_again c x x xs l.2 l.1 a.0 a.1

  distinct : (c : ℕ) (xs : List ℕ) → LinksLead after before c xs z → Absent c xs → Distinct xs
  distinct c [] l a = tt
  distinct c (x ∷ xs) l a = let rest : Absent x xs = rest_absent c x xs l a in (rest, distinct x xs l.2 rest)

  -- what holds of a place in the list
  pub record IsMember (p : ℕ) (xs : List ℕ) : Type 0 where
    pub back : after (before p) ≡ p
    pub forth : before (after p) ≡ p
    pub moves : after p ≢ p
    pub fewer : length (without p xs) + 1 ≡ length xs

  member_or_not : (p c : ℕ) (xs : List ℕ) → LinksLead after before c xs z → Absent c xs → z ≢ p → Absent p xs ⊎ IsMember p xs
  member_or_not p c [] l a n = inl tt
  member_or_not p c (x ∷ xs) l a n =
      let rest : Absent x xs = rest_absent c x xs l a in
      elim (eqb_tells x p) [
        | inl t ↦ inr (record {
          back = (let e : after c ≡ x = l.0 in let f : before x ≡ c = l.1 in let g : x ≡ p = t.1 in cc);
          forth = ahead xs t.1 l.2;
          moves = moved xs t.1 l.2 rest;
          fewer = (let e : without p xs ≡ xs = without_absent p xs (subst (λ (q : ℕ). Absent q xs) t.1 rest) in rw (t.0, e) (omega arith));
        })
        | inr t ↦ elim (member_or_not p x xs l.2 rest n) [
          | inl h ↦ inl (t.1, h)
          | inr m ↦ inr (record { back = m.back; forth = m.forth; moves = m.moves; fewer = rw t.0 (omega (arith, m.fewer)) })
        ]
      ]
    where
      ahead : (ys : List ℕ) → x ≡ p → LinksLead after before x ys z → before (after p) ≡ p
      ahead [] e l = let a : after x ≡ z = l.0 in let b : before z ≡ x = l.1 in cc
      ahead (y ∷ ys) e l = let a : after x ≡ y = l.0 in let b : before y ≡ x = l.1 in cc

      moved : (ys : List ℕ) → x ≡ p → LinksLead after before x ys z → Absent x ys → after p ≢ p
      moved [] e l a s = let f : after x ≡ z = l.0 in n (sym f ∙ ap after e ∙ s)
      moved (y ∷ ys) e l a s = let f : after x ≡ y = l.0 in a.0 (sym f ∙ ap after e ∙ s ∙ sym e)

-- ---- a place comes to the new end

module _ (af be af1 be1 af2 be2 : ℕ → ℕ) (z p : ℕ) (j1 : Joins af be af1 be1 (be z) p) (j2 : Joins af1 be1 af2 be2 p z) (apart : p ≢ z) where
  push_leads : (c : ℕ) (xs : List ℕ) → LinksLead af be c xs z → c ≢ p → Absent p xs → Absent z xs → LinksLead af2 be2 c (xs ++ p ∷ []) z
  push_leads c [] l n a b = grind arith
  push_leads c (x ∷ xs) l n a b = grind (arith, nat_tests, last_leads af be z c (x ∷ xs) l, push_leads x xs l.2 a.0 a.1 b.1)

  pub pushed : (xs : List ℕ) → Spells af be z xs → Absent p xs → Spells af2 be2 z (xs ++ p ∷ [])
  pushed xs s a = grind (arith, nat_tests, push_leads z xs s.leads, push_absent z p xs s.apart apart, absent_push, last_leads af be z z xs s.leads)

-- ---- a place goes, wherever it is

module _ (af be af1 be1 af2 be2 : ℕ → ℕ) (z p : ℕ) (j1 : Joins af be af1 be1 (be p) (af p)) (j2 : Joins af1 be1 af2 be2 p p) (apart : p ≢ z)
    (back : af (be p) ≡ p) (forth : be (af p) ≡ p) where
  after_kept : (i : ℕ) → i ≢ p → af i ≢ p → af2 i ≡ af i
  after_kept i n m = j2.after_others i n ∙ j1.after_others i (λ e. m (ap af e ∙ back))

  before_kept : (i : ℕ) → i ≢ p → be i ≢ p → be2 i ≡ be i
  before_kept i n m = j2.before_others i n ∙ j1.before_others i (λ e. m (ap be e ∙ forth))

  kept_leads : (c : ℕ) (xs : List ℕ) → LinksLead af be c xs z → c ≢ p → Absent p xs → LinksLead af2 be2 c xs z
  kept_leads c [] l n a = (after_kept c n (λ e. apart (sym e ∙ l.0)) ∙ l.0, before_kept z (λ e. apart (sym e)) (λ e. n (sym l.1 ∙ e)) ∙ l.1)
  kept_leads c (x ∷ xs) l n a = (after_kept c n (λ e. a.0 (sym l.0 ∙ e)) ∙ l.0, before_kept x a.0 (λ e. n (sym l.1 ∙ e)) ∙ l.1, kept_leads x xs l.2 a.0 a.1)

  bridged_leads : (c : ℕ) (xs : List ℕ) → LinksLead af be p xs z → be p ≡ c → c ≢ p → Absent p xs → LinksLead af2 be2 c xs z
  bridged_leads c [] l e n a = grind arith
  bridged_leads c (x ∷ xs) l e n a = grind (arith, kept_leads x xs l.2 a.0 a.1)

  remove_leads : (c : ℕ) (xs : List ℕ) → LinksLead af be c xs z → Absent c xs → c ≢ p → LinksLead af2 be2 c (without p xs) z
  remove_leads c [] l a n = kept_leads c [] l n tt
  remove_leads c (x ∷ xs) l a n =
      let rest : Absent x xs = rest_absent af be z c x xs l a in
      without_cases (λ (ys : List ℕ). LinksLead af2 be2 c ys z) p x xs
      (λ s. let absent : Absent p xs = subst (λ (q : ℕ). Absent q xs) s rest in
      rw (without_absent p xs absent) (bridged_leads c xs (subst (λ (q : ℕ). LinksLead af be q xs z) s l.2) (ap be (sym s) ∙ l.1) n absent))
      (λ s. (after_kept c n (λ e. s (sym l.0 ∙ e)) ∙ l.0, before_kept x s (λ e. n (sym l.1 ∙ e)) ∙ l.1, remove_leads x xs l.2 rest s))

  pub removed : (xs : List ℕ) → Spells af be z xs → Spells af2 be2 z (without p xs)
  removed xs s = record {
    leads = remove_leads z xs s.leads s.apart (λ e. apart (sym e));
    apart = without_keeps_absent p z xs s.apart;
    alone = λ q other b.
        elim (eqb_tells q p) [
          | inl t ↦ (subst (λ (i : ℕ). af2 i ≡ i) (sym t.1) j2.after_is, subst (λ (i : ℕ). be2 i ≡ i) (sym t.1) j2.before_is)
          | inr t ↦ let was = s.alone q other (absent_without p q xs t.1 b) in
              (after_kept q t.1 (λ e. t.1 (sym was.0 ∙ e)) ∙ was.0, before_kept q t.1 (λ e. t.1 (sym was.1 ∙ e)) ∙ was.1)
        ];
  }

-- ---- the ends, and who is there

module _ (af be : ℕ → ℕ) (z : ℕ) where
  last_from : (c x : ℕ) (xs : List ℕ) → LinksLead af be c (x ∷ xs) z → slice_get (x ∷ xs) (length xs) ≡ Some (be z)
  last_from c x [] l = let e : be z ≡ x = l.2.1 in ap (λ (q : ℕ). Some q) (sym e)
  last_from c x (y ∷ ys) l = last_from x y ys l.2

  pub first_is : (xs : List ℕ) → Spells af be z xs → 0 < length xs → slice_get xs 0 ≡ Some (af z)
  first_is [] s h = absurd (omega arith)
  first_is (x ∷ xs) s h = let e : af z ≡ x = s.leads.0 in ap (λ (q : ℕ). Some q) (sym e)

  pub last_is : (xs : List ℕ) → Spells af be z xs → 0 < length xs → slice_get xs (length xs - 1) ≡ Some (be z)
  last_is [] s h = absurd (omega arith)
  last_is (x ∷ xs) s h = rw (let n : length (x ∷ xs) - 1 ≡ length xs = omega arith in n) (last_from z x xs s.leads)

  from_here : (c p : ℕ) (passed rest : List ℕ) → LinksLead af be c (passed ++ p ∷ rest) z → LinksLead af be p rest z
  from_here c p [] rest l = l.2
  from_here c p (x ∷ passed) rest l = from_here x p passed rest l.2

  -- the place after one is the end where it is the last, and else the next one
  pub next_none : (p : ℕ) (passed rest : List ℕ) → Spells af be z (passed ++ p ∷ rest) → af p ≡ z → None ≡ slice_get rest 0
  next_none p passed [] s e = refl
  next_none p passed (r ∷ rest) s e = grind (arith, absent_part z passed (p ∷ r ∷ rest) s.apart, from_here z p passed (r ∷ rest) s.leads)

  pub next_some : (p : ℕ) (passed rest : List ℕ) → Spells af be z (passed ++ p ∷ rest) → af p ≢ z → Some (af p) ≡ slice_get rest 0
  next_some p passed [] s n = absurd (n (from_here z p passed [] s.leads).0)
  next_some p passed (r ∷ rest) s n = ap (λ (q : ℕ). Some q) (from_here z p passed (r ∷ rest) s.leads).0

  module _ (xs : List ℕ) (s : Spells af be z xs) where
    -- the list that the links spell is what a walk over so many places gives
    pub walked : (len : ℕ) → length xs ≡ len → walk af len (af z) ≡ xs
    walked len e = ap (λ (k : ℕ). walk af k (af z)) (sym e) ∙ walk_leads af be z z xs s.leads

    pub is_absent : (p : ℕ) → p ≢ z → af p ≡ p → Absent p xs
    is_absent p n e = elim (member_or_not af be z p z xs s.leads s.apart (λ h. n (sym h))) [ inl a ↦ a | inr m ↦ absurd (m.moves e) ]

    pub is_member : (p : ℕ) → p ≢ z → af p ≢ p → IsMember af be z p xs
    is_member p n e = elim (member_or_not af be z p z xs s.leads s.apart (λ h. n (sym h))) [ inl a ↦ absurd (e (s.alone p n a).0) | inr m ↦ m ]

    pub member_at : (p j : ℕ) → slice_get xs j ≡ Some p → IsMember af be z p xs
    member_at p j e = elim (member_or_not af be z p z xs s.leads s.apart (λ h. absent_get z j xs s.apart (e ∙ ap (λ (q : ℕ). Some q) (sym h)))) [ inl a ↦ absurd (absent_get p j xs a e) | inr m ↦ m ]

  -- where only places below a bound lead elsewhere, no more are in the list
  pub spelled_few : (n : ℕ) (xs : List ℕ) → Spells af be z xs → ((p : ℕ) → af p ≢ p → p < n) → length xs ≤ n
  spelled_few n xs s inside = few_below n xs (distinct af be z z xs s.leads s.apart) (go z xs s.leads s.apart s.apart)
    where
      go : (c : ℕ) (ys : List ℕ) → LinksLead af be c ys z → Absent c ys → Absent z ys → Below n ys
      go c [] l a b = tt
      go c (y ∷ ys) l a b = let rest : Absent y ys = rest_absent af be z c y ys l a in (inside y (λ e. moved y ys l.2 rest b.0 e), go y ys l.2 rest b.1)
        where
          moved : (x : ℕ) (us : List ℕ) → LinksLead af be x us z → Absent x us → x ≢ z → af x ≡ x → ⊥
          moved x [] l r n e = n (sym e ∙ l.0)
          moved x (u ∷ us) l r n e = r.0 (sym l.0 ∙ e)
