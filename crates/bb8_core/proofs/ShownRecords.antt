-- What each change of the records does to what is shown of them.
use Rattle.std.proofs.lemmas.Bool.Decides.{nat_tests}
use Rattle.bb8_core.proofs.Words.{◌≡◌, ℕ, zero, suc, ◌+◌, ◌-◌, ◌<◌, ◌≤◌, Bool, true, false, eqb, ◌&&◌, List, [], ◌∷◌, ◌++◌, Some, slice_get, drop, option_map, refl, sym, ap, ◌∙◌, arith, length, length-append, append-nil, not, insert, get, Place, Unclaimed, Claimed, Idle, Guarded, Standing, Numbered, at, update, numbers, one, standings, standing_at, after_end, stands, is_conn, is_approval, is_unclaimed, is_idle, is_out, with_place, comes_from, idle_at, conns_of, approved_of, at_place, approval, with_approvals, entry, RecordsView, no_records, shown_records, change, Before, and_right, idle_from, unclaimed_from, conn_from, approval_from, standing_is, unclaimed_is, idle_is, tested, conns-change, approved-change, same_records, in_order}
use Rattle.bb8_tables.specs.Machine as machine
use Rattle.bb8_types.proofs.Numbered as numbered

head_gone : (k : ℕ) (xs ys : List ℕ) → slice_get xs 0 ≡ Some k → ((rest : List ℕ) → xs ≡ k ∷ rest → ys ≡ rest) → ys ≡ drop 1 xs
head_gone k xs ys e f = grind (arith, nat_tests)

module _ {C : Type 0} where
  not_idle : (r : Numbered (Standing C)) → stands is_idle r.standing ≡ false → (q : ℕ) → idle_at q r ≡ false
  not_idle r e q = ap (λ (b : Bool). b && eqb r.position q) e

  -- ---- one record is changed

  -- a record is put into another place
  places-put : (first : ℕ) (rs : List (Numbered (Standing C))) (k : ℕ) (p : Place C) (r : Numbered (Standing C)) (s : Standing C)
      → at first rs k ≡ Some r → r.standing ≡ Some s
      → standings first (change first k (at_place p r) rs) ≡ insert (standings first rs) k
      (machine.standing_at p (get (standings first rs) k))
  places-put first rs k p r s h e = grind (arith, nat_tests, numbered.numbered-change_some, numbered.get-numbered)

  -- One record changes: the sizes follow from what it was and what it is, and the rest is given.
  pub shown-changed : {t : RecordsView C} (first p top k : ℕ) (rs : List (Numbered (Standing C))) (new r : Numbered (Standing C)) (a b c d : Bool)
      → at first rs k ≡ Some r → stands is_conn r.standing ≡ a → stands is_conn new.standing ≡ b
      → stands is_approval r.standing ≡ c → stands is_approval new.standing ≡ d
      → first + length rs ≡ t.next → standings first (change first k new rs) ≡ t.places → in_order idle_at first (change first k new rs) p ≡ t.idle
      → numbers (λ x. stands is_unclaimed x.standing) first (change first k new rs) ≡ t.unclaimed
      → ((n : ℕ) → n + one a ≡ conns_of rs + one b → n ≡ t.conns) → ((n : ℕ) → n + one c ≡ approved_of rs + one d → n ≡ t.approved)
      → top ≡ t.peak → shown_records first p top (change first k new rs) ≡ t
  shown-changed first p top k rs new r a b c d h was_conn conn was_approval approval next places idle unclaimed conns approved peak =
      same_records _ _ (ap (λ (n : ℕ). first + n) (numbered.length-change rs first k new) ∙ next) places idle unclaimed
      (conns _ (conns-change first rs k new r a b h was_conn conn)) (approved _ (approved-change first rs k new r c d h was_approval approval)) peak

  module _ (first p top : ℕ) (rs : List (Numbered (Standing C))) where
    abbrev before : RecordsView C
    before = shown_records first p top rs

    -- an event at which nobody enters
    pub shown-later : Before idle_at p rs → shown_records first (suc p) top rs ≡ before
    shown-later b = same_records _ _ refl refl (numbered.in_order-later idle_at rs first p b) refl refl refl refl

    pub shown-claimed : (k : ℕ) → slice_get before.unclaimed 0 ≡ Some k → shown_records first p top (update first k (at_place Claimed) rs) ≡ machine.after_claim k before
    shown-claimed k h =
        let m : (r : Numbered (Standing C)) × (at first rs k ≡ Some r) × (stands is_unclaimed r.standing ≡ true) = numbered.numbers_member (λ r. stands is_unclaimed r.standing) rs first 0 k h in
        let r : Numbered (Standing C) = m.0 in
        let was = standing_is is_unclaimed r.standing m.2 in
        let place : was.0.place ≡ Unclaimed = unclaimed_is was.0.place was.2 in
        let new : Numbered (Standing C) = at_place Claimed r in
        let is : new.standing ≡ Some (with_place Claimed was.0) = ap (option_map (with_place Claimed)) was.1 in
        ap (shown_records first p top) (numbered.update_is rs first k (at_place Claimed) r m.1)
        ∙ shown-changed first p top k rs new r false false true true m.1 (tested is_conn r was.0 Unclaimed was.1 place) (ap (stands is_conn) is)
        (tested is_approval r was.0 Unclaimed was.1 place) (ap (stands is_approval) is) refl
        (places-put first rs k Claimed r was.0 m.1 was.1)
        (numbered.in_order-change_kept idle_at rs first k new r m.1 p (λ q l. not_idle new (ap (stands is_idle) is) q ∙ sym (not_idle r (tested is_idle r was.0 Unclaimed was.1 place) q)))
        (head_gone k before.unclaimed _ h (λ rest e. numbered.numbers-change_head (λ x. stands is_unclaimed x.standing) rs first k rest new e (ap (stands is_unclaimed) is)))
        (λ n e. omega arith) (λ n e. omega arith) refl

    -- an idle connection goes out
    pub shown-taken : (out : Place C) (k j : ℕ) → is_idle out ≡ false → is_unclaimed out ≡ false → is_conn out ≡ true
        → slice_get before.idle j ≡ Some k → shown_records first p top (update first k (at_place out) rs) ≡ machine.after_take out k before
    shown-taken out k j not_idle_now not_unclaimed_now conn_now h =
        let m : (r : Numbered (Standing C)) × (at first rs k ≡ Some r) × (q : ℕ) × (q < p) × (idle_at q r ≡ true) = numbered.in_order_member idle_at rs first p j k h in
        let r : Numbered (Standing C) = m.0 in
        let was = standing_is is_idle r.standing (and_right (stands is_idle r.standing) _ m.4).0 in
        let place = idle_is was.0.place was.2 in
        let new : Numbered (Standing C) = at_place out r in
        let is : new.standing ≡ Some (with_place out was.0) = ap (option_map (with_place out)) was.1 in
        ap (shown_records first p top) (numbered.update_is rs first k (at_place out) r m.1)
        ∙ shown-changed first p top k rs new r true true false false m.1 (tested is_conn r was.0 (Idle place.0) was.1 place.1) (ap (stands is_conn) is ∙ conn_now)
        (tested is_approval r was.0 (Idle place.0) was.1 place.1) (ap (stands is_approval) is ∙ ap not conn_now) refl
        (places-put first rs k out r was.0 m.1 was.1)
        (numbered.in_order-change_off idle_at rs first k new (not_idle new (ap (stands is_idle) is ∙ not_idle_now)) p)
        (numbered.numbers-change_kept (λ x. stands is_unclaimed x.standing) rs first k new r m.1
        (ap (stands is_unclaimed) is ∙ not_unclaimed_now ∙ sym (tested is_unclaimed r was.0 (Idle place.0) was.1 place.1)))
        (λ n e. omega arith) (λ n e. omega arith) refl

    -- a guard takes over a connection that is out
    pub shown-handed : (k : ℕ) (s : Standing C) → standing_at first rs k ≡ Some s → is_out s.place ≡ true
        → shown_records first p top (update first k (at_place Guarded) rs) ≡ machine.after_handover k before
    shown-handed k s h out_now =
        let m = numbered.standing_found rs first k s h in
        let r : Numbered (Standing C) = m.0 in
        let new : Numbered (Standing C) = at_place Guarded r in
        let is : new.standing ≡ Some (with_place Guarded s) = ap (option_map (with_place Guarded)) m.2 in
        let test : (t : Place C → Bool) (x : Bool) → t s.place ≡ x → stands t r.standing ≡ x = λ t x e. tested t r s s.place m.2 refl ∙ e in
        ap (shown_records first p top) (numbered.update_is rs first k (at_place Guarded) r m.1)
        ∙ shown-changed first p top k rs new r true true false false m.1 (test is_conn true (conn_from false s.place out_now)) (ap (stands is_conn) is)
        (test is_approval false (approval_from false s.place out_now)) (ap (stands is_approval) is) refl
        (places-put first rs k Guarded r s m.1 m.2)
        (numbered.in_order-change_kept idle_at rs first k new r m.1 p (λ q l. not_idle new (ap (stands is_idle) is) q ∙ sym (not_idle r (test is_idle false (idle_from false s.place out_now)) q)))
        (numbered.numbers-change_kept (λ x. stands is_unclaimed x.standing) rs first k new r m.1
        (ap (stands is_unclaimed) is ∙ sym (test is_unclaimed false (unclaimed_from false s.place out_now))))
        (λ n e. omega arith) (λ n e. omega arith) refl

    -- a claimed approval, or a connection that was out, ends
    pub shown-closed : (opening : Bool) (k : ℕ) (s : Standing C) → standing_at first rs k ≡ Some s → comes_from opening s.place ≡ true
        → shown_records first p top (update first k after_end rs) ≡ machine.after_close opening k before
    shown-closed opening k s h place =
        let m = numbered.standing_found rs first k s h in
        let r : Numbered (Standing C) = m.0 in
        let new : Numbered (Standing C) = after_end r in
        let test : (t : Place C → Bool) (x : Bool) → t s.place ≡ x → stands t r.standing ≡ x = λ t x e. tested t r s s.place m.2 refl ∙ e in
        ap (shown_records first p top) (numbered.update_is rs first k after_end r m.1)
        ∙ shown-changed first p top k rs new r (not opening) false opening false m.1 (test is_conn (not opening) (conn_from opening s.place place)) refl
        (test is_approval opening (approval_from opening s.place place)) refl refl
        (numbered.numbered-change_none (λ (x : Numbered (Standing C)). x.standing) rs first k new r m.1 refl)
        (numbered.in_order-change_kept idle_at rs first k new r m.1 p (λ q l. sym (not_idle r (test is_idle false (idle_from opening s.place place)) q)))
        (numbered.numbers-change_kept (λ x. stands is_unclaimed x.standing) rs first k new r m.1 (sym (test is_unclaimed false (unclaimed_from opening s.place place))))
        (λ n e. omega arith) (λ n e. omega arith) refl

    -- the number k enters at this position, which was a claimed approval or out
    pub shown-entered : (opening : Bool) (k : ℕ) (s : Standing C) (c : C) (birth now : ℕ)
        (f : Numbered (Standing C) → Numbered (Standing C)) → Before idle_at p rs → standing_at first rs k ≡ Some s
        → comes_from opening s.place ≡ true → ((r : Numbered (Standing C)) → r.standing ≡ Some s → f r ≡ entry c birth now p)
        → shown_records first (suc p) top (update first k f rs) ≡ machine.after_entry opening k
        (record { place = Idle c; birth = birth; entered = now }) before
    shown-entered opening k s c birth now f b h place is =
        let m = numbered.standing_found rs first k s h in
        let r : Numbered (Standing C) = m.0 in
        let new : Numbered (Standing C) = entry c birth now p in
        let test : (t : Place C → Bool) (x : Bool) → t s.place ≡ x → stands t r.standing ≡ x = λ t x e. tested t r s s.place m.2 refl ∙ e in
        ap (shown_records first (suc p) top) (numbered.update_is rs first k f r m.1 ∙ ap (λ (x : Numbered (Standing C)). change first k x rs) (is r m.2))
        ∙ shown-changed first (suc p) top k rs new r (not opening) true opening false m.1 (test is_conn (not opening) (conn_from opening s.place place)) refl
        (test is_approval opening (approval_from opening s.place place)) refl refl
        (numbered.numbered-change_some (λ (x : Numbered (Standing C)). x.standing) rs first k new r (record { place = Idle c; birth = birth; entered = now }) m.1 refl)
        (numbered.in_order-enter idle_at rs first k p new r b m.1 (not_idle r (test is_idle false (idle_from opening s.place place)))
        (numbered.eqb_self p) (λ q below. numbered.ne_test p q (λ e. omega arith)))
        (numbered.numbers-change_kept (λ x. stands is_unclaimed x.standing) rs first k new r m.1 (sym (test is_unclaimed false (unclaimed_from opening s.place place))))
        (λ n e. conns_are opening n (conns_of rs) e) (λ n e. approved_are opening n (approved_of rs) e) refl
      where
        conns_are : (o : Bool) (n m : ℕ) → n + one (not o) ≡ m + 1 → n ≡ m + one o
        conns_are o n m e = grind (arith, nat_tests)

        approved_are : (o : Bool) (n m : ℕ) → n + one o ≡ m + 0 → n ≡ m - one o
        approved_are o n m e = grind (arith, nat_tests)

    -- a connection is added at this position
    pub shown-born : (c : C) (now : ℕ) → Before idle_at p rs → shown_records first (suc p) top (rs ++ entry c now now p ∷ []) ≡ machine.after_birth c now before
    shown-born c now b = same_records _ _
        (omega (arith, length-append rs (entry c now now p ∷ [])))
        (numbered.numbered-append_some (λ (x : Numbered (Standing C)). x.standing) rs first (entry c now now p) (record { place = Idle c; birth = now; entered = now }) refl)
        (numbered.in_order-append_new idle_at rs first p (entry c now now p) b (numbered.eqb_self p) (λ q below. numbered.ne_test p q (λ e. omega arith)))
        (numbered.numbers-append (λ x. stands is_unclaimed x.standing) rs (entry c now now p) first ∙ append-nil (numbers (λ x. stands is_unclaimed x.standing) first rs))
        (numbered.tally-append (λ x. stands is_conn x.standing) rs (entry c now now p))
        (omega (arith, numbered.tally-append (λ x. stands is_approval x.standing) rs (entry c now now p)))
        refl

    shown-approve_one : (claimed : Bool) → shown_records first p top (rs ++ approval claimed ∷ []) ≡ machine.after_approval claimed before
    shown-approve_one claimed = grind (arith, nat_tests, same_records, length-append, numbered.numbered-append_some, numbered.in_order-append, numbered.numbers-append, numbered.tally-append)

  pub shown-approve : (claimed : Bool) (n first p top : ℕ) (rs : List (Numbered (Standing C)))
      → shown_records first p top (with_approvals claimed n rs) ≡ machine.after_approvals claimed n (shown_records first p top rs)
  shown-approve claimed zero first p top rs = refl
  shown-approve claimed (suc n) first p top rs = shown-approve_one first p top (with_approvals claimed n rs) claimed ∙ ap (machine.after_approval claimed) (shown-approve claimed n first p top rs)

  pub raised_same : (s : RecordsView C) → s.conns + s.approved ≤ s.peak → machine.with_peak s ≡ s
  raised_same s h = same_records _ _ refl refl refl refl refl refl (omega arith)

  -- no record yet
  pub shown-none : (first : ℕ) → shown_records {C = C} first 0 0 [] ≡ no_records first
  shown-none first = same_records _ _ (omega arith) refl refl refl refl refl refl
