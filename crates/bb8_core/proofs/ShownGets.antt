-- What each change of the gets does to what is shown of them.
use Rattle.std.proofs.lemmas.Bool.Decides.{nat_tests}
use Rattle.bb8_core.proofs.Words.{◌≡◌, ℕ, suc, ◌+◌, ◌≤◌, max, Bool, true, false, eqb, ◌&&◌, List, [], ◌∷◌, ◌++◌, Option, Some, None, IfSome, is_some, option_map, slice_get, refl, sym, ap, ◌∙◌, arith, length-append, insert, Getting, GetPlace, Active, Numbered, update, in_order, standing_at, standings, after_end, gets_stand, is_unnotified, is_notified, get_with_place, get_in_wait, unnotified_at, alive_of, new_get, with_notice, get_at_place, at_wait, GetsView, no_gets, shown_gets, change, Before, and_right, same_gets}
use Rattle.bb8_types.specs.declared.standing.GetPlace.TheVariants.{Waiting}
use Rattle.bb8_tables.specs.Machine as machine
use Rattle.bb8_types.proofs.Numbered as numbered
use Rattle.bb8_ledger.proofs.Waiters.{tally_same, begins_now, waiter, getting_is, alive_counted, begins_alive, notify_alive}

-- a get in no queue is at no position of it
not_in_line : (g : Numbered Getting) (s : Getting) → g.standing ≡ Some s → is_unnotified s.place ≡ false → (q : ℕ) → unnotified_at q g ≡ false
not_in_line g s is off q = ap (λ (t : Bool). t && eqb g.position q) (ap (gets_stand is_unnotified) is ∙ off)

module _ (first p top : ℕ) (gs : List (Numbered Getting)) where
  abbrev before : GetsView
  before = shown_gets first p top gs

  -- an event at which no get begins, nor begins to wait
  pub shown-kept : Before unnotified_at p gs → alive_of gs ≤ top → shown_gets first (suc p) (max top (alive_of gs)) gs ≡ before
  shown-kept b few = same_gets _ _ refl refl (numbered.in_order-later unnotified_at gs first p b) refl (omega arith)

  pub shown-begun : Before unnotified_at p gs → alive_of gs ≤ top → shown_gets first (suc p) (max top (alive_of (gs ++ new_get ∷ []))) (gs ++ new_get ∷ []) ≡ machine.after_begin before
  shown-begun b few =
      let more : alive_of (gs ++ new_get ∷ []) ≡ alive_of gs + 1 = numbered.tally-append (λ (g : Numbered Getting). is_some g.standing) gs new_get in
      same_gets _ _
      (omega (arith, length-append gs (new_get ∷ [])))
      (numbered.numbered-append_some (λ (g : Numbered Getting). g.standing) gs first new_get (record { place = Active; first_wait = None }) refl)
      (numbered.in_order-append unnotified_at gs first new_get (λ q. refl) (suc p) ∙ numbered.in_order-later unnotified_at gs first p b)
      more
      (ap (max top) more)

  -- a get ends
  pub shown-ended : (k : ℕ) (s : Getting) → Before unnotified_at p gs → alive_of gs ≤ top → standing_at first gs k ≡ Some s
      → shown_gets first (suc p) (max top (alive_of (update first k after_end gs)))
      (update first k after_end gs) ≡ machine.after_get_end k before
  shown-ended k s b few h =
      let m = numbered.standing_found gs first k s h in
      let g : Numbered Getting = m.0 in
      let new : Numbered Getting = after_end g in
      let is : update first k after_end gs ≡ change first k new gs = numbered.update_is gs first k after_end g m.1 in
      let fewer : alive_of (change first k new gs) + 1 ≡ alive_of gs = ap (λ (xs : List (Numbered Getting)). alive_of xs + 1) (sym is) ∙ alive_counted first k gs g s m.1 m.2 in
      ap (λ (xs : List (Numbered Getting)). shown_gets first (suc p) (max top (alive_of xs)) xs) is
      ∙ same_gets _ _
      (ap (λ (n : ℕ). first + n) (numbered.length-change gs first k new))
      (numbered.numbered-change_none (λ (x : Numbered Getting). x.standing) gs first k new g m.1 refl)
      (numbered.in_order-change_off unnotified_at gs first k new (λ q. refl) (suc p) ∙ ap (machine.without k) (numbered.in_order-later unnotified_at gs first p b))
      (omega arith)
      (omega arith)

  -- a get in no queue changes its state, and is in no queue either
  pub shown-turned : (place : GetPlace) (k : ℕ) (s : Getting) → Before unnotified_at p gs → alive_of gs ≤ top → standing_at first gs k ≡ Some s
      → is_unnotified s.place ≡ false → is_unnotified place ≡ false
      → shown_gets first (suc p) (max top (alive_of (update first k (get_at_place place) gs)))
      (update first k (get_at_place place) gs) ≡ machine.after_turn place k before
  shown-turned place k s b few h off out =
      let m = numbered.standing_found gs first k s h in
      let g : Numbered Getting = m.0 in
      let new : Numbered Getting = get_at_place place g in
      let stands : new.standing ≡ Some (get_with_place place s) = ap (option_map (get_with_place place)) m.2 in
      let is : update first k (get_at_place place) gs ≡ change first k new gs = numbered.update_is gs first k (get_at_place place) g m.1 in
      let same : alive_of (change first k new gs) ≡ alive_of gs = ap alive_of (sym is)
      ∙ tally_same (λ (x : Numbered Getting). is_some x.standing) (get_at_place place) (λ x. still_alive x.standing) gs first k in
      ap (λ (xs : List (Numbered Getting)). shown_gets first (suc p) (max top (alive_of xs)) xs) is
      ∙ same_gets _ _
      (ap (λ (n : ℕ). first + n) (numbered.length-change gs first k new))
      (numbered.numbered-change_some (λ (x : Numbered Getting). x.standing) gs first k new g (get_with_place place s) m.1 stands
      ∙ ap (λ (o : Option Getting). insert (standings first gs) k (machine.getting_at place o)) (sym (numbered.get-numbered (λ (x : Numbered Getting). x.standing) gs first k ∙ h)))
      (numbered.in_order-change_kept unnotified_at gs first k new g m.1 (suc p)
      (λ q below. not_in_line new (get_with_place place s) stands out q ∙ sym (not_in_line g s m.2 off q))
      ∙ numbered.in_order-later unnotified_at gs first p b)
      same
      (omega arith)
    where
      still_alive : (o : Option Getting) → is_some (option_map (get_with_place place) o) ≡ is_some o
      still_alive o = grind (arith, nat_tests)

  -- a get in no queue begins to wait
  pub shown-waits : (now k : ℕ) (s : Getting) → Before unnotified_at p gs → alive_of gs ≤ top → standing_at first gs k ≡ Some s
      → is_unnotified s.place ≡ false → shown_gets first (suc p) (max top (alive_of (update first k (at_wait now p) gs)))
      (update first k (at_wait now p) gs) ≡ machine.after_wait now k before
  shown-waits now k s b few h off =
      let m = numbered.standing_found gs first k s h in
      let g : Numbered Getting = m.0 in
      let new : Numbered Getting = record { standing = Some (get_in_wait now s); position = p } in
      let is : update first k (at_wait now p) gs ≡ change first k new gs = numbered.update_is gs first k (at_wait now p) g m.1
      ∙ ap (λ (x : Numbered Getting). change first k x gs)
      (begins_now now p g (ap (gets_stand is_unnotified) m.2 ∙ off) ∙ ap (waiter now p) m.2) in
      let same : alive_of (change first k new gs) ≡ alive_of gs = ap alive_of (sym is) ∙ begins_alive first now p k gs in
      ap (λ (xs : List (Numbered Getting)). shown_gets first (suc p) (max top (alive_of xs)) xs) is
      ∙ same_gets _ _
      (ap (λ (n : ℕ). first + n) (numbered.length-change gs first k new))
      (numbered.numbered-change_some (λ (x : Numbered Getting). x.standing) gs first k new g (get_in_wait now s) m.1 refl
      ∙ ap (λ (o : Option Getting). insert (standings first gs) k (machine.getting_since now o)) (sym (numbered.get-numbered (λ (x : Numbered Getting). x.standing) gs first k ∙ h)))
      (numbered.in_order-enter unnotified_at gs first k p new g b m.1 (not_in_line g s m.2 off) (numbered.eqb_self p) (λ q below. numbered.ne_test p q (λ e. omega arith)))
      (omega arith)
      (omega arith)

  -- who is named is notified
  pub shown-noticed : (n : Option ℕ) → IfSome n (λ k. (s : Getting) × (standing_at first gs k ≡ Some s)) → shown_gets first p top (with_notice first n gs) ≡ machine.after_notice n before
  shown-noticed None named = refl
  shown-noticed (Some k) named =
      let m = numbered.standing_found gs first k named.0 named.1 in
      let g : Numbered Getting = m.0 in
      let new : Numbered Getting = get_at_place (Waiting true) g in
      let stands : new.standing ≡ Some (get_with_place (Waiting true) named.0) = ap (option_map (get_with_place (Waiting true))) m.2 in
      let is : update first k (get_at_place (Waiting true)) gs ≡ change first k new gs = numbered.update_is gs first k (get_at_place (Waiting true)) g m.1 in
      ap (shown_gets first p top) is
      ∙ same_gets _ _
      (ap (λ (n : ℕ). first + n) (numbered.length-change gs first k new))
      (numbered.numbered-change_some (λ (x : Numbered Getting). x.standing) gs first k new g (get_with_place (Waiting true) named.0) m.1 stands
      ∙ ap (λ (o : Option Getting). insert (standings first gs) k (machine.getting_at (Waiting true) o)) (sym (numbered.get-numbered (λ (x : Numbered Getting). x.standing) gs first k ∙ named.1)))
      (numbered.in_order-change_off unnotified_at gs first k new (not_in_line new (get_with_place (Waiting true) named.0) stands refl) p)
      (ap alive_of (sym is) ∙ notify_alive first (Some k) gs)
      refl

-- the same, with the peak after it
pub noticed_later : (first p top : ℕ) (gs : List (Numbered Getting)) (n : Option ℕ)
    → IfSome n (λ k. (s : Getting) × (standing_at first gs k ≡ Some s))
    → shown_gets first p (max top (alive_of (with_notice first n gs))) (with_notice first n gs) ≡ machine.after_notice n
    (shown_gets first p (max top (alive_of gs)) gs)
noticed_later first p top gs n named = ap (λ (m : ℕ). shown_gets first p (max top m) (with_notice first n gs)) (notify_alive first n gs) ∙ shown-noticed first p (max top (alive_of gs)) gs n named

-- the first in line waits and was not notified
pub first_waits : (first p : ℕ) (gs : List (Numbered Getting)) (k : ℕ) → slice_get (in_order unnotified_at first gs p) 0 ≡ Some k
    → (s : Getting) × (standing_at first gs k ≡ Some s) × (is_unnotified s.place ≡ true)
first_waits first p gs k e = grind (arith, nat_tests, numbered.in_order_member unnotified_at gs first p 0 k e, getting_is is_unnotified, and_right)

-- who was notified is in line no more
pub notified_out : (p : GetPlace) → is_notified p ≡ true → is_unnotified p ≡ false
notified_out (Waiting true) e = refl
notified_out _ e = cc

-- so the line loses nothing as it goes
pub without_other : (first p : ℕ) (gs : List (Numbered Getting)) (k : ℕ) (s : Getting) → standing_at first gs k ≡ Some s
    → is_unnotified s.place ≡ false → machine.without k (in_order unnotified_at first gs p) ≡ in_order unnotified_at first gs p
without_other first p gs k s h off =
    let m = numbered.standing_found gs first k s h in
    let g : Numbered Getting = m.0 in
    sym (numbered.in_order-change_off unnotified_at gs first k (after_end g) (λ q. refl) p)
    ∙ numbered.in_order-change_kept unnotified_at gs first k (after_end g) g m.1 p (λ q below. sym (not_in_line g s m.2 off q))

-- no get yet
pub shown-none : (first : ℕ) → shown_gets first 0 0 [] ≡ no_gets first
shown-none first = same_gets _ _ (omega arith) refl refl refl refl
