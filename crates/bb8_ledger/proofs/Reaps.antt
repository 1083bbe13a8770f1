-- A reap leaves nothing to close or to grant to a second one at the same moment.
use Rattle.bb8_ledger.proofs.Words.{◌≡◌, ℕ, zero, suc, ◌-◌, ◌≤◌, Bool, false, List, [], ◌∷◌, length, take, drop, Option, Some, None, refl, sym, ap, ◌∙◌, arith, subst, length-take, length-drop, take-length, drop-length, unwrap_or, Grant, Standing, Settings, Act, Answer, Numbered, update, tally, one, after_end, Ledger, Later, start, position, latest, records, idle_of, approval, with_approvals, reaped, outlived, idled, over_idle_at, idle_at, with_ended, Start, is_idle, idles_out, lives_out, Row, IsLegal, reap_granted, IsMadeGood, ReapsOnce, Before, and_right, nat_tests}
use Rattle.bb8_types.proofs.Numbered as numbered
use Rattle.bb8_ledger.proofs.Facts.{ended_all_before, entered_before}
use Rattle.bb8_ledger.proofs.Standings.{before-approve}
use Rattle.bb8_ledger.proofs.Effects.{each_legal, ended_append, ended_tally, front_idle, front_ended, outlived_line, over_idle, over_idle_line, idles_idle, approves, reaped_sized}
use Rattle.bb8_ledger.proofs.Waiters.{both_hold}
use Rattle.bb8_ledger.proofs.Wants.{due_open, row_makes_good}

-- no list is left of none
nothing : (ks : List ℕ) → length ks ≡ 0 → ks ≡ []
nothing [] h = refl
nothing (k ∷ ks) h = absurd (omega arith)

module _ {C : Type 0} where
  -- nothing more passes once some have ended
  fewer_ended : (test : Option (Standing C) → Bool) → test None ≡ false → (rs : List (Numbered (Standing C))) (n k : ℕ)
      → tally (λ r. test r.standing) (update n k after_end rs) ≤ tally (λ r. test r.standing) rs
  fewer_ended test off [] n k = omega arith
  fewer_ended test off (r ∷ rs) n k = grind (arith, nat_tests, fewer_ended test off rs (suc n) k)

  fewer_all_ended : (test : Option (Standing C) → Bool) → test None ≡ false → (first : ℕ) (ks : List ℕ) (rs : List (Numbered (Standing C)))
      → tally (λ r. test r.standing) (with_ended first ks rs) ≤ tally (λ r. test r.standing) rs
  fewer_all_ended test off first [] rs = omega arith
  fewer_all_ended test off first (k ∷ ks) rs = omega (arith, fewer_all_ended test off first ks (update first k after_end rs), fewer_ended test off rs first k)

  -- nor what was approved since
  approved_none : (test : Option (Standing C) → Bool) → test (approval {C = C} false).standing ≡ false → (n : ℕ) (rs : List (Numbered (Standing C)))
      → tally (λ r. test r.standing) (with_approvals false n rs) ≡ tally (λ r. test r.standing) rs
  approved_none test off zero rs = refl
  approved_none test off (suc n) rs = omega (arith, numbered.tally-append (λ r. test r.standing) (with_approvals false n rs) (approval false), ap one off, approved_none test off n rs)

  -- an approval is in no line of idle ones
  approved_line : (s : Start) (m now n : ℕ) (rs : List (Numbered (Standing C))) → over_idle s m now (with_approvals false n rs) ≡ over_idle s m now rs
  approved_line s m now zero rs = refl
  approved_line s m now (suc n) rs = numbered.in_order-append (over_idle_at s.config now) (with_approvals false n rs) s.first (approval false) (λ p. refl) m ∙ approved_line s m now n rs

  -- a connection that is idle too long is idle
  over_idle_before : (config : Settings) (now m : ℕ) (rs : List (Numbered (Standing C))) → Before idle_at m rs → Before (over_idle_at config now) m rs
  over_idle_before config now m [] b = tt
  over_idle_before config now m (r ∷ rs) b = grind (arith, nat_tests, over_idle_before config now m rs b.1, and_right (idles_out config now r.standing), both_hold, idles_idle config now r.standing)

  -- nothing is there to end at a moment
  pub record NoneDue (s : Start) (m now : ℕ) (rs : List (Numbered (Standing C))) : Type 0 where
    pub aged : length (outlived s now rs) ≡ 0
    pub idled : length (take (idle_of rs - unwrap_or s.config.min_idle 0) (over_idle s m now rs)) ≡ 0

  -- so a reap ends nothing
  none_reaped : (s : Start) (m now : ℕ) (rs : List (Numbered (Standing C))) → NoneDue s m now rs → length (reaped s m now rs) ≡ 0
  none_reaped s m now rs none = grind (arith, nat_tests, nothing)

  -- an event at which nobody entered changes nothing of it
  none_later : (s : Start) (m now : ℕ) (rs : List (Numbered (Standing C))) → Before idle_at m rs → NoneDue s m now rs → NoneDue s (suc m) now rs
  none_later s m now rs b none = grind (arith, numbered.in_order-later (over_idle_at s.config now) rs s.first m (over_idle_before s.config now m rs b), over_idle_before s.config now m rs b)

  -- so a reap leaves nothing to end at its moment
  pub reaped_none : (s : Start) (m now n : ℕ) (rs : List (Numbered (Standing C))) → NoneDue s m now (with_approvals false n (with_ended s.first (reaped s m now rs) rs))
  reaped_none s m now n rs =
      let then : List (Numbered (Standing C)) = with_ended s.first (outlived s now rs) rs in
      let ks : List ℕ = idled s m now then in
      let last : List (Numbered (Standing C)) = with_ended s.first ks then in
      let q : ℕ = idle_of then - unwrap_or s.config.min_idle 0 in
      let line : List ℕ = over_idle s m now then in
      let is : with_ended s.first (reaped s m now rs) rs ≡ last = ended_append s.first (outlived s now rs) ks rs in
      let aged_gone : outlived s now (with_ended s.first (take (length (outlived s now rs)) (outlived s now rs)) rs) ≡ drop (length (outlived s now rs)) (outlived s now rs) =
      front_ended s.first (outlived s now) (outlived_line s now) (length (outlived s now rs)) (outlived s now rs) rs refl in
      let aged_none : outlived s now then ≡ [] =
      ap (λ (xs : List ℕ). outlived s now (with_ended s.first xs rs)) (sym (take-length (outlived s now rs))) ∙ aged_gone ∙ drop-length (outlived s now rs) in
      let aged_tally : tally (λ r. lives_out s.config now r.standing) then ≡ 0 =
      sym (numbered.length-numbers (λ r. lives_out s.config now r.standing) then s.first) ∙ ap (λ (xs : List ℕ). length xs) aged_none in
      let line_last : over_idle s m now (with_approvals false n last) ≡ drop q line =
      approved_line s m now n last ∙ front_ended s.first (over_idle s m now) (over_idle_line s m now) q line then refl in
      subst (λ (xs : List (Numbered (Standing C))). NoneDue s m now (with_approvals false n xs)) (sym is) (record {
        aged = omega (
          arith,
          aged_tally,
          fewer_all_ended (lives_out s.config now) refl s.first ks then,
          approved_none (lives_out s.config now) refl n last,
          numbered.length-numbers (λ r. lives_out s.config now r.standing) (with_approvals false n last) s.first,
        );
        idled =
            ap (λ (xs : List ℕ). length (take (idle_of (with_approvals false n last) - unwrap_or s.config.min_idle 0) xs)) line_last
            ∙ (omega (
              arith,
              approves false n last,
              ended_tally is_idle 1 (λ c. refl) s.first ks then (front_idle s.first (over_idle s m now) (over_idle_line s m now) q line then refl),
              length-take q line,
              length-drop q line,
              length-take (idle_of (with_approvals false n last) - unwrap_or s.config.min_idle 0) (drop q line),
            ));
      })

  -- right after a reap: nothing is left to end at its moment, and what was wanted is made good
  abbrev IsReaped : Ledger C → Type 0
  IsReaped l = (before : Grant) → reap_granted l ≡ Some before → NoneDue (start l) (position l) (latest l) (records l) × IsMadeGood l before

  row_reaped : (l : Ledger C) (at : ℕ) (e : Act C) (a : Answer) → Row l at e a → IsReaped (Later l at e a)
  row_reaped l at e a z = grind (arith, nat_tests, none_later, before-approve, ended_all_before, entered_before, reaped_none, row_makes_good)

  all_reaped : (l : Ledger C) → IsLegal l → IsReaped l
  all_reaped = each_legal IsReaped (λ s lawful before is. cc)
      (λ l at e h before is. let was = h before is in (none_later (start l) (position l) (latest l) (records l) (entered_before l) was.0, was.1))
      (λ l at e a legal f row h. row_reaped l at e a row)

  pub row_once : (l : Ledger C) (at : ℕ) (e : Act C) (a : Answer) → IsLegal l → Row l at e a → ReapsOnce l at e a
  row_once l at e a legal row = grind (arith, nat_tests, all_reaped, none_reaped, due_open, reaped_sized)
