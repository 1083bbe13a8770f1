-- What the condition of a step says of what is shown.
use Rattle.std.proofs.lemmas.Bool.Decides.{nat_tests}
use Rattle.bb8_core.proofs.Words.{alive_is, arith, refl, sym, ◌∙◌, ap, ℕ, ◌≡◌, ◌+◌, false, subst, Some, true, ◌≤◌, Bool, Option, None, Idle, Numbered, ◌<◌, max, Ledger, Standing, length, start, standing_is, and_right, ◌≢◌, stands, records, ◌&&◌, gets_stand, Getting, end_of_numbers, Place, fits, is_unnotified, Begin, gets, is_out, IsLegal, get_of, is_some, is_conn, Settings, is_claimed, Leave, is_guarded, due, holds, handles, GiveUp, record_of, claimed_is, Act, Answer, conn_from, is_trying, Reason, is_held_by, Cancelled, ltb-true, CheckedOk, ltb, get, guarded_out, no_accesses, RecordsView, NoneAfter, all_held, claimed_counted, all_fit, Fits, alive_get, due_few, conn_counted, StateView, HasLedger, IsFitting, Represents, shown_beside, agree}
use Rattle.std.proofs.Common.{lt-ltb}
use Rattle.bb8_core.specs.StepAnswers.{IsIdleAs}
use Rattle.bb8_core.specs.StateView.{IsAsBefore, IsWithinLimits, ReportsFitting, Steps}
use Rattle.std.proofs.lemmas.Option.{slice_get_within}
use Rattle.bb8_types.specs.Places.{first_of, first_place}
use Rattle.bb8_ledger.specs.Ledger.{idle}
use Rattle.bb8_ledger.proofs.Facts.{idle_tally}
use Rattle.bb8_ledger.proofs.Invalid.{few_ended}
use Rattle.bb8_ledger.proofs.Laws.{keeps_limits}
use Rattle.bb8_ledger.proofs.Moments.{none_later}
use Rattle.bb8_types.proofs.Numbered as numbered

-- a get that holds a connection may hand it in, and another get none
handing_in : (o : Option Getting) (k : ℕ) → holds o ≡ Some k → (is_some o && agree true (is_some (holds o))) ≡ true
handing_in o k held = grind (arith, nat_tests)

handing_none : (o : Option Getting) → holds o ≡ None → (is_some o && agree true (is_some (holds o))) ≡ false
handing_none None none = refl
handing_none (Some x) none = ap is_some none

-- one that holds nothing may try
giving_none : (o : Option Getting) → (is_some o && agree false (is_some (holds o))) ≡ gets_stand is_trying o
giving_none None = refl
giving_none (Some x) = grind (arith, nat_tests)

-- a get that was found to try is alive
pub trying_stands : {o p : Option Getting} {b : Bool} → o ≡ p → b ≡ gets_stand is_trying o → b ≡ true → (st : Getting) × (p ≡ Some st)
trying_stands {o} get_is b_is on = grind (arith, nat_tests)

-- and in no line, where it was found not to wait, or to be notified
pub trying_off : {o p : Option Getting} {b n : Bool} → o ≡ p → b ≡ gets_stand is_trying o → b ≡ true → n ≡ gets_stand is_unnotified o → n ≡ false
    → (st : Getting) × (p ≡ Some st) × (is_unnotified st.place ≡ false)
trying_off get_is b_is on n_is off = let st = trying_stands get_is b_is on in (st.0, st.1, ap (gets_stand is_unnotified) (sym st.1 ∙ sym get_is) ∙ sym n_is ∙ off)

module _ {C : Type 0} where
  -- what a ledger shows, with no access counted
  abbrev pub shown : Ledger C → StateView C
  shown l = shown_beside no_accesses l

  -- a state, whatever was counted
  abbrev pub unexamined : StateView C → StateView C
  unexamined s = record s { reads = no_accesses }

  -- the count of accesses says nothing of the ledger
  pub bare : {s : StateView C} (l : Ledger C) → Represents l s → shown l ≡ unexamined s
  bare l means = ap unexamined means

  pub beside : {s : StateView C} (l : Ledger C) → shown l ≡ unexamined s → Represents l s
  beside {s} l is = ap (λ (t : StateView C). record t { reads = s.reads }) is

  -- the fields are what is shown
  pub as_shown : {s t : StateView C} (l : Ledger C) → s ≡ t → Represents l s → Represents l t
  as_shown l is means = subst (λ (x : StateView C). Represents l x) is means

  -- so is a state that is as before, except for the count of accesses
  pub still_shown : {s t : StateView C} (l : Ledger C) → IsAsBefore s t → Represents l s → Represents l t
  still_shown {s} {t} l same means = ap (λ (x : StateView C). record x { reads = t.reads }) means ∙ sym same

  -- and a step from there is one from the former state
  pub step_still : {s t : StateView C} (new : StateView C) (at : ℕ) (e : Act C) (a : Answer) → IsAsBefore s t → IsWithinLimits s → Steps t at e a new → Steps s at e a new
  step_still new at e a same limits (_, meets) = (limits, λ l legal means. meets l legal (still_shown l same means))

  pub shown_record : (l : Ledger C) (s : StateView C) → Represents l s → (k : ℕ) → record_of l k ≡ get s.records.places k
  shown_record l s is k = sym (numbered.get-numbered (λ (r : Numbered (Standing C)). r.standing) (records l) (start l).first k) ∙ ap (λ (t : StateView C). get t.records.places k) is

  -- so a connection that is idle there is so on each ledger
  pub idle_as : {s t : StateView C} (k : ℕ) (c : C) → s ≡ t
      → (birth : ℕ) × (entered : ℕ) × (get s.records.places k ≡ Some (record { place = Idle c; birth = birth; entered = entered })) → IsIdleAs t k c
  idle_as {s} {t} k c is was l legal means = (record { place = Idle c; birth = was.0; entered = was.1 }, shown_record l s (as_shown l (sym is) means) k ∙ was.2, refl)

  -- no birth and no entry of what a state shows lies after the moment of its next event
  pub none_after : (s : StateView C) (at now : ℕ) → HasLedger s → now ≡ max s.latest at → NoneAfter now s.records
  none_after s at now h now_is k r e = grind (arith, nat_tests, none_later h.0 k r, shown_record h.0 s h.2 k)

  pub shown_get : (l : Ledger C) (s : StateView C) → Represents l s → (g : ℕ) → get_of l g ≡ get s.gets.places g
  shown_get l s is g = sym (numbered.get-numbered (λ (r : Numbered Getting). r.standing) (gets l) (start l).first_get g) ∙ ap (λ (t : StateView C). get t.gets.places g) is

  -- so what a state shows is within the size
  pub size_shown : (s : StateView C) (l : Ledger C) → IsLegal l → Represents l s → s.records.conns + s.records.approved ≤ s.config.max_size
  size_shown s l legal shows = subst (λ (t : StateView C). t.records.conns + t.records.approved ≤ t.config.max_size) shows (all_fit l legal).size

  -- what is shown fits together
  pub shown_fits : (s : StateView C) → HasLedger s → Fits s.config.max_size s.records.conns s.records.approved s.records.next s.gets.alive s.gets.next s.counts
  shown_fits s h = subst (λ (t : StateView C). Fits t.config.max_size t.records.conns t.records.approved t.records.next t.gets.alive t.gets.next t.counts) h.2 (all_fit h.0 h.1)

  -- What is due of what is asked is within the size, where what is taken is.
  pub due_within : (config : Settings) (handles : ℕ) {taken was : RecordsView C} {n : ℕ} (asked : ℕ)
      → was.conns + was.approved ≤ config.max_size → taken ≡ was → n ≡ due config handles (taken.conns + taken.approved) asked
      → taken.conns + taken.approved + n ≤ config.max_size
  due_within config handles {taken} {was} {n} asked few taken_is n_is = grind (arith, nat_tests, due_few config handles (taken.conns + taken.approved) asked)

  -- It is so, too, where what is taken is no more than what a state shows.
  pub due_fits : (s : StateView C) {taken was : RecordsView C} {used n : ℕ} (asked : ℕ) → HasLedger s
      → was.conns + was.approved ≤ s.records.conns + s.records.approved → taken ≡ was → used ≡ taken.conns + taken.approved
      → n ≡ due s.config s.handles used asked → taken.conns + taken.approved + n ≤ s.config.max_size
  due_fits s {was = was} asked h few taken_is used_is n_is = grind (arith, nat_tests, due_within s.config s.handles, shown_fits s)

  -- connections that were closed as invalid, or idled out, are no more than the numbers that are
  -- free
  pub ended_shown : (s : StateView C) → HasLedger s → s.counts.invalid + s.counts.idle_timeout + s.records.conns + s.records.approved ≤ s.records.next
  ended_shown s h = subst (λ (t : StateView C). t.counts.invalid + t.counts.idle_timeout + t.records.conns + t.records.approved ≤ t.records.next) h.2 (few_ended h.0 h.1)

  -- the record that a get holds is out
  pub held_record : (l : Ledger C) (g k : ℕ) → IsLegal l → holds (get_of l g) ≡ Some k → (st : Standing C) × (record_of l k ≡ Some st) × (is_out st.place ≡ true)
  held_record l g k legal held = grind (arith, nat_tests, standing_is (is_held_by g) (record_of l k) (all_held l legal g k held), all_held l legal g k held)

  -- ---- a record that was found in such a state, or not

  -- an event that asks for it fits, or it does not
  pub fits_at : (s : StateView C) (test : Place C → Bool) (k : ℕ) → stands test (get s.records.places k) ≡ true → (l : Ledger C) → IsLegal l → Represents l s → stands test (record_of l k) ≡ true
  fits_at s test k on l legal means = ap (stands test) (shown_record l s means k) ∙ on

  pub unfit_at : (s : StateView C) (test : Place C → Bool) (k : ℕ) → stands test (get s.records.places k) ≡ false → (l : Ledger C) → IsLegal l → Represents l s → false ≡ stands test (record_of l k)
  unfit_at s test k off l legal means = sym (ap (stands test) (shown_record l s means k) ∙ off)

  -- what a guard holds is out
  pub guarded_record : (s : StateView C) (k : ℕ) → stands is_guarded (get s.records.places k) ≡ true → (st : Standing C) × (get s.records.places k ≡ Some st) × (is_out st.place ≡ true)
  guarded_record s k on = let st = standing_is is_guarded (get s.records.places k) on in (st.0, st.1, guarded_out st.0.place st.2)

  -- where there is a connection, there is one
  conn_some : (k : ℕ) (s : StateView C) → HasLedger s → (st : Standing C) × (get s.records.places k ≡ Some st) × (is_conn st.place ≡ true) → 1 ≤ s.records.conns
  conn_some k s h st = grind (arith, nat_tests, conn_counted h.0 k st.0, shown_record h.0 s h.2 k)

  out_some : (k : ℕ) (s : StateView C) → HasLedger s → (st : Standing C) × (get s.records.places k ≡ Some st) × (is_out st.place ≡ true) → 1 ≤ s.records.conns
  out_some k s h st = conn_some k s h (st.0, st.1, conn_from false st.0.place st.2)

  -- its number is one that was given
  pub number_few : {P : Standing C → Type 0} (k : ℕ) (s : StateView C) → HasLedger s → (st : Standing C) × (get s.records.places k ≡ Some st) × P st
      → s.records.next ≤ end_of_numbers → k < end_of_numbers
  number_few k s h st few = grind (arith, nat_tests, numbered.at-past (records h.0) (start h.0).first k, shown_record h.0 s h.2 k)

  -- a connection more may be counted as created, and as closed
  pub created_few : (s : StateView C) (k : ℕ) → HasLedger s → stands is_claimed (get s.records.places k) ≡ true → s.records.next ≤ end_of_numbers → s.counts.created < end_of_numbers
  created_few s k h on few = grind (arith, nat_tests, standing_is is_claimed (get s.records.places k) on, claimed_counted h.0 k, shown_record h.0 s h.2 k, claimed_is, shown_fits s h)

  pub closed_few : (k : ℕ) (s : StateView C) → HasLedger s → (st : Standing C) × (get s.records.places k ≡ Some st) × (is_out st.place ≡ true)
      → s.records.next ≤ end_of_numbers → s.counts.broken + s.counts.retired + s.counts.max_lifetime + s.counts.detached < end_of_numbers
  closed_few k s h st few = omega (arith, out_some k s h st, (shown_fits s h).closed_few)

  pub evicted_few : (k : ℕ) (s : StateView C) → HasLedger s → (st : Standing C) × (get s.records.places k ≡ Some st) × (is_conn st.place ≡ true)
      → s.records.next ≤ end_of_numbers → s.counts.detached < end_of_numbers
  evicted_few k s h st few = omega (arith, conn_some k s h st, (shown_fits s h).closed_few)

  -- and as invalid
  pub invalid_few : (k : ℕ) (s : StateView C) → HasLedger s → (st : Standing C) × (get s.records.places k ≡ Some st) × (is_out st.place ≡ true)
      → s.records.next ≤ end_of_numbers → s.counts.invalid < end_of_numbers
  invalid_few k s h st few = omega (arith, out_some k s h st, ended_shown s h)

  -- ---- what a call knows of the state that it finds: the fields show it, and the event fits

  -- where a handle leaves, one is alive
  pub fit_leave : {s t : StateView C} → s ≡ t → HasLedger s → IsFitting t Leave → 1 ≤ s.handles
  fit_leave is h fit = grind (arith, nat_tests, ltb-true 0 (handles h.0) (fit h.0 h.1 (as_shown h.0 is h.2)), as_shown h.0 is h.2)

  -- while a handle is alive, a get may begin; otherwise none may
  pub fit_alive : (s : StateView C) → s.handles ≢ 0 → IsFitting s Begin
  fit_alive s some l legal means = lt-ltb 0 (handles l) (omega (arith, ap (λ (x : StateView C). x.handles) means, some))

  pub unfit_alone : {s t : StateView C} → s ≡ t → s.handles ≡ 0 → ReportsFitting t Begin false
  unfit_alone is none l legal means = sym (ap (ltb 0) (ap (λ (x : StateView C). x.handles) (means ∙ sym is) ∙ none))

  -- while a connection is idle, a handle is alive
  pub fit_idle : (s : StateView C) (k : ℕ) → first_of s.config.queue_strategy s.records.idle ≡ Some k → IsFitting s Leave
  fit_idle s k first l legal means =
      let some : 0 < length s.records.idle = omega (arith, slice_get_within s.records.idle (first_place s.config.queue_strategy (length s.records.idle)) k first) in
      let idle_some : 0 < length (idle l) = subst (λ (t : StateView C). 0 < length t.records.idle) (sym means) some in
      lt-ltb 0 (handles l) (positive (handles l) (λ none. omega (arith, idle_some, idle_tally l, (keeps_limits l legal).none_idle none)))
    where
      positive : (n : ℕ) → (n ≡ 0 → ⊥) → 0 < n
      positive n some = omega (arith, some)

  -- a get that is given up is alive, whatever the reason
  pub giving_is : (l : Ledger C) (g : ℕ) (held : Option C) → fits l (GiveUp g Cancelled held false) ≡ true → (st : Getting) × (get_of l g ≡ Some st)
  giving_is l g held f = alive_get (get_of l g) (and_right (is_some (get_of l g)) _ f).0

  -- a get that is alive has not been counted as ended, so it may be
  pub ended_few : (s : StateView C) (g : ℕ) → HasLedger s → (st : Getting) × (get s.gets.places g ≡ Some st) → s.gets.next ≤ end_of_numbers
      → s.counts.direct + s.counts.waited + s.counts.timed_out + s.counts.cancelled < end_of_numbers
  ended_few s g h st few = grind (arith, nat_tests, alive_is h.0 g st.0, shown_get h.0 s h.2 g, shown_fits s h)

  -- ---- a get that was found to hold a connection, or none

  pub fits_held : (s : StateView C) (g k : ℕ) → holds (get s.gets.places g) ≡ Some k → IsFitting s (CheckedOk g)
  fits_held s g k held l legal means = ap is_some (ap (λ (x : Option Getting). holds x) (shown_get l s means g) ∙ held)

  pub unfit_held : (s : StateView C) (g : ℕ) → holds (get s.gets.places g) ≡ None → ReportsFitting s (CheckedOk g) false
  unfit_held s g none l legal means = sym (ap is_some (ap (λ (x : Option Getting). holds x) (shown_get l s means g) ∙ none))

  pub held_out : (s : StateView C) (g k : ℕ) → HasLedger s → holds (get s.gets.places g) ≡ Some k → (st : Standing C) × (get s.records.places k ≡ Some st) × (is_out st.place ≡ true)
  held_out s g k h held = grind (arith, nat_tests, held_record h.0 g k h.1, shown_get h.0 s h.2 g, shown_record h.0 s h.2 k)

  -- it may hand that connection in, and another get none
  pub fits_give_back : (s : StateView C) (g k : ℕ) (why : Reason) (c : C) (broken : Bool) → holds (get s.gets.places g) ≡ Some k → IsFitting s (GiveUp g why (Some c) broken)
  fits_give_back s g k why c broken held l legal means = handing_in (get_of l g) k (ap (λ (x : Option Getting). holds x) (shown_get l s means g) ∙ held)

  pub unfit_give_back : (s : StateView C) (g : ℕ) (why : Reason) (c : C) (broken : Bool) → holds (get s.gets.places g) ≡ None → ReportsFitting s (GiveUp g why (Some c) broken) false
  unfit_give_back s g why c broken none l legal means = sym (handing_none (get_of l g) (ap (λ (x : Option Getting). holds x) (shown_get l s means g) ∙ none))

  -- and it is out with this get
  pub held_with : (s : StateView C) (g k : ℕ) → HasLedger s → holds (get s.gets.places g) ≡ Some k → stands (is_held_by g) (get s.records.places k) ≡ true
  held_with s g k h held = ap (stands (is_held_by g)) (sym (shown_record h.0 s h.2 k)) ∙ all_held h.0 h.1 g k (ap (λ (x : Option Getting). holds x) (shown_get h.0 s h.2 g) ∙ held)

  -- ---- a get that was found to hold nothing, or else

  -- it may be given up, and another get hands in what it holds
  pub fits_give_up : (s : StateView C) (g : ℕ) (why : Reason) (broken : Bool) → gets_stand is_trying (get s.gets.places g) ≡ true → IsFitting s (GiveUp g why None broken)
  fits_give_up s g why broken on l legal means = giving_none (get_of l g) ∙ ap (gets_stand is_trying) (shown_get l s means g) ∙ on

  pub unfit_give_up : (s : StateView C) (g : ℕ) (why : Reason) (broken : Bool) → gets_stand is_trying (get s.gets.places g) ≡ false → ReportsFitting s (GiveUp g why None broken) false
  unfit_give_up s g why broken off l legal means = sym (giving_none (get_of l g) ∙ ap (gets_stand is_trying) (shown_get l s means g) ∙ off)
