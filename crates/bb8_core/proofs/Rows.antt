-- Each step, from what it does to what is shown to what it does on every legal ledger.
use Rattle.bb8_core.proofs.Words.{waiting, Counts, Counters, get, expires, retired, ltb, ◌||◌, first_wait_of, is_doubtful, arith, refl, sym, ◌∙◌, ap, ℕ, ◌≡◌, ◌+◌, false, subst, Some, true, Bool, Option, None, List, Numbered, ◌<◌, cond, max, slice_get, suc, Ledger, update, eqb, after_end, Standing, length, start, standing_is, idle_at, records, ◌-◌, gets_stand, Guarded, Getting, latest, end_of_numbers, position, peak, fits, is_unnotified, Later, Active, gets, IsLegal, Held, get_of, length-append, outlived_at, reaped_at, idled_at, is_claimed, is_guarded, conns, due, handles, record_of, claimed_is, counts, get_peak, get_at_place, gives_up_closed, is_notified, checks, check_fails, oldest_waiter, gives_up_kept, claims, opens_late, returns_closed, takes_out, idle_count, serves, Act, fills, asks_for, shuts, opens, leaves, Row, waits_on, keeps, Answer, waits, fails, adds, reaps, with_ended, Holding, with_approvals, entry, Figures, approved, gives_up, reap_ended, add_exhausted, detaches, evicts, looks, add_refused, add_broken, claim_ended, retired_at, retires, retire_ended, nat_tests, begin_refused, begins, begin_exhausted, IsGranted, next, with_record, add_full, joins, join_exhausted, MatchBool, before_later, ne_test, guarded_out, counts_held, AccessCount, Reaps, after_reaped, RecordsView, entered_before, ended_before, waited_before, peak_holds, get_peak_holds, idle_tally, waiting_counted, ended_all_before, holding_is, claimed_counted, trying_is, waits_on_gets, StateView, shown_records, HasLedger, Represents, shown_beside, Steps, State, ShownFigures, shows}
use Rattle.bb8_tables.specs.Machine as machine
use Rattle.bb8_core.specs.Decided as decided
use Rattle.bb8_core.proofs.Meets.{Meets, served, closed_counters, invalid_counters, given_up, retiring_by, nothing, meets_begun, meets_memory, meets_exhausted, meets_waits_on, meets_served, meets_taken, meets_waits, meets_passed, meets_invalid, meets_given_up, meets_given_up_kept, meets_given_up_closed, meets_returned_kept, meets_returned_closed, meets_detached, meets_evicted, meets_fill, meets_ask, meets_claim, meets_claim_ended, meets_opened, meets_late, meets_failed, meets_add_broken, meets_add_full, meets_add_exhausted, meets_add_refused, meets_added, meets_reap_ended, meets_reaped, meets_retire_ended, meets_retired, meets_state, meets_joined, meets_join_exhausted, meets_left_last, meets_left, meets_shut, meets_look}
use Rattle.bb8_core.proofs.ShownRecords.{shown-claimed, shown-entered, shown-born, shown-handed, raised_same}
use Rattle.bb8_core.proofs.ShownGets.{shown-begun, shown-turned, shown-waits}
use Rattle.bb8_core.proofs.ShownLeft.{shut}
use Rattle.bb8_core.proofs.Fitting.{shown, unexamined, beside, as_shown, shown_get, held_record, giving_is}
use Rattle.bb8_core.proofs.Steps.{open_now, same_shown, within, next_records, next_gets, records_kept, gets_kept, waiting_due, later_shown, gets_told, changed, want_is, still_raised, approval_ended, old_is, closes_is, kept_shown, ended_shown, leaves_counted, evicted_at, count_served, checked_is, line_test, ended_gets, taken_shown, shut_shown}
use Rattle.bb8_core.proofs.GetEnds.{with_closing, told_shown, holds_in, oldest_left, count_given_up, count_gave_up, count_kept, count_closed, handed_is}
use Rattle.bb8_core.proofs.Reaps.{Ended_at, ended_at, ended_is, Retired_at, retired_ends, retired_is, retired_many, both_ended, only_retired}

fitting : (b : Bool) (P Q : Type 0) → b ≡ true → P → MatchBool b P Q
fitting b P Q e p = grind (arith, nat_tests)

module _ {C : Type 0} where
  -- an event that fits, with an answer that the table allows; and what is shown after it
  abbrev IsRow : Ledger C → ℕ → Act C → Answer → StateView C → Type 0
  IsRow l at e a new = (fits l e ≡ true) × Row l at e a × (shown (Later l at e a) ≡ new)

  module _ {reads : AccessCount} (l : Ledger C) (legal : IsLegal l) (at : ℕ) where
    row_of : {e : Act C} {a : Answer} {new : StateView C} → Meets (shown_beside reads l) at (max (latest l) at) e a new → IsRow l at e a new
    row_of (meets_begun fit few gs_is n_is) = (
      fit l legal refl,
      begins n_is (subst (λ (m : ℕ). m < end_of_numbers) (sym n_is) few),
      same_shown _ _ refl refl refl refl refl
          (records_kept l) (shown-begun (start l).first_get (position l) (get_peak l) (gets l) (waited_before l) (get_peak_holds l) ∙ sym gs_is) refl,
    )
    row_of (meets_memory fit few full gs_is) = (fit l legal refl, begin_refused few full, same_shown _ _ refl refl refl refl refl (records_kept l) (gets_kept l ∙ sym gs_is) refl)
    row_of (meets_exhausted fit many) = (fit l legal refl, begin_exhausted many, same_shown _ _ refl refl refl refl refl (records_kept l) (gets_kept l) refl)
    row_of (meets_waits_on {g} t waits_there none) =
        let on = line_test l g t.get_is waits_there in (
          t.fit l legal refl,
          waits_on on none,
          same_shown _ _ refl refl refl refl refl
              (ap (λ (m : ℕ). next_records l (with_approvals false m (records l))) none.count ∙ records_kept l) (ap (next_gets l) (waits_on_gets l at g on) ∙ gets_kept l) refl,
        )
    row_of (meets_served {g} {k} {grant} was t not_waiting unchecked first granted gs_is were since_is counted) =
        let st = trying_is l g (t.fit l legal refl) in
        let taken = taken_shown l Guarded k grant refl first granted.granted in (
          t.fit l legal refl,
          serves (line_test l g t.get_is not_waiting) (checked_is l at k ∙ unchecked) first taken.0,
          same_shown _ _ refl refl refl refl refl (taken.1 ∙ sym granted.after) (ended_gets l g st.0 st.1 ∙ sym gs_is)
              (count_served l at g k grant was were ∙ ap counts_held (sym (counted ∙ ap (served was (max (latest l) at)) (since_is ∙ ap (λ (x : Option Getting). first_wait_of x) t.get_is)))),
        )
    row_of (meets_taken {g} {k} {grant} t not_waiting checked first granted gs_is) =
        let st = trying_is l g (t.fit l legal refl) in
        let off = line_test l g t.get_is not_waiting in
        let taken = taken_shown l (Held g) k grant refl first granted.granted in (
          t.fit l legal refl,
          takes_out off (checked_is l at k ∙ checked) first taken.0,
          same_shown _ _ refl refl refl refl refl (taken.1 ∙ sym granted.after)
              (shown-turned (start l).first_get (position l) (get_peak l) (gets l) (Holding k) g st.0 (waited_before l) (get_peak_holds l)
              st.1 (ap (gets_stand is_unnotified) (sym st.1) ∙ off) refl ∙ sym gs_is) refl,
        )
    row_of (meets_waits {g} {grant = grant} t not_waiting none taken_is alive_is due_is granted rs_is gs_is) =
        let st = trying_is l g (t.fit l legal refl) in
        let due_l = waiting_due l taken_is alive_is due_is granted in
        let off = line_test l g t.get_is not_waiting in (
          t.fit l legal refl,
          waits off none due_l,
          same_shown _ _ refl refl refl refl refl (changed false l grant.count (records l) _ (later_shown l ∙ sym taken_is) ∙ sym rs_is)
              (shown-waits (start l).first_get (position l) (get_peak l) (gets l) (max (latest l) at) g st.0 (waited_before l)
              (get_peak_holds l) st.1 (ap (gets_stand is_unnotified) (sym st.1) ∙ off) ∙ sym gs_is) refl,
        )
    row_of (meets_passed {g} {k} {first = first} was fit held_now next_is rs_is gs_is were since_is counted) =
        let held = holds_in l g k held_now in
        let st = held_record l g k legal held in
        let stood = holding_is (get_of l g) k held in
        let handed = shown-handed (start l).first (suc (position l)) (peak l) (records l) k st.0 st.1 st.2 ∙ ap (machine.after_handover k) (later_shown l) in (
          fit l legal refl,
          checks held (record { first = next_is; count = refl; withheld = refl }),
          same_shown _ _ refl refl refl refl refl (still_raised l _ _ handed (peak_holds l) ∙ sym rs_is) (ended_gets l g stood.0 stood.1 ∙ sym gs_is)
              (count_served l at g k (nothing first) was were ∙ ap counts_held (sym (counted ∙ ap (served was (max (latest l) at)) since_is))),
        )
    row_of (meets_invalid {g} {k} {broken} {aged} {grant} {n = n} was fit held_now is_aged granted rs_is outcome were counted) =
        let held = holds_in l g k held_now in
        let st = held_record l g k legal held in
        let stood = holding_is (get_of l g) k held in
        let ended = ended_shown l k st.0 grant st.1 st.2 granted in
        let turned : next_gets l (update (start l).first_get g (get_at_place Active) (gets l)) ≡ machine.after_turn Active g (shown l).gets =
        shown-turned (start l).first_get (position l) (get_peak l) (gets l) Active g stood.0 (waited_before l) (get_peak_holds l) stood.1
        (ap is_unnotified stood.2) refl in (
          fit l legal refl,
          check_fails held ended.0 outcome.who,
          same_shown _ _ refl refl refl refl refl (ended.1 ∙ sym rs_is) (told_shown l g (get_at_place Active) true n _ turned outcome.who ∙ sym outcome.after)
              (ap (λ (x : Counts). with_closing (record x { invalid = x.invalid + 1 }) broken (ltb k (retired l)) (expires l at k)) were
              ∙ ap (λ (b : Bool). counts_held (closed_counters (invalid_counters was) broken (ltb k (retired l)) b)) (old_is l at k is_aged) ∙ ap counts_held (sym counted)),
        )
    row_of (meets_given_up {g} reason broken {n = n} was fit left_is test_is n_is gs_is were since_is counted) =
        let st = giving_is l g None (fit l legal refl) in
        let here = shown_get l (shown l) refl g in
        let n_place : n ≡ cond (is_notified st.0.place) (slice_get (machine.without g (waiting l)) 0) None = grind (arith, nat_tests) in (
          fit l legal refl,
          gives_up (handed_is l g st.0 n st.1 n_place ∙ ap (λ (x : Option Getting). cond (gets_stand is_notified x) (oldest_waiter l) None) (sym st.1)),
          same_shown _ _ refl refl refl refl refl (records_kept l)
              (told_shown l g after_end (is_notified st.0.place) n _ (ended_gets l g st.0 st.1) n_place ∙ ap (machine.after_notice n) (sym left_is) ∙ sym gs_is)
              (count_gave_up l at g reason broken n ∙ count_given_up l at g reason was were
              ∙ ap counts_held (sym (counted ∙ ap (λ (o : Option ℕ). given_up reason (max (latest l) at) o was) since_is))),
        )
    row_of (meets_given_up_kept {g} {k} reason {c} {broken} {aged} {n = n} was fit held_now is_aged doubt_is keep rs_is outcome were since_is counted) =
        let held = holds_in l g k held_now in
        let st = held_record l g k legal held in
        let stood = holding_is (get_of l g) k held in (
          fit l legal refl,
          gives_up_kept held (closes_is l at k (is_doubtful (start l).config broken) is_aged
              (ap (λ (b : Bool). b || (aged || eqb (handles l) 0)) (sym doubt_is) ∙ keep)) (oldest_left l g k n held outcome.who),
          same_shown _ _ refl refl refl refl refl (kept_shown l at k c st.0 st.1 st.2 ∙ sym rs_is)
              (told_shown l g after_end true n _ (ended_gets l g stood.0 stood.1) outcome.who ∙ sym outcome.after)
              (count_kept l at g k reason c broken n ∙ count_given_up l at g reason was were
              ∙ ap counts_held (sym (counted ∙ ap (λ (o : Option ℕ). given_up reason (max (latest l) at) o was) since_is))),
        )
    row_of (meets_given_up_closed {g} {k} reason {c} {broken} {aged} {grant = grant} {n = n} was {mid} fit held_now is_aged doubt_is closing granted rs_is outcome were since_is mid_is counted) =
        let held = holds_in l g k held_now in
        let st = held_record l g k legal held in
        let stood = holding_is (get_of l g) k held in
        let ended = ended_shown l k st.0 grant st.1 st.2 granted in
        let doubt_l : Bool = is_doubtful (start l).config broken in
        let was_then : Counters = given_up reason (max (latest l) at) (first_wait_of (get (shown l).gets.places g)) was in (
          fit l legal refl,
          gives_up_closed held (closes_is l at k doubt_l is_aged (ap (λ (b : Bool). b || (aged || eqb (handles l) 0)) (sym doubt_is) ∙ closing)) ended.0 (oldest_left l g k n held outcome.who),
          same_shown _ _ refl refl refl refl refl (ended.1 ∙ sym rs_is)
              (told_shown l g after_end true n _ (ended_gets l g stood.0 stood.1) outcome.who ∙ sym outcome.after)
              (count_closed l at g k reason c broken grant n
              ∙ ap (λ (x : Counts). with_closing x doubt_l (ltb k (retired l)) (expires l at k)) (count_given_up l at g reason was were)
              ∙ ap (λ (b : Bool). counts_held (closed_counters was_then doubt_l (ltb k (retired l)) b)) (old_is l at k is_aged)
              ∙ ap counts_held (sym (counted ∙ ap (λ (b : Bool). closed_counters mid b (ltb k (retired l)) aged) doubt_is
              ∙ ap (λ (x : Counters). closed_counters x doubt_l (ltb k (retired l)) aged) (mid_is ∙ ap (λ (o : Option ℕ). given_up reason (max (latest l) at) o was) since_is)))),
        )
    row_of (meets_returned_kept {k} {c} {broken} {n = n} fit outcome is_aged keep rs_is) =
        let st = standing_is is_guarded (record_of l k) (fit l legal refl) in (
          fit l legal refl,
          keeps (closes_is l at k broken is_aged keep) outcome.who,
          same_shown _ _ refl refl refl refl refl (kept_shown l at k c st.0 st.1 (guarded_out st.0.place st.2) ∙ sym rs_is) (gets_told l n outcome.who ∙ sym outcome.after) refl,
        )
    row_of (meets_returned_closed {k} {broken = broken} {grant = grant} {n = n} was fit outcome is_aged closing granted rs_is were counted) =
        let st = standing_is is_guarded (record_of l k) (fit l legal refl) in
        let ended = ended_shown l k st.0 grant st.1 (guarded_out st.0.place st.2) granted in (
          fit l legal refl,
          returns_closed (closes_is l at k broken is_aged closing) ended.0 outcome.who,
          same_shown _ _ refl refl refl refl refl (ended.1 ∙ sym rs_is) (gets_told l n outcome.who ∙ sym outcome.after)
              (ap (λ (x : Counts). with_closing x broken (ltb k (retired l)) (expires l at k)) were
              ∙ ap (λ (b : Bool). counts_held (closed_counters was broken (ltb k (retired l)) b)) (old_is l at k is_aged) ∙ ap counts_held (sym counted)),
        )
    row_of (meets_detached {k} {grant} {n = n} was fit outcome granted rs_is were counted) =
        let st = standing_is is_guarded (record_of l k) (fit l legal refl) in
        let ended = ended_shown l k st.0 grant st.1 (guarded_out st.0.place st.2) granted in (
          fit l legal refl,
          detaches ended.0 outcome.who,
          same_shown _ _ refl refl refl refl refl (ended.1 ∙ sym rs_is) (gets_told l n outcome.who ∙ sym outcome.after) (leaves_counted l was were ∙ ap counts_held (sym counted)),
        )
    row_of (meets_evicted {k} {grant = grant} {n = n} was fit outcome mid_is granted were counted) =
        let is_grant = subst (λ (t : RecordsView C). machine.IsGrant t (decided.want (start l).config (handles l) t) grant) mid_is granted.granted in
        let later = evicted_at l (suc (position l)) k (fit l legal refl) ∙ ap (after_reaped k) (later_shown l) in (
          fit l legal refl,
          evicts (want_is l (with_record l k after_end) grant _ (ended_before (position l) (start l).first k (records l) (entered_before l))
              (evicted_at l (position l) k (fit l legal refl)) is_grant) outcome.who,
          same_shown _ _ refl refl refl refl refl (changed false l grant.count (with_record l k after_end) _ (later ∙ sym mid_is) ∙ sym granted.after)
              (gets_told l n outcome.who ∙ sym outcome.after) (leaves_counted l was were ∙ ap counts_held (sym counted)),
        )
    row_of (meets_fill {claimed} {grant} granted) = (
      refl,
      fills (want_is l (records l) grant _ (entered_before l) refl granted.granted),
      same_shown _ _ refl refl refl refl refl (changed claimed l grant.count (records l) _ (later_shown l) ∙ sym granted.after) (gets_kept l) refl,
    )
    row_of (meets_ask {grant = grant} waiting_is due_is granted rs_is) = (
      refl,
      asks_for (subst (λ (m : ℕ). IsGranted (next l) (conns l + approved l) (peak l) m grant)
          (due_is ∙ ap (λ (m : ℕ). due (start l).config (handles l) (conns l + approved l) (m - approved l)) (waiting_is ∙ waiting_counted l)) granted),
      same_shown _ _ refl refl refl refl refl (changed false l grant.count (records l) _ (later_shown l) ∙ sym rs_is) (gets_kept l) refl,
    )
    row_of (meets_claim (Some key) alive_now first none) =
        let is = shown-claimed (start l).first (suc (position l)) (peak l) (records l) key.number first.0 ∙ ap (machine.after_claim key.number) (later_shown l) in
        (refl, claims (open_now _ alive_now) first.0, same_shown _ _ refl refl refl refl refl (still_raised l _ _ is (peak_holds l) ∙ sym first.1) (gets_kept l) refl)
    row_of (meets_claim None alive_now some none) =
        (refl, claims (open_now _ alive_now) none.0, same_shown _ _ refl refl refl refl refl (records_kept l ∙ sym none.1) (gets_kept l) refl)
    row_of (meets_claim_ended none) = (refl, claim_ended none, same_shown _ _ refl refl refl refl refl (records_kept l) (gets_kept l) refl)
    row_of (meets_opened {k} c {n = n} fit in_time rs_is outcome) =
        let st = standing_is is_claimed (record_of l k) (fit l legal refl) in
        let some = claimed_counted l k st.0 st.1 (claimed_is st.0.place st.2) in
        let is = shown-entered (start l).first (position l) (peak l) (records l) true k st.0 c (max (latest l) at) (max (latest l) at)
        (λ r. entry c (max (latest l) at) (max (latest l) at) (position l)) (entered_before l) st.1 st.2 (λ r e. refl) in (
          fit l legal refl,
          opens in_time outcome.who,
          same_shown _ _ refl refl refl refl refl (ap machine.with_peak is ∙ raised_same _ (omega (arith, some, peak_holds l)) ∙ sym rs_is) (gets_told l n outcome.who ∙ sym outcome.after) refl,
        )
    row_of (meets_late {k} c fit late rs_is) =
        (fit l legal refl, opens_late late, same_shown _ _ refl refl refl refl refl (approval_ended l k (fit l legal refl) ∙ sym rs_is) (gets_kept l) refl)
    row_of (meets_failed {k} fit rs_is) =
        (fit l legal refl, fails, same_shown _ _ refl refl refl refl refl (approval_ended l k (fit l legal refl) ∙ sym rs_is) (gets_kept l) refl)
    row_of (meets_add_broken c fit) = (fit l legal refl, add_broken, same_shown _ _ refl refl refl refl refl (records_kept l) (gets_kept l) refl)
    row_of (meets_add_full c fit full) = (fit l legal refl, add_full full, same_shown _ _ refl refl refl refl refl (records_kept l) (gets_kept l) refl)
    row_of (meets_add_exhausted h many) = (h.fit l legal refl, add_exhausted h.room many, same_shown _ _ refl refl refl refl refl (records_kept l) (gets_kept l) refl)
    row_of (meets_add_refused h few full rs_is) =
        (h.fit l legal refl, add_refused h.room few full, same_shown _ _ refl refl refl refl refl (records_kept l ∙ sym rs_is) (gets_kept l) refl)
    row_of (meets_added {c = c} {n = n} h outcome few k_is rs_is) = (
      h.fit l legal refl,
      adds h.room few k_is outcome.who,
      same_shown _ _ refl refl refl refl refl
          (ap machine.with_peak (shown-born (start l).first (position l) (peak l) (records l) c (max (latest l) at) (entered_before l)) ∙ sym rs_is)
          (gets_told l n outcome.who ∙ sym outcome.after) refl,
    )
    row_of (meets_reap_ended none) = (refl, reap_ended none, same_shown _ _ refl refl refl refl refl (records_kept l) (gets_kept l) refl)
    row_of (meets_reaped {js} {ks} {outcome} {grant = grant} was alive_now reaped_now granted were counted) =
        let mid : RecordsView C = both_ended js ks (shown l).records in
        let done : Reaps (start l).config (max (latest l) at) (shown l).records js ks mid outcome =
        subst (λ (t : RecordsView C). Reaps (start l).config (max (latest l) at) (shown l).records js ks t outcome) reaped_now.state reaped_now in
        let is_grant : machine.IsGrant mid (decided.want (start l).config (handles l) mid) grant =
        subst (λ (t : RecordsView C). machine.IsGrant t (decided.want (start l).config (handles l) t) grant) reaped_now.state granted.granted in
        let here : Ended_at l at (position l) js ks = ended_at l at (position l) js ks outcome (entered_before l) refl done in
        let after : Ended_at l at (suc (position l)) js ks = ended_at l at (suc (position l)) js ks outcome (before_later idle_at (records l) (position l) (entered_before l)) (later_shown l) done in
        let to : List (Numbered (Standing C)) = with_ended (start l).first (reaped_at l at) (records l) in
        let same = ended_is l at js ks here in
        let idle_many : length ks ≡ length (idled_at l at) = ap (λ (xs : List ℕ). length xs) here.idle in (
          refl,
          reaps (open_now _ alive_now) (omega (arith, done.closed, here.aged, idle_many, length-append (outlived_at l at) (idled_at l at)))
              (done.by_idle ∙ idle_many) (done.by_life ∙ here.aged)
              (want_is l to grant _ (ended_all_before (position l) (start l).first (reaped_at l at) (records l) (entered_before l))
              (ap (shown_records (start l).first (position l) (peak l)) (sym same) ∙ here.shows) is_grant),
          same_shown _ _ refl refl refl refl refl
              (changed false l grant.count to _ (ap (shown_records (start l).first (suc (position l)) (peak l)) (sym same) ∙ after.shows ∙ ap (both_ended js ks) (later_shown l) ∙ sym reaped_now.state)
              ∙ sym granted.after) (gets_kept l)
              (ap (λ (x : Counts). record x { max_lifetime = x.max_lifetime + outcome.by_life; idle_timeout = x.idle_timeout + outcome.by_idle }) were ∙ ap counts_held (sym counted)),
        )
    row_of (meets_retire_ended below_is none) = (refl, retire_ended none, same_shown _ _ refl refl (sym below_is) refl refl (records_kept l) (gets_kept l) refl)
    row_of (meets_retired {js = js} {ks = ks} {outcome = outcome} {grant = grant} was below_is alive_now retired_now granted were counted) =
        let mid : RecordsView C = both_ended js ks (shown l).records in
        let done : Reaps (retiring_by (start l).config) (max (latest l) at) (shown l).records js ks mid outcome =
        subst (λ (t : RecordsView C). Reaps (retiring_by (start l).config) (max (latest l) at) (shown l).records js ks t outcome) retired_now.state retired_now in
        let is_grant : machine.IsGrant mid (decided.want (start l).config (handles l) mid) grant =
        subst (λ (t : RecordsView C). machine.IsGrant t (decided.want (start l).config (handles l) t) grant) retired_now.state granted.granted in
        let here : Retired_at l at (position l) js ks = retired_ends l at (position l) js ks outcome (entered_before l) refl done in
        let after : Retired_at l at (suc (position l)) js ks =
        retired_ends l at (suc (position l)) js ks outcome (before_later idle_at (records l) (position l) (entered_before l)) (later_shown l) done in
        let to : List (Numbered (Standing C)) = with_ended (start l).first (retired_at l at) (records l) in
        let same = retired_is l at js ks here in (
          refl,
          retires (open_now _ alive_now) (retired_many l at js ks outcome done.closed here)
              (want_is l to grant _ (ended_all_before (position l) (start l).first (retired_at l at) (records l) (entered_before l))
              (ap (shown_records (start l).first (position l) (peak l)) (sym same) ∙ here.shows) is_grant),
          same_shown _ _ refl refl (sym below_is) refl refl
              (changed false l grant.count to _ (ap (shown_records (start l).first (suc (position l)) (peak l)) (sym same) ∙ after.shows ∙ ap (both_ended js ks) (later_shown l) ∙ sym retired_now.state)
              ∙ sym granted.after) (gets_kept l)
              (only_retired (counts l) outcome.closed ∙ ap (λ (x : Counts). record x { retired = x.retired + outcome.closed }) were ∙ ap counts_held (sym counted)),
        )
    row_of (meets_state told) =
        (refl, subst (λ (x : Figures). Row l at State (ShownFigures x)) (sym (told l refl)) shows, same_shown _ _ refl refl refl refl refl (records_kept l) (gets_kept l) refl)
    row_of (meets_joined fit few) = (fit l legal refl, joins few, same_shown _ _ refl refl refl refl refl (records_kept l) (gets_kept l) refl)
    row_of (meets_join_exhausted fit many) = (fit l legal refl, join_exhausted many, same_shown _ _ refl refl refl refl refl (records_kept l) (gets_kept l) refl)
    row_of (meets_left_last fit last n_is rs_is) =
        let on : eqb (handles l) 1 ≡ true = ap (λ (m : ℕ). eqb m 1) last in (
          fit l legal refl,
          leaves (n_is ∙ idle_tally l ∙ ap (λ (b : Bool). cond b (idle_count l) 0) (sym on)),
          same_shown _ _ refl refl refl refl (ap (λ (m : ℕ). m - 1) last)
              (ap (λ (b : Bool). next_records l (cond b (shut (records l)) (records l))) on ∙ shut_shown l ∙ sym rs_is) (gets_kept l) refl,
        )
    row_of (meets_left fit more) =
        let off : eqb (handles l) 1 ≡ false = ne_test (handles l) 1 more in (
          fit l legal refl,
          leaves (ap (λ (b : Bool). cond b (idle_count l) 0) (sym off)),
          same_shown _ _ refl refl refl refl refl (ap (λ (b : Bool). next_records l (cond b (shut (records l)) (records l))) off ∙ records_kept l) (gets_kept l) refl,
        )
    row_of (meets_shut fit n_is rs_is) =
        (fit l legal refl, shuts (n_is ∙ idle_tally l), same_shown _ _ refl refl refl refl refl (shut_shown l ∙ sym rs_is) (gets_kept l) refl)
    row_of (meets_look alive_is) = (refl, looks refl alive_is, same_shown _ _ refl refl refl refl refl (records_kept l) (gets_kept l) refl)

  -- so it is a step of the state that the view of the fields is
  pub at_view : {s t new : StateView C} {at now : ℕ} {e : Act C} {a : Answer}
      → s ≡ t → HasLedger s → now ≡ max s.latest at → Meets s at now e a (unexamined new) → Steps t at e a new
  at_view {s} {t} {new} {at} {now} {e} {a} is h now_is m = (
    within is h,
    λ l legal means.
        let here : Represents l s = as_shown l (sym is) means in
        let row : IsRow l at e a (unexamined new) =
        row_of l legal at (subst (λ (x : StateView C). Meets x at (max x.latest at) e a (unexamined new)) (sym here)
        (subst (λ (n : ℕ). Meets s at n e a (unexamined new)) now_is m)) in
        (fitting (fits l e) _ _ row.0 row.1, beside (Later l at e a) row.2),
  )

  -- the step of an event that fits
  pub made : {s t new : StateView C} {at now : ℕ} {e : Act C} {a : Answer}
      → s ≡ t → HasLedger s → now ≡ max s.latest at → Meets s at now e a (unexamined new) → Steps t at e a new × Unit {0}
  made is h now_is m = (at_view is h now_is m, tt)
