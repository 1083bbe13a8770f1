-- Which row of the step table an answer is, as a function that computes: so a worked row is settled
-- by evaluation.
use Rattle.bb8_ledger.proofs.Words.{◌≡◌, ◌≢◌, ℕ, suc, ◌+◌, ◌-◌, ◌<◌, ◌≤◌, min, max, Bool, true, false, eqb, ltb, leb, cond, List, [], ◌∷◌, Option, Some, None, is_some, option_map, option_and_then, map, and_right, IsLegal, slice_get, length, refl, ap, sym, subst, eqb-true, eqb-false, ltb-true, leb-true, leb-false, Grant, Standing, Guarded, Held, Numbered, one, after_end, Act, Begin, Try, CheckedOk, CheckedErr, GiveUp, PutBack, Detach, Evict, Fill, Ask, Claim, Opened, Failed, Add, Reap, Retire, Join, Leave, Close, Look, Answer, Begun, Memory, Exhausted, Served, Taken, Kept, Closed, GaveUp, Granted, Ended, Entered, Late, GivenBack, Added, Broken, NoCapacity, Withheld, Reaped, Joined, Left, Looked, Unfit, with_ended, Ledger, Later, start, latest, records, handles, next, next_get, conns, approved, conns_of, approved_of, idle_of, alive, idle_count, first_idle, oldest_waiter, unclaimed, peak, get_peak, get_of, at_place, figures, opening_with, asks_check, gets_stand, holds, is_unnotified, is_notified, Row, begins, begin_refused, begin_exhausted, waits_on, serves, takes_out, waits, checks, check_fails, gives_up, gives_up_kept, gives_up_closed, keeps, returns_closed, detaches, evicts, fills, asks_for, unprovided, claims, claim_ended, opens, opens_late, fails, add_broken, add_full, add_exhausted, add_refused, adds, reap_ended, reaps, retire_ended, retires, retired_at, joins, join_exhausted, leaves, shuts, looks, IsWant, fits, with_record, closes, comes_late, reaped_at, outlived_at, idled_at, leave_count, IsGranted, IsNoGrant, numbers_left, due, lacking, is_lawful, RowLine, WorkedRow, ledger_of, IsRow, first_waits, IsBackOff, IsMostWaits, sum_of_waits, end_of_numbers, most_handles, Waiting, Claimed, after, is_doubtful, arith, nat_tests}
use Rattle.std.specs.Bool.{MatchBool}
use Rattle.std.specs.List.{All, list_all}
use Rattle.std.proofs.lemmas.List.Elements.{All-nil, All-cons}

-- ---- tests, and what follows from their results

module _ {P : Type 0} where
  abbrev either : (b : Bool) → (b ≡ true → Option P) → (b ≡ false → Option P) → Option P
  either true then other = then refl
  either false then other = other refl

  abbrev when : (b : Bool) → (b ≡ true → Option P) → Option P
  when b then = either b then (λ e. None)

  abbrev unless : (b : Bool) → (b ≡ false → Option P) → Option P
  unless b other = either b (λ e. None) other

  abbrev when_same : (a b : ℕ) → (a ≡ b → Option P) → Option P
  when_same a b then = when (eqb a b) (λ e. then (eqb-true a b e))

  abbrev when_other : (a b : ℕ) → (a ≢ b → Option P) → Option P
  when_other a b then = unless (eqb a b) (λ e. then (eqb-false a b e))

  abbrev when_less : (a b : ℕ) → (a < b → Option P) → Option P
  when_less a b then = when (ltb a b) (λ e. then (ltb-true a b e))

  abbrev when_most : (a b : ℕ) → (a ≤ b → Option P) → Option P
  when_most a b then = when (leb a b) (λ e. then (leb-true a b e))

  abbrev when_agree : (a b : Bool) → (a ≡ b → Option P) → Option P
  when_agree true b then = when b (λ e. then (sym e))
  when_agree false b then = unless b (λ e. then (sym e))

  -- both are the same number, or there is none
  abbrev when_both : (a b : Option ℕ) → (a ≡ b → Option P) → Option P
  when_both None None then = then refl
  when_both (Some a) (Some b) then = when_same a b (λ e. then (ap (λ (n : ℕ). Some n) e))
  when_both _ _ then = None

  -- what is due is granted, or withheld within the bounds
  abbrev when_granted : (next taken peak due : ℕ) (g : Grant) → (IsGranted next taken peak due g → Option P) → Option P
  when_granted next taken peak due g then =
      when_same g.first next (λ first. when_same (g.count + g.withheld) due (λ split.
      when_most (min due (min (numbers_left next) (peak - taken))) g.count (λ least. when_most g.count (numbers_left next) (λ most.
      then (record { first = first; split = split; least = least; most = most })))))

  -- nothing is granted or withheld
  abbrev when_no_grant : (next : ℕ) (g : Grant) → (IsNoGrant next g → Option P) → Option P
  when_no_grant next g then = when_same g.first next (λ first. when_same g.count 0 (λ count. when_same g.withheld 0 (λ withheld.
      then (record { first = first; count = count; withheld = withheld }))))

  -- what there is
  found : (o : Option P) → is_some o ≡ true → P
  found o h = grind (arith, nat_tests)

-- what holds of one number holds of the other where they are the same
abbrev moved : (m k : ℕ) (P : ℕ → Type 0) → Option (P k) → Option (P m)
moved m k P o = when_same m k (λ e. option_map (λ (p : P k). subst P (sym e) p) o)

-- what holds where a test does, or where it does not
abbrev matched : {P Q : Type 0} (b : Bool) → Option P → Option Q → Option (MatchBool b P Q)
matched true p q = p
matched false p q = q

-- the answer says that the event does not fit
abbrev unfit : (a : Answer) → Option (a ≡ Unfit)
unfit Unfit = Some refl
unfit _ = None

module _ {C : Type 0} where
  -- the grant is what is wanted, once the records have changed to these
  abbrev when_wanted : {P : Type 0} (l : Ledger C) (rs : List (Numbered (Standing C))) (g : Grant) → (IsWant l rs g → Option P) → Option P
  when_wanted l rs g = let taken : ℕ = conns_of rs + approved_of rs in
      when_granted ((start l).first + length rs) taken (peak l) (due (start l).config (handles l) taken (lacking (start l).config (idle_of rs + approved_of rs))) g

  -- a grant, and the oldest waiter is notified
  abbrev when_told : {P : Type 0} (l : Ledger C) (n : Option ℕ) → (n ≡ oldest_waiter l → Option P) → Option P
  when_told l n = when_both n (oldest_waiter l)

  -- the row of the step table that an answer of an event that fits is
  abbrev row_of : (l : Ledger C) (at : ℕ) (e : Act C) (a : Answer) → Option (Row l at e a)
  row_of l at Begin (Begun g) = when_same g (next_get l) (λ is. when_less g end_of_numbers (λ few. Some (begins is few)))
  row_of l at Begin Memory = when_less (next_get l) end_of_numbers (λ few. when_same (alive l) (get_peak l) (λ full. Some (begin_refused few full)))
  row_of l at Begin Exhausted = when_most end_of_numbers (next_get l) (λ none. Some (begin_exhausted none))
  row_of l at (Try g) (Served k grant) =
      unless (gets_stand is_unnotified (get_of l g)) (λ anew. unless (asks_check l at k) (λ off.
      when_both (first_idle l) (Some k) (λ first. when_wanted l (with_record l k (at_place Guarded)) grant (λ want. Some (serves anew off first want)))))
  row_of l at (Try g) (Taken k grant) =
      unless (gets_stand is_unnotified (get_of l g)) (λ anew. when (asks_check l at k) (λ on.
      when_both (first_idle l) (Some k) (λ first. when_wanted l (with_record l k (at_place (Held g))) grant (λ want. Some (takes_out anew on first want)))))
  row_of l at (Try g) (Waiting grant) =
      either (gets_stand is_unnotified (get_of l g)) (λ on. when_no_grant (next l) grant (λ nothing. Some (waits_on on nothing)))
      (λ anew. when_both (first_idle l) None (λ none.
      when_granted (next l) (conns l + approved l) (peak l) (due (start l).config (handles l) (conns l + approved l) (one (ltb (approved l) (alive l)))) grant
      (λ granted. Some (waits anew none granted))))
  row_of l at (CheckedOk g) (Served k grant) = when_both (holds (get_of l g)) (Some k) (λ held. when_no_grant (next l) grant (λ nothing. Some (checks held nothing)))
  row_of l at (CheckedErr g broken) (Closed k grant n) =
      when_both (holds (get_of l g)) (Some k) (λ held. when_wanted l (with_record l k after_end) grant (λ want. when_told l n (λ is. Some (check_fails held want is))))
  row_of l at (GiveUp g why None broken) (GaveUp n) = when_both n (cond (gets_stand is_notified (get_of l g)) (oldest_waiter l) None) (λ is. Some (gives_up is))
  row_of l at (GiveUp g why (Some c) broken) (Kept k n) =
      when_both (holds (get_of l g)) (Some k) (λ held. unless (closes l at k (is_doubtful (start l).config broken)) (λ keep. when_told l n (λ is. Some (gives_up_kept held keep is))))
  row_of l at (GiveUp g why (Some c) broken) (Closed k grant n) =
      when_both (holds (get_of l g)) (Some k) (λ held. when (closes l at k (is_doubtful (start l).config broken)) (λ shut.
      when_wanted l (with_record l k after_end) grant (λ want. when_told l n (λ is. Some (gives_up_closed held shut want is)))))
  row_of l at (PutBack k c broken) (Kept m n) =
      moved m k (λ q. Row l at (PutBack k c broken) (Kept q n)) (unless (closes l at k broken) (λ keep. when_told l n (λ is. Some (keeps keep is))))
  row_of l at (PutBack k c broken) (Closed m grant n) = moved m k (λ q. Row l at (PutBack k c broken) (Closed q grant n))
      (when (closes l at k broken) (λ shut. when_wanted l (with_record l k after_end) grant (λ want. when_told l n (λ is. Some (returns_closed shut want is)))))
  row_of l at (Detach k) (Closed m grant n) = moved m k (λ q. Row l at (Detach k) (Closed q grant n))
      (when_wanted l (with_record l k after_end) grant (λ want. when_told l n (λ is. Some (detaches want is))))
  row_of l at (Evict k) (Closed m grant n) = moved m k (λ q. Row l at (Evict k) (Closed q grant n))
      (when_wanted l (with_record l k after_end) grant (λ want. when_told l n (λ is. Some (evicts want is))))
  row_of l at (Fill claimed) (Granted grant) = when_wanted l (records l) grant (λ want. Some (fills want))
  row_of l at Ask (Granted grant) = when_granted (next l) (conns l + approved l) (peak l)
      (due (start l).config (handles l) (conns l + approved l) (unprovided l)) grant (λ asked. Some (asks_for asked))
  row_of l at Claim (Claimed k) = when_less 0 (handles l) (λ open_now. when_both (slice_get (unclaimed l) 0) k (λ first. Some (claims open_now first)))
  row_of l at Claim Ended = when_same (handles l) 0 (λ none. Some (claim_ended none))
  row_of l at (Opened k c) (Entered m n) = moved m k (λ q. Row l at (Opened k c) (Entered q n)) (unless (comes_late l k) (λ in_time. when_told l n (λ is. Some (opens in_time is))))
  row_of l at (Opened k c) (Late m) = moved m k (λ q. Row l at (Opened k c) (Late q)) (when (comes_late l k) (λ late. Some (opens_late late)))
  row_of l at (Failed k) GivenBack = Some fails
  row_of l at (Add c true) Broken = Some add_broken
  row_of l at (Add c false) NoCapacity = when_same (conns l + approved l) (start l).config.max_size (λ full. Some (add_full full))
  row_of l at (Add c false) Withheld = when_other (conns l + approved l) (start l).config.max_size (λ room.
      either (leb end_of_numbers (next l)) (λ none. Some (add_exhausted room (leb-true _ _ none)))
      (λ some. when_same (conns l + approved l) (peak l) (λ full. Some (add_refused room (leb-false _ _ some) full))))
  row_of l at (Add c false) (Added k n) = when_other (conns l + approved l) (start l).config.max_size (λ room.
      when_less (next l) end_of_numbers (λ few. when_same k (next l) (λ is. when_told l n (λ who. Some (adds room few is who)))))
  row_of l at Reap Ended = when_same (handles l) 0 (λ none. Some (reap_ended none))
  row_of l at Reap (Reaped closed by_idle by_life grant) = when_less 0 (handles l) (λ open_now.
      when_same closed (length (reaped_at l at)) (λ closed_is. when_same by_idle (length (idled_at l at)) (λ by_idle_is.
      when_same by_life (length (outlived_at l at)) (λ by_life_is. when_wanted l (with_ended (start l).first (reaped_at l at) (records l)) grant (λ want.
      Some (reaps open_now closed_is by_idle_is by_life_is want))))))
  row_of l at Retire Ended = when_same (handles l) 0 (λ none. Some (retire_ended none))
  row_of l at Retire (Reaped closed by_idle by_life grant) = when_less 0 (handles l) (λ open_now.
      moved by_idle 0 (λ q. Row l at Retire (Reaped closed q by_life grant)) (moved by_life 0 (λ q. Row l at Retire (Reaped closed 0 q grant))
      (when_same closed (length (retired_at l at)) (λ closed_is. when_wanted l (with_ended (start l).first (retired_at l at) (records l)) grant (λ want.
      Some (retires open_now closed_is want))))))
  row_of l at Join Joined = when_less (handles l) most_handles (λ few. Some (joins few))
  row_of l at Join Exhausted = when_most most_handles (handles l) (λ most. Some (join_exhausted most))
  row_of l at Leave (Left n) = when_same n (leave_count l) (λ is. Some (leaves is))
  row_of l at Close (Left n) = when_same n (idle_count l) (λ is. Some (shuts is))
  row_of l at Look (Looked m open_now) = when_same m (max (latest l) at) (λ is. when_agree open_now (ltb 0 (handles l)) (λ same. Some (looks is same)))
  row_of l at _ _ = None

-- that the step table allows each result of these lines, after a legal ledger
abbrev legal_after : (l : Ledger ℕ) (lines : List RowLine) → IsLegal l → Option (IsLegal (after l lines))
legal_after l [] legal = Some legal
legal_after l (t ∷ lines) legal =
    option_and_then (λ allowed. legal_after (Later l t.at t.act t.answer) lines (legal, allowed)) (matched (fits l t.act) (row_of l t.at t.act t.answer) (unfit t.answer))

-- that a row has a lawful configuration, and allowed results
abbrev pub legal_row : (row : WorkedRow) → Option (IsLegal (ledger_of row))
legal_row row = when (is_lawful row.config) (λ lawful. legal_after (opening_with row.config row.first row.first_get) row.lines lawful)

-- worked rows, by evaluation
pub by_evaluation : (rows : List WorkedRow) → list_all (λ row. is_some (legal_row row)) rows ≡ true → map (λ row. figures (ledger_of row)) rows ≡ map (λ row. row.shown) rows → All IsRow rows
by_evaluation [] legal last = All-nil IsRow
by_evaluation (row ∷ rows) legal last =
    let both = and_right (is_some (legal_row row)) _ legal in
    All-cons IsRow row rows (record { legal = found (legal_row row) both.0; last = cc }) (by_evaluation rows both.1 cc)

-- the waits of a back-off, by evaluation
abbrev most_waits : (timeout n : ℕ) → Option (IsMostWaits timeout n)
most_waits timeout n = when_most (sum_of_waits timeout n) timeout (λ within. when_less timeout (sum_of_waits timeout (suc n)) (λ past. Some (record { within = within; past = past })))

pub waits_by_evaluation : {timeout : ℕ} {lines : List ℕ} {most : ℕ} → first_waits timeout (suc most) ≡ lines → is_some (most_waits timeout most) ≡ true → IsBackOff timeout lines most
waits_by_evaluation {timeout} {lines} {most} first h = record { first = first; within = found (most_waits timeout most) h }
