-- What holds of every legal ledger: the limits, the laws, and the promises to those who wait.
use Rattle.bb8_ledger.proofs.Words.{Place, stands, one, ◌≡◌, ℕ, suc, ◌+◌, ◌-◌, ◌<◌, ◌≤◌, max, min, true, Option, Some, sym, ap, ◌∙◌, inl, arith, subst, Standing, Getting, is_lawful, Counts, Act, Try, Answer, after_end, Ledger, Opening, Later, start, position, latest, retired, records, gets, handles, next, next_get, conns, approved, idle_count, alive, notified, unnotified, oldest_waiter, record_of, get_of, with_notice, counts, is_conn, is_approval, gets_stand, is_unnotified, is_trying, Row, begins, waits_on, serves, takes_out, waits, checks, check_fails, gives_up, gives_up_kept, gives_up_closed, keeps, returns_closed, detaches, evicts, opens, adds, IsLegal, fits, KeepsLimits, KeepsLaws, KeepsPromises, lost, and_right, Claimed, asks_check, nat_tests, AtEach, GivesNext, ServesUnlent, ServesChecked, MakesGood, ReapsOnce, Remembers}
use Rattle.bb8_types.proofs.Numbered as numbered
use Rattle.bb8_ledger.proofs.Facts.{conns_split, waited_before}
use Rattle.bb8_ledger.proofs.Waiters.{changed_tally, getting_is, alive_counted, InLine, line_later, line_begun, line_begins, line_notified, line_given_up}
use Rattle.bb8_ledger.proofs.Effects.{each_legal, at_each}
use Rattle.bb8_ledger.proofs.GetEffects.{getting, handed_to, trier, trier_leaves, trier_holds, holder_ends, holder_turns, left_line, left_told_line}
use Rattle.bb8_ledger.proofs.Sums.{Sums, Serves, row_sums}
pub use Rattle.bb8_ledger.proofs.Sums.{due_few}
pub use Rattle.bb8_ledger.proofs.GetEffects.{alive_get, waits_on_gets}
use Rattle.bb8_ledger.proofs.Places.{all_keep_places}
use Rattle.bb8_ledger.proofs.Wants.{either_none, row_makes_good}
use Rattle.bb8_ledger.proofs.Reaps.{row_once}
use Rattle.bb8_ledger.proofs.Retired.{AreFrom, from, row_from, row_few}
use Rattle.bb8_ledger.proofs.Held.{all_held, all_holding, row_unlent, row_checked}

-- The sizes and the statistics of a ledger fit together.
pub record Fits (max_size conns approved next alive next_get : ℕ) (c : Counts) : Type 0 where
  pub size : conns + approved ≤ max_size
  pub started_few : c.started ≤ next_get
  pub answered : c.direct + c.waited + c.timed_out + c.cancelled + alive ≡ c.started
  pub created_few : c.created + approved ≤ next
  pub closed_few : c.broken + c.retired + c.max_lifetime + c.detached + conns + approved ≤ next

module _ {C : Type 0} where
  abbrev pub AllFit : Ledger C → Type 0
  AllFit l = Fits (start l).config.max_size (conns l) (approved l) (next l) (alive l) (next_get l) (counts l)

  -- a connection and a claimed approval are counted
  pub conn_counted : (l : Ledger C) (k : ℕ) (s : Standing C) → record_of l k ≡ Some s → is_conn s.place ≡ true → 1 ≤ conns l
  conn_counted l k s h conn_now =
      let m = numbered.standing_found (records l) (start l).first k s h in
      omega (arith, changed_tally (stands is_conn) after_end (records l) (start l).first k m.0 (Some s) m.1 m.2, ap one conn_now)

  pub claimed_counted : (l : Ledger C) (k : ℕ) (s : Standing C) → record_of l k ≡ Some s → s.place ≡ Claimed → 1 ≤ approved l
  claimed_counted l k s h place =
      let m = numbered.standing_found (records l) (start l).first k s h in
      omega (arith, changed_tally (stands is_approval) after_end (records l) (start l).first k m.0 (Some s) m.1 m.2, ap (λ (p : Place C). one (is_approval p)) place)

  -- ---- the get of an event

  -- a get that tries is alive, and active or waiting
  pub trying_is : (l : Ledger C) (g : ℕ) → fits l (Try g) ≡ true → (st : Getting) × (get_of l g ≡ Some st) × (is_trying st.place ≡ true)
  trying_is l g f = getting_is is_trying (get_of l g) f

  -- a get that is alive is counted
  pub alive_is : (l : Ledger C) (g : ℕ) (st : Getting) → get_of l g ≡ Some st → 1 ≤ alive l
  alive_is l g st h =
      let m = numbered.standing_found (gets l) (start l).first_get g st h in
      omega (arith, alive_counted (start l).first_get g (gets l) m.0 st m.1 m.2)

  -- ---- the sizes and the statistics

  pub all_fit : (l : Ledger C) → IsLegal l → AllFit l
  all_fit = each_legal AllFit (λ s lawful. omega arith) (λ l at e h. h) (λ l at e a legal f row h. let r = row_sums l at e a legal f row in omega (arith, r, r.size h.size))

  -- the configuration of a legal ledger is lawful
  pub lawful_start : (l : Ledger C) → IsLegal l → is_lawful (start l).config ≡ true
  lawful_start (Opening s) legal = legal
  lawful_start (Later l at e a) legal = lawful_start l legal.0

  pub all_serve : (l : Ledger C) → IsLegal l → Serves l
  all_serve = each_legal Serves (λ s lawful. omega arith) (λ l at e h. omega arith) (λ l at e a legal f row h. (row_sums l at e a legal f row).serves (all_fit l legal).size h)

  -- ---- what is retired

  -- all that is had a number, and none of it is idle
  abbrev NoneRetired : Ledger C → Type 0
  NoneRetired l = (retired l ≤ next l) × AreFrom (retired l) (start l).first (records l)

  none_retired : (l : Ledger C) → IsLegal l → NoneRetired l
  none_retired = each_legal NoneRetired (λ s lawful. (omega arith, tt)) (λ l at e h. h)
      (λ l at e a legal f row h. (
        row_few l at e a row (omega (arith, (row_sums l at e a legal f row).gives.more)) h.0,
        row_from l at e a row h.0 (λ none. omega (arith, none, (all_serve l legal).none_idle)) h.1,
      ))

  -- ---- the limits

  pub keeps_limits : (l : Ledger C) → IsLegal l → KeepsLimits l
  keeps_limits l legal = grind (arith, nat_tests, all_fit l, conns_split (records l), all_held, all_holding, either_none (unnotified l) (idle_count l - notified l), all_serve l, from, none_retired l)

  -- ---- the laws

  pub keeps_laws : (l : Ledger C) → IsLegal l → KeepsLaws l
  keeps_laws l legal = record {
    numbers = at_each GivesNext (λ l at e. omega arith) (λ l at e a legal f row. (row_sums l at e a legal f row).gives) l legal;
    returned = at_each ServesUnlent (λ l at e. tt) row_unlent l legal;
    checked = at_each ServesChecked (λ l at e. tt) (λ l at e a legal f row. row_checked l at e a legal row) l legal;
    replenished = at_each (λ l at e a. MakesGood (Later l at e a) e a) (λ l at e. tt) (λ l at e a legal f row. row_makes_good l at e a row) l legal;
    reaped = at_each ReapsOnce (λ l at e. tt) (λ l at e a legal f row. row_once l at e a legal row) l legal;
    answered = (all_fit l legal).answered;
    pending = omega (arith, all_fit l legal);
  }

  -- where `test_after` is 0, as it is where nothing is set, all are to be checked, or none: as the
  -- check is on or off
  pub checks_all : (l : Ledger C) (at k : ℕ) → (start l).config.test_after ≡ 0 → asks_check l at k ≡ (start l).config.test_on_check_out
  checks_all l at k zero = grind (arith, zero)

  -- ---- the promises

  abbrev pub AllInLine : Ledger C → Type 0
  AllInLine l = InLine (start l).first_get (position l) (gets l)

  -- the oldest waiter is notified in its turn
  told_in_line : (l : Ledger C) (n : Option ℕ) → n ≡ oldest_waiter l → AllInLine l → InLine (start l).first_get (suc (position l)) (with_notice (start l).first_get n (gets l))
  told_in_line l n is i = line_later (start l).first_get (position l) (with_notice (start l).first_get n (gets l)) (line_notified (start l).first_get (position l) n (gets l) is i)

  row_in_line : (l : Ledger C) (at : ℕ) (e : Act C) (a : Answer) → fits l e ≡ true → Row l at e a → AllInLine l → AllInLine (Later l at e a)
  row_in_line l at _ _ f (begins is few) i = line_begun (start l).first_get (position l) (gets l) i
  row_in_line l at _ _ f (waits_on {g} on nothing) i = subst (InLine (start l).first_get (suc (position l))) (sym (waits_on_gets l at g on)) (line_later (start l).first_get (position l) (gets l) i)
  row_in_line l at _ _ f (serves {g} not_waiting off first want) i = left_line (trier_leaves l g f not_waiting) i
  row_in_line l at _ _ f (takes_out {g} {k} not_waiting on first want) i = left_line (trier_holds l g k f not_waiting) i
  row_in_line l at _ _ f (waits {g} not_waiting none granted) i =
      let st = trier l g f not_waiting in
      let m = getting l g st.0 st.1 in
      line_begins (start l).first_get (max (latest l) at) (position l) g (gets l) m.0 st.0 m.1 m.2 (ap (gets_stand is_unnotified) m.2 ∙ st.2) (waited_before l) i
  row_in_line l at _ _ f (checks {g} {k} holds_it nothing) i = left_line (holder_ends l g k holds_it).0 i
  row_in_line l at _ _ f (check_fails {g} {k} {n} holds_it want is) i = left_told_line (holder_turns l g k holds_it).0 n is i
  row_in_line l at _ _ f (gives_up {g} {n} is) i = grind (arith, nat_tests, alive_get, and_right, getting, line_later, line_given_up, handed_to)
  row_in_line l at _ _ f (gives_up_kept {g} {k} {n} holds_it keep is) i = left_told_line (holder_ends l g k holds_it).0 n is i
  row_in_line l at _ _ f (gives_up_closed {g} {k} {n} holds_it shut want is) i = left_told_line (holder_ends l g k holds_it).0 n is i
  row_in_line l at _ _ f (keeps {n} keep is) i = told_in_line l n is i
  row_in_line l at _ _ f (returns_closed {n} shut want is) i = told_in_line l n is i
  row_in_line l at _ _ f (detaches {n} want is) i = told_in_line l n is i
  row_in_line l at _ _ f (evicts {n} want is) i = told_in_line l n is i
  row_in_line l at _ _ f (opens {n} in_time is) i = told_in_line l n is i
  row_in_line l at _ _ f (adds {n} room few is who) i = told_in_line l n who i
  row_in_line l at _ _ f _ i = line_later (start l).first_get (position l) (gets l) i

  -- waiters are in the queue
  pub all_in_line : (l : Ledger C) → IsLegal l → AllInLine l
  all_in_line = grind (arith, nat_tests, each_legal AllInLine, line_later, row_in_line)

  -- an event forgets no notification
  remembers : (l : Ledger C) (at : ℕ) (e : Act C) (a : Answer) → Sums l at e a → Remembers l at e a
  remembers l at e a s = grind (arith, nat_tests)

  all_remembered : (l : Ledger C) → IsLegal l → AtEach Remembers l
  all_remembered = at_each Remembers (λ l at e. inl (omega arith)) (λ l at e a legal f row. remembers l at e a (row_sums l at e a legal f row))

  promised_open : (l : Ledger C) → 0 < handles l → Serves l
      → min (unnotified l - (approved l + lost l)) ((start l).config.max_size - (conns l + approved l) + idle_count l - (notified l + lost l)) ≡ 0
  promised_open l open_now s = omega arith

  pub keeps_promises : (l : Ledger C) → IsLegal l → KeepsPromises l
  keeps_promises l legal = grind (arith, nat_tests, either_none, promised_open, all_serve, all_remembered, all_in_line, all_keep_places)
