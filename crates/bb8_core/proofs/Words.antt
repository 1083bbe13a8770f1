-- The words that the proofs speak with.
pub use Rattle.bb8_ledger.proofs.Words.{arith, refl, sym, ◌∙◌, ap, ℕ, leb, ◌≡◌, ◌+◌, false, subst, Some, true, ◌≤◌, Bool, Option, None, List, Idle, Numbered, ◌<◌, cond, max, slice_get, suc, Ledger, update, Before, eqb, after_end, Standing, length, ◌∷◌, start, standing_is, idle_at, and_right, ◌≢◌, stands, records, [], one, ◌-◌, ◌&&◌, Grant, gets_stand, Counts, Guarded, Getting, in_order, ◌++◌, latest, end_of_numbers, position, idle_is, option_and_then, peak, is_idle, numbers, Place, fits, is_unnotified, Later, standing_at, change, conns_of, approved_of, Begin, Active, Try, Served, tally, drop, gets, is_out, Unclaimed, IsLegal, Held, get_of, is_some, with_notice, ◌||◌, not, length-append, option_map, is_conn, is_unclaimed, at, is_approval, take, first_of, Begun, lives_out, outlived, outlived_at, ⊎_elim, Start, reaped_at, idles_out, idled_at, Settings, is_claimed, Leave, alive, is_guarded, conns, due, holds, handles, GiveUp, record_of, claimed_is, counts, GaveUp, get_peak, Closed, get_at_place, unnotified_at, Kept, min, gives_up_closed, is_notified, checks, ◌*◌, check_fails, oldest_waiter, gives_up_kept, claims, opens_late, returns_closed, takes_out, idle_count, serves, Allowed, Act, fills, asks_for, Ask, shuts, Close, opens, leaves, Row, waits_on, keeps, Answer, waits, fails, adds, reaps, idle, with_ended, Ended, Holding, alive_of, unclaimed_is, map, after_end_where, zero, with_approvals, at_place, entry, conn_from, IsNoGrant, Figures, is_trying, at_number, approved, Reason, is_held_by, Cancelled, ltb-true, timed_out, cancelled, CheckedOk, broken, gives_up, CheckedErr, expires, Unfit, out, reap_ended, Reap, Reaped, at_wait, get_in_wait, get_with_place, new_get, GetPlace, is_left, ◌⊎◌, idle_of, over_idle_at, inr, unwrap_or, ne_eqb, inl, idled, approval, with_place, Join, Broken, add_exhausted, PutBack, Detach, Evict, detaches, evicts, Claim, NoCapacity, GivenBack, looks, add_refused, Joined, Look, Fill, ltb, Memory, add_broken, Late, Failed, Added, claim_ended, lacking, retired, retiring, retired_at, retires, retire_ended, Retire, Left, nat_tests, Granted, begin_refused, begins, begin_exhausted, Entered, at_entry, IsGranted, IsWant, most_handles, next, birth_in, entered_in, is_checked, asks_check, Taken, Add, Opened, figures, closes, with_record, add_full, joins, Withheld, join_exhausted, Exhausted, first_place, Looked, is_lawful, KeepsLaws, KeepsPromises, KeepsLimits, detached}
pub use Rattle.std.proofs.Common.{IfSome, eq-eqb, filter, append-nil, MatchBool, IfNone, IsSome, get_or}
pub use Rattle.std.specs.FinMap.{get, insert, FinMap, remove}
pub use Rattle.bb8_types.proofs.Numbered.{same_or_not, at-below, before_later, get_inserted, eqb_self, get_removed, change_below, ne_test}
pub use Rattle.bb8_types.proofs.Places.{guarded_out, unclaimed_from, idle_from, approval_from}
pub use Rattle.bb8_types.specs.Bounds.{most_micros}
pub use Rattle.bb8_types.specs.Numbered.{standings}
pub use Rattle.bb8_types.specs.Places.{first_wait_of, micros_since, comes_from, is_doubtful, is_expired, place_with}
pub use Rattle.bb8_types.specs.declared.standing.Place.TheVariants.{Claimed}
pub use Rattle.bb8_tables.proofs.Views.{same_records, same_gets}
pub use Rattle.bb8_tables.specs.Counted.{counts_held}
pub use Rattle.bb8_tables.specs.AccessCount.{no_accesses, AccessCount}
pub use Rattle.bb8_tables.specs.Reaps.{after_reap, AreFirst, Reaps, after_reaped, AreReaped, beyond}
pub use Rattle.bb8_tables.specs.Views.{RecordsView, GetsView, NoneAfter, no_gets, no_records}
pub use Rattle.bb8_tables.specs.declared.counters.Counters.{Counters}
pub use Rattle.bb8_tables.specs.declared.records.reaps.Reaped.{Reaped as ReapCounts}
pub use Rattle.bb8_ledger.proofs.Effects.{lives_idle, idles_idle, reaped_sized, granted_reaped, closes_turn, evicts_turn, idle_turns, retired_sized, ends_turn, opens_turn, left_sized, shut_sized, stays_sized, turned_sized, returns_turn, granted_sized, each_allowed, unclaimed_turns, adds_sized, ended_append, over_idle, over_idle_line, ended_swept}
pub use Rattle.bb8_ledger.proofs.Facts.{entered_before, ended_before, idle_counted, waited_before, peak_holds, get_peak_holds, idle_tally, waiting_counted, ended_all_before, conns_split, put_before}
pub use Rattle.bb8_ledger.proofs.GetEffects.{holding_is}
pub use Rattle.bb8_ledger.proofs.Held.{all_held, drops_turn, hands_in_turn, checks_turn}
pub use Rattle.bb8_ledger.proofs.Laws.{claimed_counted, trying_is, all_fit, keeps_laws, keeps_promises, keeps_limits, Fits, alive_get, due_few, alive_is, conn_counted, waits_on_gets, lawful_start}
pub use Rattle.bb8_ledger.proofs.Standings.{tested, conns-change, approved-change}
pub use Rattle.bb8_ledger.specs.Ledger.{waiting, wait_micros}
pub use Rattle.bb8_core.specs.Pool.{view_of}
pub use Rattle.bb8_core.specs.Run.{IsRun, opening, answer_of, AfterEach, act_of, act_with, fits_named}
pub use Rattle.bb8_core.specs.StateView.{StateView, shown_records, HasLedger, IsFitting, Represents, shown_beside, IsWithinLimits, Steps, shown_gets, IsGetIn, IsNoGetIn, IsNoRecordIn, IsRecordIn}
pub use Rattle.bb8_core.specs.StepAnswers.{reason_of}
pub use Rattle.bb8_tables.specs.declared.keys.Key.{Key}
pub use Rattle.bb8_core.specs.declared.replay.events.Event.{Event}
pub use Rattle.bb8_ledger.specs.Acts.{State}
pub use Rattle.bb8_ledger.specs.Answers.{Shown as ShownFigures}
pub use Rattle.bb8_ledger.specs.Table.{agree, shows}
pub use Rattle.bb8_core.specs.declared.replay.events.Act.{Act as Named}
