-- The words that the proofs speak with.
pub use Rattle.std.proofs.Common.{◌*◌, ◌≡◌, ◌≢◌, ℕ, max, Bool, true, false, cond, eqb, Some, None, sym, ap, ◌∙◌, refl, ne_eqb, ◌⊎◌, zero, suc, ◌+◌, ◌<◌, ◌≤◌, ◌||◌, List, [], ◌∷◌, ◌++◌, length, take, drop, ◌-◌, map, Option, slice_get, option_map, option_and_then, ⊎_elim, inl, inr, arith, subst, length-append, min, ltb, leb, is_some, ◌&&◌, not, length-take, length-drop, MatchBool}
pub use Rattle.std.proofs.lemmas.List.{length-map}
pub use Rattle.std.proofs.Math.Seq.{take-length, drop-length}
pub use Rattle.std.specs.Option.{unwrap_or, IfSome}
pub use Rattle.std.proofs.lemmas.Bool.{false≢true, eq-eqb, eqb-true, eqb-false, ltb-true, leb-true, leb-false}
pub use Rattle.std.specs.Prelude.{⊤}
pub use Rattle.std.proofs.lemmas.Bool.Decides.{nat_tests}
pub use Rattle.bb8_types.specs.declared.grants.Grant.{Grant}
pub use Rattle.bb8_types.specs.declared.standing.GetPlace.TheVariants.{Active, Holding, Waiting}
pub use Rattle.bb8_types.specs.declared.standing.Getting.{Getting}
pub use Rattle.bb8_types.specs.Numbered.{Numbered, update, after_end, at as at_number, numbers, in_order, one, standing_at, after_end_where, tally, at}
pub use Rattle.bb8_types.specs.Places.{holds, is_trying, first_place, stands, is_conn, is_approval, is_idle, is_out, is_unclaimed, is_claimed, is_guarded, is_held_by, idles_out, lives_out, is_left, with_place, gets_stand, is_unnotified, is_notified, birth_in, entered_in, is_checked, is_doubtful, get_with_place, get_in_wait, first_of, held_in}
pub use Rattle.bb8_types.specs.declared.standing.Place.{Place}
pub use Rattle.bb8_types.specs.declared.standing.Place.TheVariants.{Unclaimed, Idle, Held, Guarded, Claimed}
pub use Rattle.bb8_types.specs.declared.standing.Standing.{Standing}
pub use Rattle.bb8_types.specs.declared.standing.Holder.{Holder}
pub use Rattle.bb8_types.specs.declared.standing.Holder.TheVariants.{Guard, Get}
pub use Rattle.bb8_types.specs.Settings.{Settings, is_lawful}
pub use Rattle.bb8_types.proofs.Places.{standing_is, unclaimed_is, claimed_is, guarded_is, idle_is, and_right, conn_from}
pub use Rattle.bb8_types.specs.Grants.{IsGranted, IsNoGrant, numbers_left, due, lacking}
pub use Rattle.bb8_types.specs.Figures.{Figures, Counts}
pub use Rattle.bb8_types.specs.Bounds.{end_of_numbers, most_handles}
pub use Rattle.bb8_types.specs.declared.standing.GetPlace.{GetPlace}
pub use Rattle.bb8_types.specs.declared.api.configuration.QueueStrategy.{QueueStrategy}
pub use Rattle.bb8_types.specs.declared.api.configuration.QueueStrategy.TheVariants.{Fifo, Lifo}
pub use Rattle.bb8_types.proofs.Numbered.{Before, change}
pub use Rattle.bb8_ledger.specs.Acts.{Act, Leave, Close, Begin, Try, CheckedOk, CheckedErr, GiveUp, PutBack, Detach, Evict, Fill, Ask, Claim, Opened, Failed, Add, Reap, Retire, Join, Look, Reason, TimedOut, Cancelled, get_in}
pub use Rattle.bb8_ledger.specs.Answers.{Answer, Taken, Left, Unfit, Begun, Memory, Exhausted, Served, Kept, Closed, GaveUp, Granted, Ended, Entered, Late, GivenBack, Added, Broken, NoCapacity, Withheld, Reaped, Joined, Looked, Claimed, Waiting}
pub use Rattle.bb8_ledger.specs.Ledger.{Ledger, Later, start, position, latest, gets, get_of, get_at_place, at_wait, Opening, Start, handles, records, conns, approved, idle_count, out, idle, idle_at, first_idle, unclaimed, record_of, with_ended, outlived, idled, reaped, over_idle_at, tally_places, conns_of, approved_of, idle_of, at_place, entry, at_entry, approval, with_approvals, next, next_get, alive, oldest_waiter, peak, get_peak, figures, opening_with, records_after, gets_after, unnotified_at, new_get, with_notice, notified, unnotified, tally_gets, alive_of, invalid, idled_out, counts, moment_after, expires, waited_since, started, direct, waited, timed_out, cancelled, created, broken, expired, asks_check, retired, retiring, closed_retired, detached}
pub use Rattle.bb8_ledger.specs.Table.{Row, begins, waits_on, serves, takes_out, waits, checks, check_fails, gives_up, gives_up_kept, gives_up_closed, keeps, returns_closed, detaches, evicts, opens, adds, asks_for, unprovided, shuts, IsLegal, fits, Allowed, with_record, reaped_at, outlived_at, idled_at, begin_refused, begin_exhausted, fills, claims, claim_ended, opens_late, fails, add_broken, add_full, add_exhausted, add_refused, reap_ended, reaps, retires, retire_ended, retired_at, joins, join_exhausted, leaves, looks, IsWant, closes, comes_late, leave_count, agree}
pub use Rattle.bb8_ledger.specs.Limits.{Remembers, AtEach, HasTaken, last_try, ServesChecked, KeepsLimits, KeepsLaws, KeepsPromises, MayLower, lost, is_lent, ServesUnlent, reap_granted, IsMadeGood, ReapsOnce, GivesNext, numbers_given, gets_given, MakesGood}
pub use Rattle.bb8_ledger.specs.Rows.{RowLine, WorkedRow, ledger_of, IsRow, first_waits, IsBackOff, after}
pub use Rattle.bb8_ledger.specs.Waits.{IsMostWaits, waits as sum_of_waits}
