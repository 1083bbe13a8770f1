-- The words that the proofs speak with.
pub use Rattle.std.proofs.Common.{◌≡◌, ◌≢◌, ℕ, ◌+◌, ◌-◌, ◌<◌, ◌≤◌, Bool, true, false, cond, not, List, [], ◌∷◌, ◌++◌, map, length, Option, Some, None, IsSome, set, get_or, slice_get, drop, refl, sym, ap, ◌∙◌, arith, subst, length-append, append-nil, append_assoc, is_some, ◌&&◌, ◌⊎◌, inl, inr, ⊎_elim, zero, suc, option_map, eq-eqb, ne_eqb, get_or-set_other, get_or-set_same, Result, Ok, Err, OnOk, OnErr, eqb, nat_cmp, append_assoc, max}
pub use Rattle.std.proofs.lemmas.List.{map_push, drop-map, length-map, map-set, map-append}
pub use Rattle.std.specs.FinMap.{insert, get, FinMap, remove, get-empty}
pub use Rattle.bb8_tables.specs.TableView.{TableView, slot_at, filled, freed, Restands}
pub use Rattle.bb8_tables.specs.Ordered.{Ordered, most_places}
pub use Rattle.bb8_tables.specs.Tables.{slot_in, slots_of, view_of_table, IsGoodTable, AreFree}
pub use Rattle.bb8_tables.specs.Spelled.{Absent, Spells, walk, Joins, LinksLead}
pub use Rattle.circular_buffer.specs.Buffer.{Buffer, buffer}
pub use Rattle.bb8_types.specs.declared.standing.Place.{Place}
pub use Rattle.bb8_types.specs.declared.standing.Place.TheVariants.{Unclaimed, Claimed, Idle, Guarded, Held}
pub use Rattle.bb8_types.specs.declared.standing.Standing.{Standing}
pub use Rattle.bb8_types.specs.declared.standing.Holder.{Holder}
pub use Rattle.bb8_types.specs.declared.standing.Holder.TheVariants.{Guard, Get}
pub use Rattle.bb8_tables.specs.declared.keys.Key.{Key}
pub use Rattle.bb8_tables.specs.declared.table.Slot.{Slot}
pub use Rattle.bb8_types.specs.declared.api.configuration.QueueStrategy.{QueueStrategy}
pub use Rattle.bb8_types.specs.Places.{is_idle, is_unclaimed, is_conn, is_approval, is_out, place_with, with_place, first_place, first_of, comes_from, birth_in, entered_in, is_unnotified, get_in_wait, get_with_place, lives_out, is_past, is_expired, idles_out, first_or, is_claimed, is_guarded, stands}
pub use Rattle.bb8_tables.specs.Slots.{IsTable, number_in, numbers_at, ArePlaces, IsRising, values_at, IsOrder, AllFrom, IsDistinct, IsLine}
pub use Rattle.bb8_tables.specs.State.{view_of_records, AreGoodRecords, passes, IsLineOf, IsOrderOf, view_of_gets, AreGoodGets, AreWaitingPlaces}
pub use Rattle.bb8_types.specs.Numbered.{tally, one}
pub use Rattle.bb8_tables.specs.Views.{RecordsView, NoneAfter, GetsView}
pub use Rattle.bb8_types.specs.Bounds.{most_records, end_of_numbers}
pub use Rattle.bb8_types.specs.declared.standing.GetPlace.{GetPlace}
pub use Rattle.bb8_types.specs.declared.standing.GetPlace.TheVariants.{Active, Waiting}
pub use Rattle.bb8_types.specs.declared.standing.Getting.{Getting}
pub use Rattle.bb8_types.specs.Settings.{Settings, settings_of}
pub use Rattle.bb8_tables.specs.declared.closed.Closed.{Closed}
pub use Rattle.bb8_tables.specs.Closed.{offered_all, closed_in, closed_of, offered}
pub use Rattle.bb8_tables.specs.Dues.{Ends, EndsIdle, Passes}
pub use Rattle.bb8_tables.specs.Machine.{without}
pub use Rattle.bb8_tables.specs.Reaps.{after_reaped, after_reap, AreFirst, beyond, Reaps, AreReaped}
pub use Rattle.std.proofs.lemmas.Option.{slice_get-map, slice_get_past, slice_get_read, slice_get_within}
pub use Rattle.std.proofs.lemmas.Bool.{leb-false, lt-leb, cases_lt}
pub use Rattle.bb8_tables.specs.declared.records.reaps.Age.TheVariants.{Young, Out, Aged}
pub use Rattle.bb8_tables.specs.AccessCount.{AccessCount, AddsReads, counts_read, counts_search}
pub use Rattle.std.proofs.Math.Seq.{map-set_same}
pub use Rattle.std.proofs.lemmas.Bool.Decides.{eqb_tells, nat_tests}
pub use Rattle.std.specs.declared.alloc.AllocError.{AllocError}
pub use Rattle.std.specs.Vec.{with_item}
pub use Rattle.bb8_tables.specs.declared.records.Records.TheInside.{Inside}
pub use Rattle.bb8_types.proofs.Places.{approval_from, conn_from, held_conn, idle_from, idle_is, unclaimed_from, unclaimed_is}
pub use Rattle.bb8_types.proofs.Numbered.{get_inserted, get_removed, inserted_again, removed_inserted, same_gets, same_or_not}
