-- The words that the proofs speak with.
pub use Rattle.bb8_core.proofs.Words.{Bool, true, false, cond, ◌≡◌, ℕ, zero, suc, ◌+◌, ◌<◌, ◌≤◌, ◌⊎◌, inl, inr, List, [], ◌∷◌, ◌++◌, map, length, take, get_or, refl, sym, ap, ◌∙◌, subst, append-nil, arith, max, ◌&&◌, ltb, is_some, nat_tests, Act, Ledger, Later, start, position, latest, handles, gets, alive, get_of, new_get, Row, begins, waits_on, serves, takes_out, waits, checks, check_fails, gives_up, gives_up_kept, gives_up_closed, keeps, returns_closed, detaches, evicts, opens, adds, leaves, shuts, fits, Allowed, IsLegal, and_right, no_accesses, StateView, HasLedger, answer_of, Settings, is_lawful, Represents, KeepsLimits, KeepsLaws, KeepsPromises, keeps_limits, keeps_laws, keeps_promises}
pub use Rattle.std.proofs.Common.{◌==◌, All, IsPermutation, vec_len, vec_capacity}
pub use Rattle.std.specs.List.{Contains, sum_by, remove, range_with_len}
pub use Rattle.std.proofs.lemmas.List.{take_more, length-take-le, length-map, map-append, take_all, get_or-map}
pub use Rattle.std.proofs.lemmas.List.Elements.{All-nil, All-cons, All-weaker, All-contains, All-head, All-tail, All-push, Contains-get_or, Contains-append_left, Contains-append_right, Contains-append_cases}
pub use Rattle.bb8_core.specs.declared.replay.events.Answer.{Answer, Answer as ReplayAnswer}
pub use Rattle.bb8_journal.specs.declared.journal.entries.Entry.{Entry}
pub use Rattle.bb8_journal.specs.declared.journal.seats.Notes.{Notes}
pub use Rattle.bb8_journal.specs.Audit.{Line, lines_from, lines_by, lines_noted, IsAccount, entries_of, steps_in}
pub use Rattle.bb8_core.specs.Run.{act_of, Happens, IsTaken, Applies}
pub use Rattle.bb8_core.specs.Endings.{endings_of}
pub use Rattle.bb8_core.proofs.Runs.{unfit_now, run_more, run_legal, run_after}
pub use Rattle.bb8_journal.specs.History.{Replays, AfterEachEntry, entry, events_of, answers_of, Kept}
pub use Rattle.bb8_journal.specs.Notes.{steps_of, notes_of, fresh}
