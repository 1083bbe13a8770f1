-- Histories: entries in the order in which they were made.
use Rattle.std.specs.Prelude.{◌≡◌, ℕ, List, [], map, refl}
use Rattle.std.specs.Coded.{Coded, code_by, coded×, coded_ℕ, coded_list}
use Rattle.bb8_core.specs.declared.replay.events.Event.{Event}
use Rattle.bb8_core.specs.declared.replay.events.Answer.{Answer}
use Rattle.bb8_journal.specs.declared.journal.entries.Entry.{Entry}
use Rattle.bb8_types.specs.Settings.{Settings}
use Rattle.bb8_ledger.specs.Ledger.{Ledger, opening_with}
use Rattle.bb8_core.specs.Run.{IsRun, AfterEach}
use Rattle.bb8_core.specs.StateView.{StateView, state_view_code, Represents}

-- the contents of a journal: its entries, and the state that results
pub record Kept : Type 0 where
  pub entries : List Entry
  pub pool : StateView ℕ

-- an entry of a seat
abbrev pub entry : ℕ → Event → Answer → Entry
entry seat event answer = record { seat = seat; event = event; answer = answer }

-- the events of a history
abbrev pub events_of : List Entry → List Event
events_of = map (λ e. e.event)

-- their results
abbrev pub answers_of : List Entry → List Answer
answers_of = map (λ e. e.answer)

-- A history replays: from the empty ledger of the configuration on, the results of its entries are
-- allowed for their events, one by one, and the state represents the resulting ledger.
abbrev pub Replays : Settings → List Entry → StateView ℕ → Type 0
Replays config entries state = (last : Ledger ℕ) × IsRun (opening_with config 0 0) (events_of entries) (answers_of entries) last × Represents last state

-- This holds after each prefix of a history.
abbrev pub AfterEachEntry : (Ledger ℕ → Type 0) → Settings → List Entry → Type 0
AfterEachEntry Holds config entries = AfterEach Holds (opening_with config 0 0) (events_of entries) (answers_of entries)

-- without entries, with an empty pool
abbrev pub IsUnwritten : Settings → Kept → Type 0
IsUnwritten config kept = (kept.entries ≡ []) × Represents (opening_with config 0 0) kept.pool

-- the encoding of a journal's contents, as the pair of its fields
abbrev pub kept_code : Coded Entry → Coded Kept
kept_code c = code_by (List Entry × StateView ℕ) (coded× (coded_list c) (state_view_code coded_ℕ)) (λ k. (k.entries, k.pool)) (λ p. record { entries = p.0; pool = p.1 }) (λ _. refl)
