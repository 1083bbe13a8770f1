-- Histories that grow, and what holds after each beginning of one.
use Rattle.bb8_journal.proofs.Words.{◌≡◌, ℕ, List, [], ◌∷◌, ◌++◌, true, refl, map-append, Answer, Entry, Settings, is_lawful, Ledger, Later, IsLegal, StateView, Represents, Applies, act_of, answer_of, run_more, run_legal, run_after, Replays, AfterEachEntry, entry, events_of, answers_of}
use Rattle.bb8_core.specs.declared.replay.events.Event.{Event}
use Rattle.bb8_ledger.specs.Ledger.{opening_with}

-- no entry
pub replays_none : (config : Settings) (state : StateView ℕ) → Represents (opening_with config 0 0) state → Replays config [] state
replays_none config state means = (opening_with config 0 0, refl, means)

-- one entry more
pub replays_more : (config : Settings) (entries : List Entry) (old new : StateView ℕ) (seat : ℕ) (e : Event) (a : Answer) → is_lawful config ≡ true
    → Replays config entries old → Applies old e a new → Replays config (entries ++ entry seat e a ∷ []) new
replays_more config entries old new seat e a lawful run step =
    let events : List Event = events_of entries in
    let answers : List Answer = answers_of entries in
    let first : Ledger ℕ = opening_with config 0 0 in
    let next : Ledger ℕ = Later run.0 e.at.0 (act_of run.0 e.act) (answer_of a) in
    let happened = step run.0 (run_legal first run.0 events answers lawful run.1) run.2 in
    (next, simp map-append (run_more first run.0 events answers e a run.1 happened.0), happened.1)

-- A history is a run, so what holds of every legal ledger holds after each beginning of it.
pub after_each : (Holds : Ledger ℕ → Type 0) → ((l : Ledger ℕ) → IsLegal l → Holds l)
    → (config : Settings) (entries : List Entry) (state : StateView ℕ) → is_lawful config ≡ true → Replays config entries state
    → AfterEachEntry Holds config entries
after_each Holds of_legal config entries state lawful run =
    run_after Holds of_legal (opening_with config 0 0) run.0 (events_of entries) (answers_of entries) lawful run.1
