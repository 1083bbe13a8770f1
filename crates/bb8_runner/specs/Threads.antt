-- The output of a script that threads ran.
use Rattle.std.specs.Prelude.{◌≡◌, ℕ, Bool, if◌then◌else◌, List, ◌++◌, length, codes, decimal}
use Rattle.bb8_runner.specs.Words.{sum_by, Settings, Figures, Ledger, figures, opening_with, IsRun, Event, events_of, answers_of, steps_of, notes_of, Verdict, Ran, Bad}
use Rattle.std.specs.Bool.{Decides}
use Rattle.bb8_journal.specs.declared.journal.entries.Entry.{Entry}
use Rattle.bb8_journal.specs.declared.journal.seats.Notes.{Notes}
use Rattle.bb8_journal.specs.Audit.{IsAccount}
use Rattle.bb8_runner.specs.Script.{Spells, IsFirstBad, lines_of}
use Rattle.bb8_runner.specs.Text.{line, state_text, bad_line_text}

-- the count of entries, the result of the audit, and the state line
abbrev pub dealt_text : ℕ → Bool → Figures → List ℕ
dealt_text entries audited last = line (codes "entries " ++ decimal entries) ++ (line (if audited then codes "audit yes" else codes "audit no") ++ line (state_text last))

-- The text is about a legal history with these settings, from an empty pool, and about its final
-- state. There are as many entries as the seats made steps, and the audit says yes exactly if their
-- notes account for the history.
pub record IsDealtText (settings : Settings) (text : List ℕ) : Type 0 where
  pub entries : List Entry
  pub notes : List Notes
  pub last : Ledger ℕ
  pub allowed : IsRun (opening_with settings 0 0) (events_of entries) (answers_of entries) last
  pub counted : length entries ≡ sum_by (λ n. steps_of (notes_of n)) notes
  pub audited : Bool
  pub audits : Decides audited (IsAccount entries notes)
  pub reported : text ≡ dealt_text (length entries) audited (figures last)

-- The output for an input: that of a history with the script's configuration, or one line about its
-- first bad line.
abbrev pub IsThreadsAnswer : List ℕ → Verdict → List ℕ → Type 0
IsThreadsAnswer input Ran text = (settings : Settings) × (events : List Event) × Spells (lines_of input) settings events × IsDealtText settings text
IsThreadsAnswer input Bad text = (n : ℕ) × IsFirstBad (lines_of input) n × (text ≡ bad_line_text n)
