-- The meaning of a worked row, and notations for its lines. The rows are in WorkedRows.antt.
-- In a row each connection is the number of its record, and moments are in nanoseconds.
use Rattle.std.specs.Prelude.{◌≡◌, ℕ, zero, suc, false, List, [], ◌∷◌, ◌++◌}
use Rattle.bb8_types.specs.declared.grants.Grant.{Grant}
use Rattle.bb8_types.specs.Settings.{Settings, default_settings}
use Rattle.bb8_types.specs.Figures.{Counts, Figures}
use Rattle.bb8_ledger.specs.Acts.{Act, PutBack, Opened, Add}
use Rattle.bb8_ledger.specs.Answers.{Answer}
use Rattle.bb8_ledger.specs.Ledger.{Ledger, Later, figures, opening_with}
use Rattle.bb8_ledger.specs.Table.{IsLegal}
use Rattle.bb8_ledger.specs.Limits.{lost}
use Rattle.bb8_ledger.specs.Handed.{HandsOver, places_lost, unasked, missed}
use Rattle.bb8_ledger.specs.Waits.{wait, IsMostWaits}

-- ---- the meaning of a row

-- A line of a row: an event at a moment, and its result.
pub record RowLine : Type 0 where
  pub at : ℕ
  pub act : Act ℕ
  pub answer : Answer

-- the ledger after these lines
abbrev pub after : Ledger ℕ → List RowLine → Ledger ℕ
after l [] = l
after l (t ∷ lines) = after (Later l t.at t.act t.answer) lines

-- A row: the configuration, the first numbers of connections and gets, the statistics at the end,
-- and the lines.
pub record WorkedRow : Type 0 where
  pub config : Settings
  pub first : ℕ
  pub first_get : ℕ
  pub shown : Figures
  pub lines : List RowLine

-- the ledger at the end of a row
abbrev pub ledger_of : WorkedRow → Ledger ℕ
ledger_of row = after (opening_with row.config row.first row.first_get) row.lines

-- The meaning of a row: its configuration is lawful, the step table allows each result, and the
-- final state has these statistics.
pub record IsRow (row : WorkedRow) : Type 0 where
  pub legal : IsLegal (ledger_of row)
  pub last : figures (ledger_of row) ≡ row.shown

-- the first n waits of a back-off
abbrev pub first_waits : ℕ → ℕ → List ℕ
first_waits timeout zero = []
first_waits timeout (suc n) = first_waits timeout n ++ wait timeout (suc n) ∷ []

-- The waits of a connection attempt whose every connect fails at once, and which therefore tries
-- once more: only the last wait ends after the timeout, and `most` is the count of those before it.
pub record IsBackOff (timeout : ℕ) (lines : List ℕ) (most : ℕ) : Type 0 where
  pub first : first_waits timeout (suc most) ≡ lines
  pub within : IsMostWaits timeout most

-- ---- notations for lines

-- at a moment, an event and its result
infix 70 ◌▸◌⇒◌
-- a line: at a moment, an event and its result
abbrev pub ◌▸◌⇒◌ : ℕ → Act ℕ → Answer → RowLine
◌▸◌⇒◌ at act answer = record { at = at; act = act; answer = answer }

-- a grant of this many approvals, from the next number on; nothing is withheld
infix 71 grant◌at◌
-- a grant of this many approvals, from a number on; nothing is withheld
abbrev pub grant◌at◌ : ℕ → ℕ → Grant
grant◌at◌ count first = record { first = first; count = count; withheld = 0 }

-- the attempt of an approval succeeds
abbrev pub opens : ℕ → Act ℕ
opens k = Opened k k

-- a guard returns its connection, which is not broken
abbrev pub returns : ℕ → Act ℕ
returns k = PutBack k k false

-- a connection that is not broken is added
abbrev pub adds : ℕ → Act ℕ
adds k = Add k false

-- ---- notations for rows

-- the statistics of a state: its connections, those of them that are idle, and the counts
abbrev pub shows : ℕ → ℕ → Counts → Figures
shows connections idle counts = record { connections = connections; idle = idle; counts = counts }

-- a row, in the order of its parts
abbrev pub row : Settings → ℕ → ℕ → Figures → List RowLine → WorkedRow
row config first first_get shown lines = record { config = config; first = first; first_get = first_get; shown = shown; lines = lines }

-- this many connections at most, and no check on check-out
abbrev pub unchecked : ℕ → Settings
unchecked max_size = record default_settings { max_size = max_size; test_on_check_out = false }

-- ---- the order in which gets are served in a row

-- with hand-off: `lost` times a notified get waited anew, and a connection was requested for each
-- close
abbrev pub HandsOverLosing : ℕ → WorkedRow → Type 0
HandsOverLosing lost row = let l : Ledger ℕ = ledger_of row in HandsOver l × (places_lost l ≡ lost) × (unasked l ≡ 0)

-- with hand-off: nothing was lost to waiters since the latest ask, `missing` approvals were missed,
-- and a connection was requested for each close
abbrev pub HandsOverMissing : ℕ → WorkedRow → Type 0
HandsOverMissing missing row = let l : Ledger ℕ = ledger_of row in HandsOver l × (lost l ≡ 0) × (missed l ≡ missing) × (unasked l ≡ 0)

-- without hand-off
abbrev pub IsOvertaking : WorkedRow → Type 0
IsOvertaking row = HandsOver (ledger_of row) → ⊥
