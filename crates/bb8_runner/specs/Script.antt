-- A whole script, and its output.
use Rattle.std.specs.Prelude.{◌≡◌, ℕ, ◌+◌, ◌-◌, ◌<◌, ◌==◌, List, [], ◌∷◌, length, take, slice_index, slice_index_or, if◌then◌else◌, Option, Some, None, map, ◌⊎◌, ⊤, codes}
use Rattle.bb8_runner.specs.Words.{slice_split, Settings, Ledger, figures, opening_with, IsRun, Event, Answer, Verdict, Ran, Bad}
use Rattle.bb8_runner.specs.declared.fault.Fault.{Fault}
use Rattle.bb8_runner.specs.declared.fault.Fault.TheVariants.{Read, Write, Memory as OutOfMemory}
use Rattle.bb8_runner.specs.declared.lines.NoScript.{NoScript}
use Rattle.bb8_runner.specs.declared.lines.NoScript.TheVariants.{Memory, BadLine}
use Rattle.bb8_runner.specs.Grammar.{event_of}
use Rattle.bb8_runner.specs.Opening.{settings_of_line}
use Rattle.bb8_runner.specs.Text.{output_of, bad_line_text}

-- the input without its last line feed
abbrev pub without_line_feed : List ℕ → List ℕ
without_line_feed input = if slice_index input (length input - 1) == 10 then take (length input - 1) input else input

-- A line feed ends each line, and may be missing after the last one. An empty input is an empty
-- first line.
abbrev pub lines_of : List ℕ → List (List ℕ)
lines_of input = slice_split (λ b. b == 10) (without_line_feed input)

-- the configuration of the first line
abbrev pub opening_of : List (List ℕ) → Option Settings
opening_of [] = None
opening_of (first ∷ others) = settings_of_line first

-- the lines after the first
abbrev pub others_of : List (List ℕ) → List (List ℕ)
others_of [] = []
others_of (first ∷ others) = others

-- whether the first line is the configuration, and the others are the events
pub record Spells (lines : List (List ℕ)) (settings : Settings) (events : List Event) : Type 0 where
  pub opening : opening_of lines ≡ Some settings
  pub each : map event_of (others_of lines) ≡ map Some events

-- Whether line n is the first, counted from line 2, that is not an event.
pub record IsFirstNoEvent (lines : List (List ℕ)) (n : ℕ) : Type 0 where
  pub before : List Event
  pub each : map event_of (take (length before) lines) ≡ map Some before
  pub inside : length before < length lines
  pub bad : event_of (slice_index_or lines (length before) []) ≡ None
  pub number : n ≡ length before + 2

-- whether there is a configuration, and line n is the first that is not an event
pub record IsBadEvent (lines : List (List ℕ)) (n : ℕ) : Type 0 where
  pub settings : Settings
  pub opening : opening_of lines ≡ Some settings
  pub first_bad : IsFirstNoEvent (others_of lines) n

-- whether line n, counted from 1, is the first bad one
abbrev pub IsFirstBad : List (List ℕ) → ℕ → Type 0
IsFirstBad lines n = ((n ≡ 1) × (opening_of lines ≡ None)) ⊎ IsBadEvent lines n

-- what each error says about the lines after the first
abbrev pub IsEventFault : List (List ℕ) → NoScript → Type 0
IsEventFault lines Memory = ⊤
IsEventFault lines (BadLine n) = IsFirstNoEvent lines n

-- what each error says about the lines
abbrev pub IsFault : List (List ℕ) → NoScript → Type 0
IsFault lines Memory = ⊤
IsFault lines (BadLine n) = IsFirstBad lines n

-- The text is that of an allowed run of the configuration and the events, from an empty pool.
pub record IsRunText (settings : Settings) (events : List Event) (text : List ℕ) : Type 0 where
  pub answers : List Answer
  pub last : Ledger ℕ
  pub allowed : IsRun (opening_with settings 0 0) events answers last
  pub reported : text ≡ output_of answers (figures last)

-- The output for an input: that of an allowed run of the script that it spells, or one line about
-- its first bad line.
abbrev pub IsAnswer : List ℕ → Verdict → List ℕ → Type 0
IsAnswer input Ran text = (settings : Settings) × (events : List Event) × Spells (lines_of input) settings events × IsRunText settings events text
IsAnswer input Bad text = (n : ℕ) × IsFirstBad (lines_of input) n × (text ≡ bad_line_text n)

-- the text of a fault, for standard error
abbrev pub fault_text : Fault → List ℕ
fault_text Read = codes "cannot read"
fault_text Write = codes "cannot write"
fault_text OutOfMemory = codes "no memory"
