-- The meaning of an audit: the notes of all seats are the history.
use Rattle.std.specs.Prelude.{◌≡◌, ℕ, ◌+◌, ◌==◌, cond, List, [], ◌∷◌, map, length, IsPermutation}
use Rattle.std.specs.List.{All, flat_map, sum_by, count_by}
use Rattle.bb8_core.specs.declared.replay.events.Answer.{Answer}
use Rattle.bb8_journal.specs.declared.journal.entries.Entry.{Entry}
use Rattle.bb8_journal.specs.declared.journal.seats.Notes.{Notes}

-- an index, a seat and a result
abbrev pub Line : Type 0
Line = ℕ × (ℕ × Answer)

-- the index, the seat and the result of each entry, with indexes from i on
abbrev pub lines_from : ℕ → List Entry → List Line
lines_from i [] = []
lines_from i (e ∷ es) = (i, (e.seat, e.answer)) ∷ lines_from (i + 1) es

-- the notes of one seat, with its number
abbrev pub lines_by : Notes → List Line
lines_by n = map (λ p. (p.0, (n.seat, p.1))) n.noted.items

-- the notes of all seats
abbrev pub lines_noted : List Notes → List Line
lines_noted notes = flat_map lines_by notes

-- The notes account for the history: none is missing, and together they are the indexes of the
-- entries with their seats and results, each once.
pub record IsAccount (entries : List Entry) (notes : List Notes) : Type 0 where
  pub complete : All (λ n. n.missing ≡ 0) notes
  pub each : IsPermutation (lines_noted notes) (lines_from 0 entries)

-- the count of entries of a seat
abbrev pub entries_of : ℕ → List Entry → ℕ
entries_of seat entries = count_by (λ e. e.seat == seat) entries

-- the count of steps of a seat, by its notes
abbrev pub steps_in : ℕ → List Notes → ℕ
steps_in seat notes = sum_by (λ n. cond (n.seat == seat) (length n.noted.items + n.missing) 0) notes
