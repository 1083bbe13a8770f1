-- The notes of a journal's seats.
use Rattle.std.specs.Prelude.{◌≡◌, ◌⊎◌, ℕ, ◌+◌, List, [], ◌∷◌, ◌++◌, length}
use Rattle.bb8_core.specs.declared.replay.events.Answer.{Answer}
use Rattle.bb8_journal.specs.declared.journal.seats.Notes.{Notes}

-- the notes of a seat, and the count of those missing
pub record Noted : Type 0 where
  pub seat : ℕ
  pub noted : List (ℕ × Answer)
  pub missing : ℕ

-- the count of steps of a seat
abbrev pub steps_of : Noted → ℕ
steps_of n = length n.noted + n.missing

-- a seat without steps
abbrev pub fresh : ℕ → Noted
fresh number = record { seat = number; noted = []; missing = 0 }

-- A seat makes one more step: its index and result are noted, or the note is missing.
abbrev pub Makes : Noted → ℕ → Answer → Noted → Type 0
Makes old index answer new = (new ≡ record old { noted = old.noted ++ (index, answer) ∷ [] }) ⊎ (new ≡ record old { missing = old.missing + 1 })

-- the contract's view of a seat's notes
abbrev pub notes_of : Notes → Noted
notes_of n = record { seat = n.seat; noted = n.noted.items; missing = n.missing }
