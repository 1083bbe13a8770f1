-- Steps that happen only if their events fit.
use Rattle.std.specs.Prelude.{◌≡◌, ℕ, Result, Ok, Err, IfErr}
use Rattle.bb8_ledger.specs.Acts.{Act}
use Rattle.bb8_ledger.specs.Answers as answers
use Rattle.bb8_ledger.specs.Answers.{Answer}
use Rattle.bb8_core.specs.StateView.{StateView, IsAsBefore}

-- the result of such a step, with plain numbers
abbrev pub answered : {A U : Type 0} → (A → Answer) → Result A U → Answer
answered outcome (Ok a) = outcome a
answered outcome (Err u) = answers.Unfit

-- Such a step, with the relation `Makes` of steps: its event and its result. If the event does not
-- fit, only the access counter changes.
abbrev pub Stepped : {A C U : Type 0} → (StateView C → ℕ → Act C → Answer → StateView C → Type 0) → (A → Answer) → StateView C → ℕ → Act C → Result A U → StateView C → Type 0
Stepped Makes outcome old at e r new = Makes old at e (answered outcome r) new × IfErr r (λ u. IsAsBefore old new)

-- if the event fits, this holds of its result; otherwise the connection that was handed in is
-- returned
abbrev pub OrComesBack : {A C : Type 0} → (C → A → Type 0) → C → Result A C → Type 0
OrComesBack Holds conn (Ok a) = Holds conn a
OrComesBack Holds conn (Err c) = c ≡ conn
