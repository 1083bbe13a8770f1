-- Steps with hand-off: an event, and at once the try of the get that it notified.
use Rattle.std.specs.Prelude.{◌≡◌, ℕ, Option, Some, None}
use Rattle.bb8_tables.specs.declared.keys.GetKey.{GetKey}
use Rattle.bb8_core.specs.declared.answers.TryAnswer.{TryAnswer}
use Rattle.bb8_core.specs.StepAnswers.{answer_of_try, HandsOut}
use Rattle.bb8_core.specs.StepBounds.{goes_out, IsBounded}
use Rattle.bb8_core.specs.StateView.{StateView, Represents, Steps}
use Rattle.bb8_ledger.specs.Acts.{Act, Try}
use Rattle.bb8_ledger.specs.Answers.{Answer}
use Rattle.bb8_ledger.specs.Ledger.{Ledger, Later, notified}
use Rattle.bb8_ledger.specs.Table.{IsLegal}
use Rattle.bb8_ledger.specs.Handed.{notified_by, brought_by, GoesWith, IsPrompt}

module _ {C : Type 0} where
  -- the try of the notified get; nothing changes if there is none
  abbrev pub Follows : StateView C → ℕ → Option GetKey → Option (TryAnswer C) → StateView C → Type 0
  Follows old at None None new = new ≡ old
  Follows old at (Some g) (Some tried) new = Steps old at (Try g.number) (answer_of_try tried) new × HandsOut old tried
  Follows old at _ _ new = ⊥

  -- An event and the try of a get, on each legal ledger that the state represents and in which no
  -- get is notified: the try takes the connection that the event made idle, or waits anew if there
  -- is none, and no get is notified after it.
  abbrev pub HandsOn : StateView C → ℕ → Act C → Answer → ℕ → Answer → Type 0
  HandsOn s at e a g b = (l : Ledger C) → IsLegal l → Represents l s → notified l ≡ 0 → GoesWith (brought_by a) b × (notified (Later (Later l at e a) at (Try g) b) ≡ 0)

  -- an event that notified a get, and at once that get's try: two steps, with a state between them
  abbrev pub StepThenTry : StateView C → ℕ → Act C → Answer → TryAnswer C → StateView C → Type 0
  StepThenTry old at e a tried new = (g : ℕ) × (notified_by a ≡ Some g) × (between : StateView C) × Steps old at e a between
      × Steps between at (Try g) (answer_of_try tried) new × HandsOut between tried × HandsOn old at e a g (answer_of_try tried)

  -- A step with hand-off: its event notified no get, or it is the event and the try of the get that
  -- it notified.
  abbrev pub StepsAndTries : Option (TryAnswer C) → StateView C → ℕ → Act C → Answer → StateView C → Type 0
  StepsAndTries None old at e a new = Steps old at e a new × (notified_by a ≡ None)
  StepsAndTries (Some tried) old at e a new = StepThenTry old at e a tried new

  -- If each notified get has tried at once in a history of the state, this still holds after the
  -- step and the try that followed.
  abbrev pub StaysPrompt : Option (TryAnswer C) → StateView C → ℕ → Act C → Answer → Type 0
  StaysPrompt None old at e a = (l : Ledger C) → IsLegal l → Represents l old → IsPrompt l → IsPrompt (Later l at e a)
  StaysPrompt (Some tried) old at e a = (g : ℕ) × (notified_by a ≡ Some g) × ((l : Ledger C) → IsLegal l → Represents l old → IsPrompt l
      → IsPrompt (Later (Later l at e a) at (Try g) (answer_of_try tried)))

  -- the bounds of the try, if there is one
  abbrev pub TriesFew : Option (TryAnswer C) → StateView C → StateView C → Type 0
  TriesFew None old new = new ≡ old
  TriesFew (Some tried) old new = IsBounded (goes_out tried) 0 4 2 old new

  -- The bounds of a step with hand-off: its event returns this many connections, reads at most
  -- `most` table entries, and searches at most `more` times; then comes its try.
  abbrev pub AreBounded : ℕ → ℕ → ℕ → Option (TryAnswer C) → StateView C → StateView C → Type 0
  AreBounded back most more tried old new = (between : StateView C) × IsBounded 0 back most more old between × TriesFew tried between new
