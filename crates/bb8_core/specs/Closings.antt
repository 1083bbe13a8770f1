-- The connections that a reap, a retire, a close or the last leave closes, one by one.
use Rattle.std.specs.Prelude.{◌≡◌, ℕ, cond, eqb, List, [], ◌∷◌, ⊤}
use Rattle.circular_buffer.specs.Buffer.{Buffer}
use Rattle.bb8_types.specs.Numbered.{tally}
use Rattle.bb8_tables.specs.Closed.{offered_all}
use Rattle.bb8_tables.specs.declared.closed.Closed.{Closed}
use Rattle.bb8_ledger.specs.Ledger.{Ledger}
use Rattle.bb8_ledger.specs.Table.{IsLegal, reaped_at, retired_at}
use Rattle.bb8_core.specs.declared.answers.ReapAnswer.{ReapAnswer}
use Rattle.bb8_core.specs.declared.answers.ReapAnswer.TheVariants as reaping
use Rattle.bb8_core.specs.StateView.{StateView, Represents}
use Rattle.bb8_core.specs.StepAnswers.{IsIdleAs}

module _ {C : Type 0} where
  -- whether these connections, in this order, are idle with these numbers
  abbrev pub AreIdleAs : StateView C → List ℕ → List (Closed C) → Type 0
  AreIdleAs s [] [] = ⊤
  AreIdleAs s (k ∷ ks) (x ∷ xs) = (x.number ≡ k) × IsIdleAs s k x.conn × AreIdleAs s ks xs
  AreIdleAs s _ _ = ⊥

  -- Whether a list was offered the connections that were idle with these numbers, in this order.
  abbrev pub Offers : StateView C → List ℕ → Buffer (Closed C) → Buffer (Closed C) → Type 0
  Offers s ks list offered = (xs : List (Closed C)) × AreIdleAs s ks xs × (offered ≡ offered_all xs list)

  -- the numbers that a reap of the ledger ends; none if the pool had ended
  abbrev pub ended_by : ReapAnswer → Ledger C → ℕ → List ℕ
  ended_by (reaping.Reaped closed by_idle by_life grant) l at = reaped_at l at
  ended_by reaping.Ended l at = []

  -- the numbers that a retire of the ledger ends; none if the pool had ended
  abbrev pub retired_by : ReapAnswer → Ledger C → ℕ → List ℕ
  retired_by (reaping.Reaped closed by_idle by_life grant) l at = retired_at l at
  retired_by reaping.Ended l at = []

  -- whether these numbers are, in some order, a list computed from the ledger: each occurs as often
  -- as in that list
  abbrev pub AreThose : StateView C → (Ledger C → List ℕ) → List ℕ → Type 0
  AreThose s listed ks = (l : Ledger C) → IsLegal l → Represents l s → (k : ℕ) → tally (eqb k) ks ≡ tally (eqb k) (listed l)

  -- A reap offers the connections that it closes, in some order.
  abbrev pub OffersReaped : StateView C → ℕ → ReapAnswer → Buffer (Closed C) → Buffer (Closed C) → Type 0
  OffersReaped s at a list offered = (ks : List ℕ) × Offers s ks list offered × AreThose s (λ l. ended_by a l at) ks

  -- So does a retire.
  abbrev pub OffersRetired : StateView C → ℕ → ReapAnswer → Buffer (Closed C) → Buffer (Closed C) → Type 0
  OffersRetired s at a list offered = (ks : List ℕ) × Offers s ks list offered × AreThose s (λ l. retired_by a l at) ks

  -- A close offers all idle connections, the longest idle first.
  abbrev pub OffersShut : StateView C → Buffer (Closed C) → Buffer (Closed C) → Type 0
  OffersShut s list offered = Offers s s.records.idle list offered

  -- The last leave offers all idle connections, the longest idle first; any other offers none.
  abbrev pub OffersLeft : StateView C → Buffer (Closed C) → Buffer (Closed C) → Type 0
  OffersLeft s list offered = Offers s (cond (eqb s.handles 1) s.records.idle []) list offered
