-- A round that polls each task of a list once, for any poll of a task and any sink.
use Rattle.std.specs.Prelude.{◌≡◌, List, [], ◌∷◌, ◌++◌}
use Rattle.bb8_tasks.specs.Words.{ReplenishAnswer, Retrying, Failed}
use Rattle.bb8_tasks.specs.declared.replenish.ReplenishAnswer.TheVariants.{Pending}

-- a task is kept if its poll is pending or will be retried
abbrev pub kept : {T E : Type 0} → ReplenishAnswer E → T → List T
kept Pending t = t ∷ []
kept (Retrying e) t = t ∷ []
kept _ t = []

module _ {E X : Type 0} (sinks : X → E → X → Type 0) where
  -- the error of a result, if it has one, goes to the sink once
  abbrev pub Reports : ReplenishAnswer E → X → X → Type 0
  Reports (Retrying e) x x' = sinks x e x'
  Reports (Failed e) x x' = sinks x e x'
  Reports _ x x' = x' ≡ x

module _ {T E X : Type 0} (polls : T → X → ReplenishAnswer E → T → X → Type 0) (sinks : X → E → X → Type 0) where
  -- each task is polled once, in order; those to be polled again are left
  abbrev pub PollsEach : List T → X → List T → X → Type 0
  PollsEach [] x left x' = (left ≡ []) × (x' ≡ x)
  PollsEach (t ∷ ts) x left x' =
      (r : ReplenishAnswer E) × (t' : T) × (x1 : X) × polls t x r t' x1
      × ((x2 : X) × Reports sinks r x1 x2 × ((more : List T) × PollsEach ts x2 more x' × (left ≡ kept r t' ++ more)))
