-- Lists of tasks: how they grow, and rounds that poll each task once in order.
use Rattle.std.specs.Prelude.{◌≡◌, ℕ, zero, suc, ◌+◌, Option, Some, None, List, [], ◌∷◌, ◌++◌}
use Rattle.bb8_tasks.specs.Words.{Key, Moment, Replenish, ReplenishAnswer, Failed, Round}
use Rattle.bb8_core.specs.declared.answers.ClaimAnswer.{ClaimAnswer}
use Rattle.bb8_core.specs.declared.answers.ClaimAnswer.TheVariants.{Claimed, Ended}
use Rattle.bb8_tasks.specs.declared.rounds.OnFailure.{OnFailure}
use Rattle.bb8_tasks.specs.declared.rounds.OnFailure.TheVariants.{Stop}
use Rattle.bb8_tasks.specs.declared.rounds.Round.TheVariants as round
use Rattle.bb8_tasks.specs.Replenishing.{fresh}
use Rattle.bb8_tasks.specs.Rounds.{kept, Reports, PollsEach}

module _ {C V A : Type 0} where
  -- a task for each of the n approvals from `first` on; none was polled yet
  abbrev pub AreFor : ℕ → ℕ → List (Replenish C V A) → Type 0
  AreFor first zero ts = ts ≡ []
  AreFor first (suc n) ts = (before : List (Replenish C V A)) × (key : Key) × AreFor first n before × (key.number ≡ first + n) × (ts ≡ before ++ fresh key ∷ [])

  -- the list gains a task for the claimed approval
  abbrev pub TakesTaskOn : ClaimAnswer → List (Replenish C V A) → List (Replenish C V A) → Type 0
  TakesTaskOn (Claimed (Some key)) ts ts' = ts' ≡ ts ++ fresh key ∷ []
  TakesTaskOn (Claimed None) ts ts' = ts' ≡ ts
  TakesTaskOn Ended ts ts' = ts' ≡ ts

-- the error with which a task's result stops a round
abbrev pub stops : {E : Type 0} → OnFailure → ReplenishAnswer E → Option E
stops Stop (Failed e) = Some e
stops _ _ = None

-- Rounds over a list, for any poll of a task, any sink and any behaviour on failure.
module _ {T E X : Type 0} (polls : T → X → ReplenishAnswer E → T → X → Type 0) (on_failure : OnFailure) where
  -- a task's poll that does not stop the round
  abbrev pub GoesOn : T → X → ReplenishAnswer E → T → X → Type 0
  GoesOn t x r t' x' = polls t x r t' x' × (stops on_failure r ≡ None)

  module _ (sinks : X → E → X → Type 0) where
    -- The tasks are polled in order, each once, up to one that stops the round. Those that are
    -- pending and those that were not polled are left, in order.
    abbrev pub PollsUntil : List T → X → Option E → List T → X → Type 0
    PollsUntil ts x None left x' = PollsEach GoesOn sinks ts x left x'
    PollsUntil ts x (Some e) left x' =
        (before : List T) × (again : List T) × (x1 : X) × PollsEach GoesOn sinks before x again x1
        × ((t : T) × (t' : T) × (after : List T) × polls t x1 (Failed e) t' x'
        × (on_failure ≡ Stop) × (ts ≡ before ++ t ∷ after) × (left ≡ again ++ after))

    -- the error of a poll goes to the sink, except if it stops the round
    abbrev pub AfterPoll : Option E → ReplenishAnswer E → X → X → Type 0
    AfterPoll None r x x' = Reports sinks r x x'
    AfterPoll (Some e) r x x' = x' ≡ x

    -- One step of a round on a queue. While the round goes on, its first task is polled, and goes
    -- to the back if it is kept. After it stopped, the first task goes to the back unpolled.
    abbrev pub QueueTurns : Option E → List T → X → Option E → List T → X → Type 0
    QueueTurns None queue x stopped queue' x' =
        (t : T) × (rest : List T) × (queue ≡ t ∷ rest)
        × ((r : ReplenishAnswer E) × (t' : T) × (x1 : X) × polls t x r t' x1
        × (stopped ≡ stops on_failure r) × AfterPoll stopped r x1 x' × (queue' ≡ rest ++ kept r t'))
    QueueTurns (Some e) queue x stopped queue' x' =
        (t : T) × (rest : List T) × (queue ≡ t ∷ rest) × (queue' ≡ rest ++ t ∷ []) × (stopped ≡ Some e) × (x' ≡ x)

module _ {T X : Type 0} (lets_go : T → X → X → Type 0) where
  -- each task is cancelled, in list order
  abbrev pub LetsGoEach : List T → X → X → Type 0
  LetsGoEach [] x x' = x' ≡ x
  LetsGoEach (t ∷ ts) x x' = (x1 : X) × lets_go t x x1 × LetsGoEach ts x1 x'

module _ {T E X : Type 0} (polls : T → X → ReplenishAnswer E → T → X → Type 0) (sinks : X → E → X → Type 0) (lets_go : T → X → X → Type 0) where
  -- the result of a round that was not stopped
  abbrev pub RoundLeaves : List T → Round (List T) E → Type 0
  RoundLeaves [] r = r ≡ round.Complete
  RoundLeaves (t ∷ ts) r = r ≡ round.Going (t ∷ ts)

  -- if the round stopped, all remaining tasks are cancelled
  abbrev pub AfterRound : Option E → List T → X → Round (List T) E → X → Type 0
  AfterRound (Some e) left x r x' = LetsGoEach lets_go left x x' × (r ≡ round.Failed e)
  AfterRound None left x r x' = RoundLeaves left r × (x' ≡ x)

  -- a round that stops at the first failure
  abbrev pub Rounds : List T → X → Round (List T) E → X → Type 0
  Rounds ts x r x' =
      (stopped : Option E) × (left : List T) × (x1 : X) × PollsUntil polls Stop sinks ts x stopped left x1
      × AfterRound stopped left x1 r x'

-- the clock is read, and `Does` follows at that moment
abbrev pub AtReading : {X : Type 0} → (X → Moment → X → Type 0) → (Moment → X → X → Type 0) → X → X → Type 0
AtReading {X} reports Does x x' = (at : Moment) × (x1 : X) × reports x at x1 × Does at x1 x'
