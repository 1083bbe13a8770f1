-- Replays of one task over a list of polls.
use Rattle.std.specs.Prelude.{◌≡◌, ℕ, ◌+◌, min, Bool, true, None, Result, Ok, Err, List, [], ◌∷◌}
use Rattle.bb8_tasks.specs.Words.{Poll, Ready, Pending, Moment, Reply, HomeOf, OpenerOf, Replenish, ReplenishAnswer}
use Rattle.bb8_tasks.specs.declared.backoff.Reply.TheVariants as replies
use Rattle.bb8_tasks.specs.declared.backoff.Scripted.{Scripted}
use Rattle.bb8_core.specs.declared.answers.FailedAnswer.TheVariants as failing
use Rattle.bb8_core.specs.declared.answers.OpenedAnswer.TheVariants as opening
use Rattle.bb8_core.specs.declared.answers.ReapAnswer.TheVariants as reaping
use Rattle.bb8_core.specs.declared.answers.ClaimAnswer.TheVariants as claiming
use Rattle.bb8_tasks.specs.Replenishing.{fresh, TaskPolls}
use Rattle.bb8_tasks.specs.TaskSteps.{TaskStep, Looks, Opens, Fails, Claims, Reaps, Asks}

-- the poll result that a reply means
abbrev pub outcome : Reply → Poll (Result (Unit {0}) (Unit {0}))
outcome replies.Pending = Pending
outcome replies.Ok = Ready (Ok tt)
outcome replies.Err = Ready (Err tt)

-- one more attempt was begun; a poll counts to 255
abbrev pub begun : Scripted → Scripted
begun script = record { reply = script.reply; tries = min (script.tries + 1) 255 }

-- the relations of a replay as an opener: it gives its reply, and its preparations are ready at
-- once
abbrev pub scripted : OpenerOf Scripted (Unit {0}) (Unit {0}) (Unit {0}) (Unit {0})
scripted = record {
  reports = λ script _ after. after ≡ script;
  sinks = λ script _ after. after ≡ script;
  connects = λ script _ after. after ≡ begun script;
  connect_answers = λ script _ _ answer _ after. (answer ≡ outcome script.reply) × (after ≡ script);
  ends_connect = λ script _ after. after ≡ script;
  acquires = λ script _ _ _ after. after ≡ script;
  acquire_answers = λ script _ _ _ answer _ _ after. (answer ≡ Ready (Ok tt)) × (after ≡ script);
  ends_acquire = λ script _ after. after ≡ script;
  lets_go = λ script _ after. after ≡ script;
}

-- its results as a home: it has a handle, accepts opened connections, and has nothing to claim,
-- reap or ask for
abbrev pub IsSteady : Moment → TaskStep (Unit {0}) → Type 0
IsSteady at (Looks seen) = seen ≡ record { moment = at; alive = true }
IsSteady at (Opens a c step) = step ≡ Ok (opening.Entered None)
IsSteady at (Fails a step) = step ≡ Ok failing.GivenBack
IsSteady at (Claims answer) = answer ≡ claiming.Claimed None
IsSteady at (Reaps step) = step ≡ reaping.Ended
IsSteady at (Asks grant) = grant ≡ record { first = 0; count = 0; withheld = 0 }

abbrev pub steady : HomeOf Scripted (Unit {0})
steady = record { steps = λ script at step after. IsSteady at step × (after ≡ script) }

-- a task whose connections, attempts and preparations are `()`
abbrev pub Task : Type 0
Task = Replenish (Unit {0}) (Unit {0}) (Unit {0})

-- the task of a replay; it was not polled yet
abbrev pub first_task : Task
first_task = fresh (record { number = 0; place = 0 })

module _ (timeout : ℕ) (retry : Bool) where
  -- one poll by the table, at its moment and with its reply; it begins this number of attempts
  abbrev pub Polled : Moment × Reply → Task → ℕ → ReplenishAnswer (Unit {0}) → Task → Type 0
  Polled p t tries answer t' =
      (after : Scripted) × TaskPolls steady scripted timeout retry p.0 t (record { reply = p.1; tries = 0 }) answer t' after × (tries ≡ after.tries)

  -- polls by the table in order: their results, and how many attempts they begin
  abbrev pub Runs : Task → List (Moment × Reply) → List (ReplenishAnswer (Unit {0})) → ℕ → Task → Type 0
  Runs t [] [] tries t' = (tries ≡ 0) × (t' ≡ t)
  Runs t [] (a ∷ answers) tries t' = ⊥
  Runs t (p ∷ polls) [] tries t' = ⊥
  Runs t (p ∷ polls) (a ∷ answers) tries t' =
      (first : ℕ) × (between : Task) × (rest : ℕ) × Polled p t first a between × Runs between polls answers rest t' × (tries ≡ first + rest)

  -- the polls of a new task
  abbrev pub Plays : List (Moment × Reply) → List (ReplenishAnswer (Unit {0})) → ℕ → Type 0
  Plays polls answers tries = (last : Task) × Runs first_task polls answers tries last
