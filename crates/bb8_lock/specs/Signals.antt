-- Which signals a step notifies, once the lock is released.
use Rattle.std.specs.Prelude.{ℕ, Bool, false, ◌||◌, ltb, Option, is_some, ⊤}
use Rattle.bb8_ledger.specs.Answers.{Answer, Served, Taken, Waiting, Closed, Granted, Reaped, Memory, Exhausted}
use Rattle.bb8_ledger.specs.Handed.{notified_by}
use Rattle.bb8_core.specs.Unfit.{answered}
use Rattle.bb8_core.specs.StepAnswers.{answer_of_add, answer_of_checked_err, answer_of_give_up, answer_of_opened, answer_of_put_back, answer_of_reap, answer_of_detach}
use Rattle.bb8_lock.specs.declared.gets.home.FirstTry.{FirstTry}
use Rattle.bb8_lock.specs.declared.gets.home.FirstTry.TheVariants as first
use Rattle.bb8_lock.specs.Steps.{GetStep, Starts, Tries, Fails, GivesUp, GivesBack, PutsBack, Adds, Leaves, Retires, Detaches, Closes}
use Rattle.bb8_lock.specs.Outcomes.{answer_of_tried}
use Rattle.bb8_lock.specs.declared.signal.Signals.{Signals}
use Rattle.bb8_tasks.specs.TaskSteps.{TaskStep, Opens, Asks}

-- no signal
abbrev pub silent : Signals
silent = record { gets = false; drivers = false }

-- the signals of both
abbrev pub joined : Signals → Signals → Signals
joined these those = record { gets = these.gets || those.gets; drivers = these.drivers || those.drivers }

-- how many approvals a result grants
abbrev pub granted_by : Answer → ℕ
granted_by (Served k grant) = grant.count
granted_by (Taken k grant) = grant.count
granted_by (Waiting grant) = grant.count
granted_by (Closed k grant n) = grant.count
granted_by (Granted grant) = grant.count
granted_by (Reaped closed by_idle by_life grant) = grant.count
granted_by _ = 0

-- the gets' signal if a get was notified, the drivers' if an approval was granted
abbrev pub signals_for : Option ℕ → ℕ → Signals
signals_for notified granted = record { gets = is_some notified; drivers = ltb 0 granted }

-- the signals of a result
abbrev pub signals_of : Answer → Signals
signals_of a = signals_for (notified_by a) (granted_by a)

-- the result of a get that begins and tries
abbrev pub answer_of_first : {C P : Type 0} → FirstTry C P → Answer
answer_of_first (first.Tried g outcome) = answer_of_tried outcome
answer_of_first first.Memory = Memory
answer_of_first first.Exhausted = Exhausted

module _ {C P H : Type 0} where
  -- The signals of a step, by its result. A handle that leaves notifies the drivers if no handle is
  -- alive then, and a close notifies both. A look, a passed check, statistics and a new handle
  -- notify nobody.
  abbrev pub signals_of_step : Bool → GetStep C P H → Signals
  signals_of_step over (Starts m a) = signals_of (answered answer_of_first a)
  signals_of_step over (Tries g a) = signals_of (answered answer_of_tried a)
  signals_of_step over (Fails g r a) = signals_of (answered answer_of_checked_err a)
  signals_of_step over (GivesUp g why a) = signals_of (answered answer_of_give_up a)
  signals_of_step over (GivesBack g why r a) = signals_of (answered answer_of_give_up a)
  signals_of_step over (PutsBack r a) = signals_of (answered (answer_of_put_back r.taken.key.number) a)
  signals_of_step over (Adds conn broken a) = signals_of (answered answer_of_add a)
  signals_of_step over (Leaves a) = record { gets = false; drivers = over }
  signals_of_step over (Retires list a offered) = signals_of (answer_of_reap a)
  signals_of_step over (Detaches key permit a) = signals_of (answered (answer_of_detach key.number) a)
  signals_of_step over (Closes list closed a) = record { gets = over; drivers = over }
  signals_of_step over _ = silent

-- An opened connection notifies the signals of its result, and an ask those of its grant. Of the
-- other steps nothing is asked: what a reap granted is claimed next by its own driver.
abbrev pub SignalsFor : {C : Type 0} → (Signals → Type 0) → TaskStep C → Type 0
SignalsFor Notified (Opens approval c a) = Notified (signals_of (answered (answer_of_opened approval.number) a))
SignalsFor Notified (Asks grant) = Notified (signals_of (Granted grant))
SignalsFor Notified _ = ⊤
