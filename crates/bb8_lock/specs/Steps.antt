-- The steps of gets, guards and handles on their home, each with its arguments and result, and the
-- events of the ledger that they are.
use Rattle.std.specs.Prelude.{◌≡◌, ◌≤◌, ℕ, Bool, true, false, Some, None, Result, Ok, Err, IfOk, IfErr}
use Rattle.circular_buffer.specs.Buffer.{Buffer}
use Rattle.bb8_types.specs.declared.api.figures.State.{State}
use Rattle.bb8_types.specs.declared.api.moments.Moment.{Moment}
use Rattle.bb8_types.specs.declared.reasons.Reason.{Reason}
use Rattle.bb8_types.specs.Figures.{figures_of}
use Rattle.bb8_tables.specs.declared.closed.Closed.{Closed}
use Rattle.bb8_tables.specs.declared.keys.GetKey.{GetKey}
use Rattle.bb8_tables.specs.declared.keys.Key.{Key}
use Rattle.bb8_ledger.specs.Acts as acts
use Rattle.bb8_ledger.specs.Answers as answers
use Rattle.bb8_ledger.specs.Answers.{Answer}
use Rattle.bb8_core.specs.declared.answers.AddAnswer.{AddAnswer}
use Rattle.bb8_core.specs.declared.answers.AddAnswer.TheVariants as adding
use Rattle.bb8_core.specs.declared.answers.CheckedErrAnswer.{CheckedErrAnswer}
use Rattle.bb8_core.specs.declared.answers.DetachAnswer.{DetachAnswer}
use Rattle.bb8_core.specs.declared.answers.GiveUpAnswer.{GiveUpAnswer}
use Rattle.bb8_core.specs.declared.answers.LeaveAnswer.{LeaveAnswer}
use Rattle.bb8_core.specs.declared.answers.Looked.{Looked}
use Rattle.bb8_core.specs.declared.answers.PutBackAnswer.{PutBackAnswer}
use Rattle.bb8_core.specs.declared.answers.ReapAnswer.{ReapAnswer}
use Rattle.bb8_core.specs.Closings.{OffersRetired, OffersShut}
use Rattle.bb8_tables.specs.declared.closed.Closed.{Closed}
use Rattle.circular_buffer.specs.Buffer.{Buffer}
use Rattle.bb8_core.specs.StepAnswers.{answer_of_add, answer_of_checked_err, answer_of_checked_ok, answer_of_give_up, answer_of_leave, answer_of_look, answer_of_put_back, answer_of_reap, reason_of, GivesBack as GivesBackReturned, GivesBackHeld, GivesBackInvalid, HandsOut, Refuses, answer_of_detach}
use Rattle.bb8_core.specs.Unfit.{OrComesBack, Stepped}
use Rattle.bb8_core.specs.StateView.{StateView, Steps, IsAsBefore}
use Rattle.bb8_lock.specs.declared.gets.home.FirstTry.{FirstTry}
use Rattle.bb8_lock.specs.declared.gets.home.FirstTry.TheVariants as first
use Rattle.bb8_lock.specs.declared.gets.home.Joining.{Joining}
use Rattle.bb8_lock.specs.declared.gets.home.Joining.TheVariants as joining
use Rattle.bb8_lock.specs.declared.gets.home.Passed.{Passed}
use Rattle.bb8_lock.specs.declared.gets.home.Returned.{Returned}
use Rattle.bb8_lock.specs.declared.gets.home.Tried.{Tried}
use Rattle.bb8_core.specs.declared.answers.Unfit.{Unfit}
use Rattle.bb8_lock.specs.Outcomes.{in_core, answer_of_tried}

-- Each step, with its arguments and its result. A start also returns the effective moment.
pub data GetStep (C P H : Type 0) : Type 0 where
  Looks : Looked → GetStep C P H
  Starts : Moment → Result (FirstTry C P) Unfit → GetStep C P H
  Tries : GetKey → Result (Tried C P) Unfit → GetStep C P H
  Passes : GetKey → Key → P → Result (Passed P) Unfit → GetStep C P H
  Fails : GetKey → Returned C P → Result (CheckedErrAnswer C) C → GetStep C P H
  GivesUp : GetKey → Reason → Result (GiveUpAnswer C) Unfit → GetStep C P H
  GivesBack : GetKey → Reason → Returned C P → Result (GiveUpAnswer C) C → GetStep C P H
  PutsBack : Returned C P → Result (PutBackAnswer C) C → GetStep C P H
  Adds : C → Bool → Result (AddAnswer C) C → GetStep C P H
  Shows : State → GetStep C P H
  Joins : Joining H → GetStep C P H
  Leaves : Result LeaveAnswer Unfit → GetStep C P H
  Retires : Buffer (Closed C) → ReapAnswer → Buffer (Closed C) → GetStep C P H
  Detaches : Key → P → Result DetachAnswer Unfit → GetStep C P H
  Closes : Buffer (Closed C) → Buffer (Closed C) → Result LeaveAnswer Unfit → GetStep C P H

-- the result of a join
abbrev pub joining_told : {H : Type 0} → Joining H → Answer
joining_told (joining.Joined handle) = answers.Joined
joining_told joining.Exhausted = answers.Exhausted
joining_told joining.Unfit = answers.Unfit

-- an add is refused as broken exactly if the connection was found broken
abbrev pub IsSorted : {C : Type 0} → Bool → AddAnswer C → Type 0
IsSorted broken (adding.Broken c) = broken ≡ true
IsSorted broken _ = broken ≡ false

module _ {C P : Type 0} where
  -- a get began and then tried, with a state between; or it did not begin
  abbrev pub StartsBy : StateView C → ℕ → Result (FirstTry C P) Unfit → StateView C → Type 0
  StartsBy s at (Ok (first.Tried g t)) s' =
      (between : StateView C) × Steps s at acts.Begin (answers.Begun g.number) between × Steps between at (acts.Try g.number) (answer_of_tried t) s'
      × HandsOut between (in_core t)
  StartsBy s at (Ok first.Memory) s' = Steps s at acts.Begin answers.Memory s'
  StartsBy s at (Ok first.Exhausted) s' = Steps s at acts.Begin answers.Exhausted s'
  StartsBy s at (Err u) s' = Steps s at acts.Begin answers.Unfit s' × IsAsBefore s s'

module _ {C P H : Type 0} where
  -- a step on the state of a pool: its event and result, and the connection that goes out or is
  -- returned; a step that does not fit changes only the access counter
  abbrev pub StepsBy : StateView C → Moment → GetStep C P H → StateView C → Type 0
  StepsBy s at (Looks seen) s' = Steps s at.0 acts.Look (answer_of_look seen) s'
  StepsBy s at (Starts m r) s' =
      (alive : Bool) × (looked : StateView C) × Steps s at.0 acts.Look (answer_of_look (record { moment = m; alive = alive })) looked × StartsBy looked m.0 r s'
  StepsBy s at (Tries get t) s' = Stepped Steps answer_of_tried s at.0 (acts.Try get.number) t s' × IfOk t (λ a. HandsOut s (in_core a))
  StepsBy s at (Passes get key permit a) s' = Stepped Steps (λ p. answer_of_checked_ok s.records.next p.key) s at.0 (acts.CheckedOk get.number) a s'
  StepsBy s at (Fails get r a) s' =
      Stepped Steps answer_of_checked_err s at.0 (acts.CheckedErr get.number r.broken) a s' × OrComesBack GivesBackInvalid r.taken.connection a
  StepsBy s at (GivesUp get why a) s' = Stepped Steps answer_of_give_up s at.0 (acts.GiveUp get.number (reason_of why) None false) a s'
  StepsBy s at (GivesBack get why r a) s' =
      Stepped Steps answer_of_give_up s at.0 (acts.GiveUp get.number (reason_of why) (Some r.taken.connection) r.broken) a s'
      × OrComesBack (λ c. GivesBackHeld (Some c)) r.taken.connection a
  StepsBy s at (PutsBack r a) s' =
      Stepped Steps (answer_of_put_back r.taken.key.number) s at.0 (acts.PutBack r.taken.key.number r.taken.connection r.broken) a s'
      × OrComesBack GivesBackReturned r.taken.connection a
  StepsBy s at (Adds conn broken a) s' =
      Stepped Steps answer_of_add s at.0 (acts.Add conn broken) a s' × OrComesBack Refuses conn a × IfOk a (IsSorted broken)
  StepsBy s at (Shows state) s' =
      Steps s at.0 acts.State (answers.Shown (figures_of state)) s'
      × (state.connections ≤ s.config.max_size) × (state.idle_connections ≤ state.connections)
  StepsBy s at (Joins a) s' = Steps s at.0 acts.Join (joining_told a) s'
  StepsBy s at (Leaves a) s' = Stepped Steps answer_of_leave s at.0 acts.Leave a s'
  StepsBy s at (Retires list a offered) s' = Steps s at.0 acts.Retire (answer_of_reap a) s' × OffersRetired s at.0 a list offered
  StepsBy s at (Detaches key permit a) s' = Stepped Steps (answer_of_detach key.number) s at.0 (acts.Detach key.number) a s'
  StepsBy s at (Closes list closed a) s' =
      Stepped Steps answer_of_leave s at.0 acts.Close a s' × IfOk a (λ _. OffersShut s list closed) × IfErr a (λ _. closed ≡ list)
