-- The table of a reaper's polls, over the relations of any home.
use Rattle.std.specs.Prelude.{◌≡◌, max, Bool, true}
use Rattle.bb8_tasks.specs.Words.{MatchBool, HomeOf, Moment, Looked, ReapAnswer, Reaper, ReaperAnswer}
use Rattle.bb8_core.specs.declared.answers.ReapAnswer.TheVariants as reap
use Rattle.bb8_tasks.specs.declared.reaper.ReaperAnswer.TheVariants.{Idle, Reaped, Ended}
use Rattle.bb8_tasks.specs.TaskSteps as task
use Rattle.bb8_tasks.specs.Ticks.{is_due, Passes}

-- a reaper with the ticks of another, and with this end
abbrev pub Stands : Reaper → Bool → Reaper → Type 0
Stands t ended t' = (t'.ticks ≡ t.ticks) × (t'.ended ≡ ended)

module _ {C H : Type 0} (home : HomeOf H C) where
  -- after the step `reap` at a moment
  abbrev pub AfterReap : ReapAnswer → Moment → Reaper → ReaperAnswer → Reaper → Type 0
  AfterReap (reap.Reaped closed by_idle by_life grant) m t r t' =
      Passes m t.ticks t'.ticks × (t'.ended ≡ t.ended) × (r ≡ Reaped closed by_idle by_life grant)
  AfterReap reap.Ended m t r t' = Stands t true t' × (r ≡ Ended)

  -- a tick is due: the pool is reaped once
  abbrev pub Reaps : Moment → Reaper → H → ReaperAnswer → Reaper → H → Type 0
  Reaps m t h r t' h' = (s : ReapAnswer) × home.steps h m (task.Reaps s) h' × AfterReap s m t r t'

  -- the rows after the look: no handle is alive, a tick is due, or none is due
  abbrev pub ReaperProceeds : Bool → Moment → Reaper → H → ReaperAnswer → Reaper → H → Type 0
  ReaperProceeds alive m t h r t' h' =
      MatchBool alive
      (MatchBool (is_due t.ticks.due m) (Reaps m t h r t' h') (Stands t t.ended t' × (r ≡ Idle) × (h' ≡ h)))
      (Stands t true t' × (r ≡ Ended) × (h' ≡ h))

module _ {C H : Type 0} (home : HomeOf H C) (at : Moment) where
  -- a poll of a reaper that has not ended: its moment is the later of the look's and the previous
  -- poll's
  abbrev pub Looks : Reaper → H → ReaperAnswer → Reaper → H → Type 0
  Looks t h r t' h' =
      (seen : Looked) × (h1 : H) × home.steps h at (task.Looks seen) h1
      × (t'.latest.0 ≡ max seen.moment.0 t.latest.0) × ReaperProceeds home seen.alive t'.latest t h1 r t' h'

  -- The whole poll at a clock reading. A reaper that has ended makes no call.
  abbrev pub ReaperPolls : Reaper → H → ReaperAnswer → Reaper → H → Type 0
  ReaperPolls t h r t' h' = MatchBool t.ended ((r ≡ Ended) × (t' ≡ t) × (h' ≡ h)) (Looks t h r t' h')
