-- The work of a driver at its ticks, over the relations of any home.
use Rattle.std.specs.Prelude.{◌≡◌, Bool, true, false, ◌||◌, is_some}
use Rattle.bb8_types.specs.Settings.{Settings}
use Rattle.bb8_types.specs.declared.grants.Grant.{Grant}
use Rattle.bb8_tasks.specs.Words.{MatchBool, HomeOf, Moment, Reaper, ReaperAnswer, Ticks}
use Rattle.bb8_tasks.specs.Reaping.{ReaperPolls}
use Rattle.bb8_tasks.specs.TaskSteps as task
use Rattle.bb8_tasks.specs.Ticks.{AreFrom, is_due, Passes}
use Rattle.bb8_tasks.specs.declared.reaper.ReaperAnswer.TheVariants.{Reaped}
use Rattle.bb8_tasks.specs.declared.upkeep.Upkeep.{Upkeep}
use Rattle.bb8_tasks.specs.declared.upkeep.Upkeep.TheVariants.{Reaping, Asking, Never}

-- whether `max_lifetime` or `idle_timeout` is set
abbrev pub has_limit : Settings → Bool
has_limit s = is_some s.max_lifetime || is_some s.idle_timeout

-- The first state, with ticks that count from this moment: with a limit a reaper that was not
-- polled yet; otherwise only ticks, unless their rate is zero.
abbrev pub IsFresh : Settings → Moment → Upkeep → Type 0
IsFresh s start (Reaping r) = (has_limit s ≡ true) × AreFrom start s.reaper_rate r.ticks × (r.latest.0 ≡ 0) × (r.ended ≡ false)
IsFresh s start (Asking ticks) = (has_limit s ≡ false) × AreFrom start s.reaper_rate ticks
IsFresh s start Never = (has_limit s ≡ false) × (s.reaper_rate ≡ 0)

module _ {C H : Type 0} (home : HomeOf H C) (at : Moment) where
  -- the home is asked once to grant approvals for waiters
  abbrev pub Asks : H → H → Type 0
  Asks h h' = (grant : Grant) × home.steps h at (task.Asks grant) h'

  -- it is asked after a reap, and not if no tick was due or no handle is alive
  abbrev pub AsksAfter : ReaperAnswer → H → H → Type 0
  AsksAfter (Reaped closed by_idle by_life granted) h h' = Asks h h'
  AsksAfter _ h h' = h' ≡ h

  -- it is asked if a tick is due at this clock reading, and then all ticks up to it have passed
  abbrev pub AsksAtTick : Ticks → H → Ticks → H → Type 0
  AsksAtTick t h t' h' = MatchBool (is_due t.due at) (Asks h h' × Passes at t t') ((t' ≡ t) × (h' ≡ h))

  -- the reaper is polled once, and the home is asked after a reap; without a reaper it is asked at
  -- a tick
  abbrev pub KeepsUp : Upkeep → H → Upkeep → H → Type 0
  KeepsUp (Reaping r) h u' h' =
      (answer : ReaperAnswer) × (r' : Reaper) × (h1 : H) × ReaperPolls home at r h answer r' h1 × AsksAfter answer h1 h'
      × (u' ≡ Reaping r')
  KeepsUp (Asking t) h u' h' = (t' : Ticks) × AsksAtTick t h t' h' × (u' ≡ Asking t')
  KeepsUp Never h u' h' = (u' ≡ Never) × (h' ≡ h)
