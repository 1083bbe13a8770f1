-- When a driver next has something to do.
use Rattle.std.specs.Prelude.{min, fold, Option, Some, None, List}
use Rattle.bb8_types.specs.declared.api.moments.Moment.{Moment}
use Rattle.bb8_tasks.specs.declared.replenish.Replenish.{Replenish}
use Rattle.bb8_tasks.specs.declared.replenish.ReplenishStage.TheVariants.{Start, Connecting, Acquiring, Sleeping, Done}
use Rattle.bb8_tasks.specs.declared.replenish.ReplenishStage.{ReplenishStage}
use Rattle.bb8_tasks.specs.declared.turning.Turning.{Turning}
use Rattle.bb8_tasks.specs.declared.turning.Turning.TheVariants.{Going, Ended}
use Rattle.bb8_tasks.specs.declared.upkeep.Upkeep.{Upkeep}
use Rattle.bb8_tasks.specs.declared.upkeep.Upkeep.TheVariants.{Reaping, Asking, Never}

-- the earlier of two moments; None is never
abbrev pub earlier : Option Moment → Option Moment → Option Moment
earlier None due = due
earlier (Some m) None = Some m
earlier (Some m) (Some due) = Some (record { 0 = min m.0 due.0 })

-- the next tick of a driver
abbrev pub tick_due : Upkeep → Option Moment
tick_due (Reaping r) = r.ticks.due
tick_due (Asking t) = t.due
tick_due Never = None

module _ {C V A : Type 0} where
  -- when a task in this stage is due: after its sleep, or at once; never if it has ended
  abbrev pub poll_due : ReplenishStage C V A → Option Moment
  poll_due Start = Some (record { 0 = 0 })
  poll_due (Connecting tries connecting) = Some (record { 0 = 0 })
  poll_due (Acquiring tries c acquiring) = Some (record { 0 = 0 })
  poll_due (Sleeping tries due) = due
  poll_due Done = None

  -- the earliest of a moment and those at which tasks are due
  abbrev pub earliest : Option Moment → List (Replenish C V A) → Option Moment
  earliest = fold (λ due t. earlier due (poll_due t.stage))

  -- its next tick, or the first moment at which a task is due, whichever is earlier; never once the
  -- driver has ended
  abbrev pub driver_due : Turning C V A → Option Moment
  driver_due (Going upkeep ts) = earliest (tick_due upkeep) ts
  driver_due Ended = None
