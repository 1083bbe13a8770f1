-- The ticks of a driver.
use Rattle.std.specs.Prelude.{◌≡◌, ℕ, ◌+◌, ◌*◌, ◌<◌, ◌≤◌, leb, Bool, false, Option, Some, None}
use Rattle.bb8_tasks.specs.Words.{as_nanos, Moment, last_moment, Ticks}

-- The first tick after a moment. The ticks are `start` plus the multiples of `rate` from the first
-- on. None if each tick after the moment exceeds the greatest moment.
abbrev pub IsNextTick : Moment → ℕ → Moment → Option Moment → Type 0
IsNextTick start rate m (Some due) =
    (j : ℕ) × (1 ≤ j) × (due.0 ≡ start.0 + j * rate) × (m.0 < due.0) × ((i : ℕ) → 1 ≤ i → m.0 < start.0 + i * rate → j ≤ i)
IsNextTick start rate m None = (i : ℕ) → 1 ≤ i → m.0 < start.0 + i * rate → last_moment < start.0 + i * rate

-- whether a tick is due at a moment
abbrev pub is_due : Option Moment → Moment → Bool
is_due None m = false
is_due (Some due) m = leb due.0 m.0

-- ticks that count from this start, at this rate; none has passed
abbrev pub AreFrom : Moment → ℕ → Ticks → Type 0
AreFrom start rate t = (t.start ≡ start) × (as_nanos t.rate ≡ rate) × IsNextTick start rate start t.due

-- all ticks up to this moment have passed
abbrev pub Passes : Moment → Ticks → Ticks → Type 0
Passes m t t' = (t'.start ≡ t.start) × (t'.rate ≡ t.rate) × IsNextTick t.start (as_nanos t.rate) m t'.due
