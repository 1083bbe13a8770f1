-- The meaning of the fields of a `PoolInternals`.
use Rattle.std.specs.Prelude.{ℕ, Option, eqb, ltb, ◌≡◌, ◌<◌, ◌≤◌, ◌||◌}
use Rattle.bb8_types.specs.Bounds.{end_of_numbers, last_moment}
use Rattle.bb8_types.specs.Places.{is_past}
use Rattle.bb8_core.specs.declared.internals.PoolInternals.TheInside.{Inside}
use Rattle.bb8_types.specs.Settings.{settings_of}
use Rattle.bb8_core.specs.StateView.{StateView}
use Rattle.bb8_tables.specs.Counted.{counts_held}

-- whether exactly the ages above this one reach a limit, up to the last moment
abbrev pub IsMaxAge : Option ℕ → ℕ → Type 0
IsMaxAge limit greatest = (age : ℕ) → age ≤ last_moment → ltb greatest age ≡ is_past limit age

-- whether exactly the connections with numbers below this one are closed when they are opened or
-- returned although they are neither broken nor too old
abbrev pub ClosesBelow : ℕ → ℕ → ℕ → Type 0
ClosesBelow handles retired below = (k : ℕ) → k < end_of_numbers → ltb k below ≡ (eqb handles 0 || ltb k retired)

-- the meaning of the fields that save a step work
pub record SavesWork (lifetime : Option ℕ) (greatest handles retired below : ℕ) : Type 0 where
  pub age : IsMaxAge lifetime greatest
  pub closed : ClosesBelow handles retired below

module _ {C A : Type 0} where
  -- the view of the fields
  abbrev pub view_of : Inside C A → StateView C
  view_of a = record {
    config = settings_of a.config;
    retired = a.retired;
    latest = a.latest;
    handles = a.handles;
    records = a.records;
    gets = a.gets;
    counts = counts_held a.counters;
    reads = a.accesses;
  }
