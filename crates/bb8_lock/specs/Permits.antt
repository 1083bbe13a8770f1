-- The permits that count a pool's connections, and how a pool begins.
use Rattle.std.specs.Prelude.{◌≡◌, ℕ, Bool, false}
use Rattle.std.specs.declared.sync.ledger.Blank.{Blank}
use Rattle.bb8_types.specs.declared.api.moments.Moment.{Moment}
use Rattle.bb8_types.specs.declared.grants.Grant.{Grant}
use Rattle.bb8_types.specs.Settings.{Settings, default_settings}
use Rattle.bb8_ledger.specs.Acts.{Fill}
use Rattle.bb8_ledger.specs.Answers.{Granted}
use Rattle.bb8_ledger.specs.Ledger.{Later, opening_with}
use Rattle.bb8_ledger.specs.Table.{Allowed}
use Rattle.bb8_core.specs.StateView.{StateView, Represents}

-- The blank of a pool with these settings: it has a name, and a permit for each connection; the
-- permits belong to such a pool.
pub record IsBlankOf (blank : Blank) (settings : Settings) (name parts : ℕ) (of : Settings) : Type 0 where
  pub named : blank.name ≡ name
  pub cut : blank.parts ≡ parts
  pub sized : blank.parts ≡ settings.max_size
  pub settled : of ≡ settings

-- the default settings with this size, and without a check at check-out
abbrev pub unchecked_of : ℕ → Settings
unchecked_of size = record default_settings { max_size = size; test_on_check_out = false }

-- How a pool's state begins: with this grant for its first connections, claimed or not. Nothing of
-- it was withheld.
abbrev pub PoolBegins : {C : Type 0} → Settings → Bool → ℕ → Grant → StateView C → Type 0
PoolBegins {C} settings claimed at grant s =
    (grant.withheld ≡ 0) × Allowed {C = C} (opening_with settings 0 0) at (Fill claimed) (Granted grant)
    × Represents {C = C} (Later (opening_with settings 0 0) at (Fill claimed) (Granted grant)) s

-- some state begins so, at a clock reading
abbrev pub HasBegun : (C : Type 0) → (Moment → Type 0) → Settings → Bool → Grant → Type 0
HasBegun C Reports settings claimed grant = (at : Moment) × Reports at × ((s : StateView C) × PoolBegins settings claimed at.0 grant s)
