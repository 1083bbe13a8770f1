-- Decisions of a step, from the view: how many approvals are due, and which connection is closed or
-- comes too late.
use Rattle.std.specs.Prelude.{ℕ, ◌+◌, max, Bool, ◌||◌, eqb, ltb, length}
use Rattle.std.specs.FinMap.{get}
use Rattle.bb8_types.specs.Places.{birth_in, entered_in, is_checked, is_expired}
use Rattle.bb8_types.specs.Settings.{Settings}
use Rattle.bb8_core.specs.StateView.{StateView}
use Rattle.bb8_tables.specs.Views.{RecordsView}
use Rattle.bb8_types.specs.Grants.{due, lacking}

module _ {C : Type 0} where
  -- how many of the wanted approvals are due
  abbrev pub want : Settings → ℕ → RecordsView C → ℕ
  want config handles s = due config handles (s.conns + s.approved) (lacking config (length s.idle + s.approved))

  -- whether a connection lives too long, or was retired
  abbrev pub is_old : StateView C → ℕ → ℕ → Bool
  is_old s at k = is_expired s.config.max_lifetime (max s.latest at) (birth_in (get s.records.places k)) || ltb k s.retired

  -- whether a connection that goes out must be checked first
  abbrev pub asks_check : StateView C → ℕ → ℕ → Bool
  asks_check s at k = is_checked s.config (max s.latest at) (entered_in (get s.records.places k))

  -- whether a returned connection is closed
  abbrev pub closes : StateView C → ℕ → ℕ → Bool → Bool
  closes s at k broken = broken || (is_old s at k || eqb s.handles 0)

  -- whether the connection of an approval comes too late
  abbrev pub comes_late : StateView C → ℕ → Bool
  comes_late s k = eqb s.handles 0 || ltb k s.retired
