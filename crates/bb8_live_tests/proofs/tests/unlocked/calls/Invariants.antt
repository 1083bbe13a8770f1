use Rattle.bb8.specs.Settings.{default_settings}
use Rattle.bb8_live_tests.proofs.tests.unlocked.calls.Given as goal

abbrev pub ghosts-plans-L-Ledger : goal.ghosts-plans-L-Ledger
ghosts-plans-L-Ledger g a = record { name = a.blank.name; parts = a.blank.parts }

abbrev pub ghosts-plans-L-Permits : goal.ghosts-plans-L-Permits
ghosts-plans-L-Permits g a = record { settings = default_settings }
