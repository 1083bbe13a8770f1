use Rattle.bb8.specs.Settings.{default_settings}
use Rattle.bb8_live_tests.proofs.tests.threads.share.Given as goal

abbrev pub ghosts-shares-L-Ledger : goal.ghosts-shares-L-Ledger
ghosts-shares-L-Ledger g a = record { name = a.blank.name; parts = a.blank.parts }

abbrev pub ghosts-shares-L-Permits : goal.ghosts-shares-L-Permits
ghosts-shares-L-Permits g a = record { settings = record default_settings { max_size = a.max_size; test_on_check_out = a.checks } }
