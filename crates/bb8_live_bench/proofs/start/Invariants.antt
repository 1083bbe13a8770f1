use Rattle.std.specs.Prelude.{false}
use Rattle.bb8.specs.Settings.{default_settings}
use Rattle.bb8_live_bench.proofs.start.Given as goal

abbrev pub ghosts-alone-L-Ledger : goal.ghosts-alone-L-Ledger
ghosts-alone-L-Ledger g a = record { name = a.blank.name; parts = a.blank.parts }

abbrev pub ghosts-alone-L-Permits : goal.ghosts-alone-L-Permits
ghosts-alone-L-Permits g a = record { settings = record default_settings { max_size = a.size; test_on_check_out = a.check } }

abbrev pub ghosts-clocked-L-Ledger : goal.ghosts-clocked-L-Ledger
ghosts-clocked-L-Ledger g a = record { name = a.blank.name; parts = a.blank.parts }

abbrev pub ghosts-clocked-L-Permits : goal.ghosts-clocked-L-Permits
ghosts-clocked-L-Permits g a = record { settings = record default_settings { max_size = a.size; test_on_check_out = a.check } }

abbrev pub ghosts-crowded-L-Ledger : goal.ghosts-crowded-L-Ledger
ghosts-crowded-L-Ledger g a = record { name = a.blank.name; parts = a.blank.parts }

abbrev pub ghosts-crowded-L-Permits : goal.ghosts-crowded-L-Permits
ghosts-crowded-L-Permits g a = record { settings = record default_settings { max_size = a.size; test_on_check_out = false } }
