use Rattle.std.specs.Prelude.{Some}
use Rattle.bb8.specs.Settings.{default_settings}
use Rattle.bb8_storm.proofs.main.Given as goal

abbrev pub ghosts-run-L-Ledger : goal.ghosts-run-L-Ledger
ghosts-run-L-Ledger g a = record { name = a.blank.name; parts = a.blank.parts }

abbrev pub ghosts-run-L-Permits : goal.ghosts-run-L-Permits
ghosts-run-L-Permits g a = record { settings = record default_settings { max_size = 5; min_idle = Some 3; connection_timeout = 1000; idle_timeout = Some 200; max_lifetime = Some 2000; reaper_rate = 100 } }
