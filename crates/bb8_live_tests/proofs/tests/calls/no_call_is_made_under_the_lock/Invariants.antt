use Rattle.std.specs.Prelude.{false}
use Rattle.bb8.specs.Settings.{default_settings}
use Rattle.bb8_live_tests.proofs.tests.calls.no_call_is_made_under_the_lock.Given as goal

abbrev pub ghosts-calls_of_a_pool-L-Ledger : goal.ghosts-calls_of_a_pool-L-Ledger
ghosts-calls_of_a_pool-L-Ledger g a = record { name = a.blank.name; parts = a.blank.parts }

abbrev pub ghosts-calls_of_a_pool-L-Permits : goal.ghosts-calls_of_a_pool-L-Permits
ghosts-calls_of_a_pool-L-Permits g a = record { settings = record default_settings { max_size = 2; test_on_check_out = a.checks; connection_timeout = 100; retry_connection = false } }
