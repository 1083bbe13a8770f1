use Rattle.bb8.specs.Permits.{unchecked_of}
use Rattle.bb8_live_tests.proofs.tests.unlocked.calls_that_take_no_lock_wait_for_nobody.Given as goal

abbrev pub ghosts-waits_for_nobody-L-Ledger : goal.ghosts-waits_for_nobody-L-Ledger
ghosts-waits_for_nobody-L-Ledger g a = record { name = a.blank.name; parts = a.blank.parts }

abbrev pub ghosts-waits_for_nobody-L-Permits : goal.ghosts-waits_for_nobody-L-Permits
ghosts-waits_for_nobody-L-Permits g a = record { settings = unchecked_of 2 }
