use Rattle.std.specs.Prelude.{Some}
use Rattle.bb8.specs.Permits.{unchecked_of}
use Rattle.bb8_pool_tests.proofs.tests.drivers.gate_two_threads.Given as goal

abbrev pub ghosts-answers_meanwhile-L-Ledger : goal.ghosts-answers_meanwhile-L-Ledger
ghosts-answers_meanwhile-L-Ledger g a = record { name = a.blank.name; parts = a.blank.parts }

abbrev pub ghosts-answers_meanwhile-L-Permits : goal.ghosts-answers_meanwhile-L-Permits
ghosts-answers_meanwhile-L-Permits g a = record { settings = record (unchecked_of 2) { min_idle = Some 1 } }
