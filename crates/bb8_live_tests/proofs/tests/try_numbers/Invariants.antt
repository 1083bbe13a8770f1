use Rattle.bb8.specs.Permits.{unchecked_of}
use Rattle.bb8_live_tests.proofs.tests.try_numbers.Given as goal

abbrev pub ghosts-tries-L-Ledger : goal.ghosts-tries-L-Ledger
ghosts-tries-L-Ledger g a = record { name = a.blank.name; parts = a.blank.parts }

abbrev pub ghosts-tries-L-Permits : goal.ghosts-tries-L-Permits
ghosts-tries-L-Permits g a = record { settings = unchecked_of a.max_size }
