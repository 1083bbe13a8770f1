use Rattle.bb8_pool_tests.proofs.tests.runners.try_runner.Given as goal

abbrev pub ghosts-run_on-L-Ledger : goal.ghosts-run_on-L-Ledger
ghosts-run_on-L-Ledger g a = record { name = a.blank.name; parts = a.blank.parts }

abbrev pub ghosts-run_on-L-Permits : goal.ghosts-run_on-L-Permits
ghosts-run_on-L-Permits g a = record { settings = a.builder.settings }
