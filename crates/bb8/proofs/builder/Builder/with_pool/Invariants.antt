use Rattle.bb8.proofs.builder.Builder.with_pool.Given as goal

abbrev pub ghosts-run_with-L-Ledger : goal.ghosts-run_with-L-Ledger
ghosts-run_with-L-Ledger g a = record { name = a.blank.name; parts = a.blank.parts }

abbrev pub ghosts-run_with-L-Permits : goal.ghosts-run_with-L-Permits
ghosts-run_with-L-Permits g a = record { settings = a.builder.settings }
