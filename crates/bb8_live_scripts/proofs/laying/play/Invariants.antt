use Rattle.bb8_live_scripts.proofs.laying.play.Given as goal

abbrev pub ghosts-play_on-L-Ledger : goal.ghosts-play_on-L-Ledger
ghosts-play_on-L-Ledger g a = record { name = a.blank.name; parts = a.blank.parts }

abbrev pub ghosts-play_on-L-Permits : goal.ghosts-play_on-L-Permits
ghosts-play_on-L-Permits g a = record { settings = a.builder.settings }
