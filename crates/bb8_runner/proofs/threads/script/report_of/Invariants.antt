use Rattle.bb8_types.specs.Settings.{settings_of}
use Rattle.bb8_runner.proofs.threads.script.report_of.Given as goal

abbrev pub ghosts-deal-L-Recorded : goal.ghosts-deal-L-Recorded
ghosts-deal-L-Recorded g a = record { config = settings_of a.config }

abbrev pub ghosts-deal-L-Ledger : goal.ghosts-deal-L-Ledger
ghosts-deal-L-Ledger g a = record { name = a.blank.name; parts = a.blank.parts }
