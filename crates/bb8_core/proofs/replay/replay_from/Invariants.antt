use Rattle.bb8_core.proofs.Words.{ℕ, take, Ledger, IsRun, opening, Represents}
use Rattle.bb8_core.proofs.replay.replay_from.Given as goal

abbrev pub invariant-loop-event : goal.invariant-loop-event
invariant-loop-event l = (last : Ledger ℕ) × IsRun (opening l.fn.config l.first_number l.first_get) (take l.event-index l.events) l.answers.items last × Represents last l.pool
