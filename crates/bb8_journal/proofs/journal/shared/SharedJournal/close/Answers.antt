use Rattle.bb8_journal.proofs.Words.{sym, subst, List, ℕ, Entry, StateView, KeepsLimits, KeepsLaws, KeepsPromises, Replays, AfterEachEntry}
use Rattle.bb8_journal.proofs.journal.shared.SharedJournal.close.Goals as goal

pub returns-clause-replays : goal.returns-clause-replays
returns-clause-replays g c = subst (λ (s : StateView ℕ). Replays g.L.Recorded.config c.close.result.0.items s) (sym c.close.ensures.same.1)
    (subst (λ (xs : List Entry). Replays g.L.Recorded.config xs c.into_inner-journal.result.pool) (sym c.close.ensures.same.0) c.limits.ensures.replays)

pub returns-clause-limits : goal.returns-clause-limits
returns-clause-limits g c = subst (AfterEachEntry KeepsLimits g.L.Recorded.config) (sym c.close.ensures.same.0) c.limits.ensures.limits

pub returns-clause-laws : goal.returns-clause-laws
returns-clause-laws g c = subst (AfterEachEntry KeepsLaws g.L.Recorded.config) (sym c.close.ensures.same.0) c.limits.ensures.laws

pub returns-clause-promises : goal.returns-clause-promises
returns-clause-promises g c = subst (AfterEachEntry KeepsPromises g.L.Recorded.config) (sym c.close.ensures.same.0) c.limits.ensures.promises
