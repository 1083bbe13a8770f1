use Rattle.bb8_journal.proofs.Words.{subst, KeepsLimits, KeepsLaws, KeepsPromises, keeps_limits, keeps_laws, keeps_promises, Kept, Replays}
use Rattle.bb8_journal.proofs.Histories.{after_each}
use Rattle.bb8_journal.proofs.journal.entries.Journal.limits.Goals as goal

pub returns-clause-limits : goal.returns-clause-limits
returns-clause-limits g c = after_each KeepsLimits keeps_limits g.L.Recorded.config c.args.self.now.entries c.args.self.now.pool c.self.invariant.lawful
    (subst (λ (k : Kept). Replays g.L.Recorded.config k.entries k.pool) c.self.view_is c.self.invariant.replays)

pub returns-clause-laws : goal.returns-clause-laws
returns-clause-laws g c = after_each KeepsLaws keeps_laws g.L.Recorded.config c.args.self.now.entries c.args.self.now.pool c.self.invariant.lawful
    (subst (λ (k : Kept). Replays g.L.Recorded.config k.entries k.pool) c.self.view_is c.self.invariant.replays)

pub returns-clause-promises : goal.returns-clause-promises
returns-clause-promises g c = after_each KeepsPromises keeps_promises g.L.Recorded.config c.args.self.now.entries c.args.self.now.pool c.self.invariant.lawful
    (subst (λ (k : Kept). Replays g.L.Recorded.config k.entries k.pool) c.self.view_is c.self.invariant.replays)
