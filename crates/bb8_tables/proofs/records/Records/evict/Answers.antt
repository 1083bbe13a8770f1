use Rattle.bb8_tables.proofs.Words.{sym, ◌∙◌}
use Rattle.bb8_tables.proofs.TablePlaces.{named}
use Rattle.bb8_tables.proofs.ReapPlaces.{freed_counted, freed_good, freed_handed}
use Rattle.bb8_tables.proofs.records.Records.evict.Goals as goal

pub overflow_sub-self : goal.overflow_sub-self
overflow_sub-self g c = freed_counted _ c.self.invariant c.at.ensures.value (sym c.is_idle.ensures ∙ c.if-not-is_idle.false) c.take_out-standing.ensures.state

pub invariant_of-self : goal.invariant_of-self
invariant_of-self g c = freed_good _ c.self.invariant c.at.ensures.value (sym c.is_idle.ensures ∙ c.if-not-is_idle.false) c.take_out-standing.ensures.state

pub returns-clause-some : goal.returns-clause-some
returns-clause-some g c =
    let f = c.in-Some.ensures.some in
    freed_handed _ c.self.invariant c.at.ensures.value (sym c.is_idle.ensures ∙ c.if-not-is_idle.false) c.take_out-standing.ensures.state c.connection_of.result
    c.self.view_is (named f.1 f.2 c.at.ensures.value) (c.take_out-standing.ensures.value c.at.result.now c.at.ensures.value) c.connection_of.ensures.some
