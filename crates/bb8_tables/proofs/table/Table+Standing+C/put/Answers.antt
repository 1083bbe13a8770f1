use Rattle.bb8_tables.proofs.Words.{ap, ◌∙◌, Place, Standing, Slot}
use Rattle.bb8_tables.proofs.Tables
use Rattle.bb8_tables.proofs.table.Table+Standing+C.put.Goals as goal

pub invariant_of-self : goal.invariant_of-self
invariant_of-self g c = Tables.restood_good c.self.inside c.self.invariant c.args.self.now c.self.view_is c.args.at c.requires.stands _

pub returns-clause-value : goal.returns-clause-value
returns-clause-value g c = λ x e. c.replace.ensures.value ∙ ap (λ (s : Slot (Standing g.row.C.Denot)). s.standing.place)
    (Tables.restood_was c.self.inside c.self.invariant c.args.self.now c.self.view_is c.args.at c.requires.stands c.index_mut-slot.result.now x c.index_mut-slot.ensures.value e).0

pub returns-clause-changed : goal.returns-clause-changed
returns-clause-changed g c = Tables.restood_view c.self.inside c.self.invariant c.args.self.now c.self.view_is c.args.at c.requires.stands c.index_mut-slot.result.now
    (record c.index_mut-slot.result.now.standing { place = c.replace.new.dest }) (λ s. record s { place = c.args.place }) c.index_mut-slot.ensures.value
    (ap (λ (p : Place g.row.C.Denot). record c.index_mut-slot.result.now.standing { place = p }) c.replace.ensures.after)

pub returns-clause-number : goal.returns-clause-number
returns-clause-number g c = λ x e. ap (λ (s : Slot (Standing g.row.C.Denot)). s.number)
    (Tables.restood_was c.self.inside c.self.invariant c.args.self.now c.self.view_is c.args.at c.requires.stands c.index_mut-slot.result.now x c.index_mut-slot.ensures.value e).0
