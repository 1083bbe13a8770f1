use Rattle.std.proofs.Common.{refl}
use Rattle.bb8_tables.proofs.Tables
use Rattle.bb8_tables.proofs.table.Table+Getting.turn.Goals as goal

pub invariant_of-self : goal.invariant_of-self
invariant_of-self c = Tables.restood_good c.self.inside c.self.invariant c.args.self.now c.self.view_is c.args.at c.requires.stands _

pub returns-clause-changed : goal.returns-clause-changed
returns-clause-changed c = Tables.restood_view c.self.inside c.self.invariant c.args.self.now c.self.view_is c.args.at c.requires.stands c.index_mut-slot.result.now
    (record c.index_mut-slot.result.now.standing { place = c.args.place }) (λ s. record s { place = c.args.place }) c.index_mut-slot.ensures.value refl
