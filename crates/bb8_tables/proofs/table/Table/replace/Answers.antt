use Rattle.bb8_tables.proofs.Tables
use Rattle.bb8_tables.proofs.table.Table.replace.Goals as goal

pub invariant_of-self : goal.invariant_of-self
invariant_of-self g c = Tables.restood_good c.self.inside c.self.invariant c.args.self.now c.self.view_is c.args.place c.requires.stands _

pub returns-clause-changed : goal.returns-clause-changed
returns-clause-changed g c = Tables.restood_view c.self.inside c.self.invariant c.args.self.now c.self.view_is c.args.place c.requires.stands c.index_mut.result.now c.replace.new.dest
    (λ s. c.args.standing) c.index_mut.ensures.value c.replace.ensures.after
