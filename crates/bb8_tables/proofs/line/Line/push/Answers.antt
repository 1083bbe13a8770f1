use Rattle.bb8_tables.proofs.Words.{arith}
use Rattle.bb8_tables.proofs.Linked
use Rattle.bb8_tables.proofs.line.Line.push.Goals as goal

pub join-requires-clause-left : goal.join-requires-clause-left
join-requires-clause-left c = Linked.last_inside c.self.inside c.self.invariant c.args.self.now _ c.self.view_is c.index.ensures c.args.place c.requires.within

pub overflow_add-self : goal.overflow_add-self
overflow_add-self c = omega (arith, Linked.few c.self.inside c.self.invariant, c.self.invariant.few)

pub invariant_of-self : goal.invariant_of-self
invariant_of-self c =
    (Linked.pushed c.self.inside c.self.invariant c.args.self.now _ c.self.view_is c.index.ensures c.args.place c.requires.within c.join.new.self c.join-2.new.self
    c.join.ensures.len c.join-2.ensures.len c.requires.apart c.join.ensures.joins c.join-2.ensures.joins c.requires.absent).0

pub returns : goal.returns
returns c =
    (Linked.pushed c.self.inside c.self.invariant c.args.self.now _ c.self.view_is c.index.ensures c.args.place c.requires.within c.join.new.self c.join-2.new.self
    c.join.ensures.len c.join-2.ensures.len c.requires.apart c.join.ensures.joins c.join-2.ensures.joins c.requires.absent).1
