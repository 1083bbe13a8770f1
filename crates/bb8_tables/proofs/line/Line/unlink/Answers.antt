use Rattle.bb8_tables.proofs.Linked
use Rattle.bb8_tables.proofs.line.Line.unlink.Goals as goal

pub join-requires-clause-left : goal.join-requires-clause-left
join-requires-clause-left c = (Linked.neighbours c.self.inside c.self.invariant c.args.place _ (rw (← c.self.view_is) at c.requires.within) c.index-link.ensures c.requires.apart c.if-link-at.true).0

pub join-requires-clause-right : goal.join-requires-clause-right
join-requires-clause-right c = (Linked.neighbours c.self.inside c.self.invariant c.args.place _ (rw (← c.self.view_is) at c.requires.within) c.index-link.ensures c.requires.apart c.if-link-at.true).1

pub overflow_sub-self : goal.overflow_sub-self
overflow_sub-self c = (Linked.neighbours c.self.inside c.self.invariant c.args.place _ (rw (← c.self.view_is) at c.requires.within) c.index-link.ensures c.requires.apart c.if-link-at.true).2

pub invariant_of-self : goal.invariant_of-self
invariant_of-self c =
    (Linked.unlinked c.self.inside c.self.invariant c.args.place _ (rw (← c.self.view_is) at c.requires.within) c.index-link.ensures c.requires.apart c.if-link-at.true
    c.args.self.now c.join.new.self c.join-then-link-at.new.self c.self.view_is c.join.ensures.len c.join-then-link-at.ensures.len c.join.ensures.joins c.join-then-link-at.ensures.joins).0

pub returns-then-link-at : goal.returns-then-link-at
returns-then-link-at c =
    (Linked.unlinked c.self.inside c.self.invariant c.args.place _ (rw (← c.self.view_is) at c.requires.within) c.index-link.ensures c.requires.apart c.if-link-at.true
    c.args.self.now c.join.new.self c.join-then-link-at.new.self c.self.view_is c.join.ensures.len c.join-then-link-at.ensures.len c.join.ensures.joins c.join-then-link-at.ensures.joins).1

pub returns-else-link-at : goal.returns-else-link-at
returns-else-link-at c = Linked.alone c.self.inside c.self.invariant c.args.self.now c.args.place _ c.self.view_is (rw (← c.self.view_is) at c.requires.within) c.index-link.ensures c.requires.apart
    c.if-link-at.false
