use Rattle.bb8_tables.proofs.Words.{arith, nat_tests}
use Rattle.bb8_tables.proofs.Linked
use Rattle.bb8_tables.proofs.line.Line.leave.Goals as goal

pub join-requires-clause-left : goal.join-requires-clause-left
join-requires-clause-left c = grind (arith, nat_tests, Linked.seen_inside, Linked.seen_moves, Linked.neighbours)

pub join-requires-clause-right : goal.join-requires-clause-right
join-requires-clause-right c = grind (arith, nat_tests, Linked.seen_inside, Linked.seen_moves, Linked.neighbours)

pub invariant_of-self : goal.invariant_of-self
invariant_of-self c =
    let m = c.requires.member in
    let within = Linked.seen_inside c.self.inside c.self.invariant c.args.self.now c.args.place m.0 c.self.view_is m.1 in
    let moves = Linked.seen_moves c.self.inside c.self.invariant c.args.self.now c.args.place m.0 _ c.self.view_is m.1 c.index-link.ensures in
    (Linked.unlinked c.self.inside c.self.invariant c.args.place _ within c.index-link.ensures c.requires.apart moves c.args.self.now
    c.join.new.self c.join-2.new.self c.self.view_is c.join.ensures.len c.join-2.ensures.len c.join.ensures.joins c.join-2.ensures.joins).0

pub returns : goal.returns
returns c =
    let m = c.requires.member in
    let within = Linked.seen_inside c.self.inside c.self.invariant c.args.self.now c.args.place m.0 c.self.view_is m.1 in
    let moves = Linked.seen_moves c.self.inside c.self.invariant c.args.self.now c.args.place m.0 _ c.self.view_is m.1 c.index-link.ensures in
    (Linked.unlinked c.self.inside c.self.invariant c.args.place _ within c.index-link.ensures c.requires.apart moves c.args.self.now
    c.join.new.self c.join-2.new.self c.self.view_is c.join.ensures.len c.join-2.ensures.len c.join.ensures.joins c.join-2.ensures.joins).1
