use Rattle.bb8_tables.proofs.Words.{arith, nat_tests}
use Rattle.bb8_tables.proofs.Approvals.{approve-sizes, approve-raised}
use Rattle.bb8_tables.proofs.records.Records.grant_some.Goals as goal

pub approve-requires-clause-room : goal.approve-requires-clause-room
approve-requires-clause-room g c = grind (arith, nat_tests, approve-sizes)

pub approve-requires-clause-number : goal.approve-requires-clause-number
approve-requires-clause-number g c = grind (arith, nat_tests, approve-sizes)

pub returns-clause-state : goal.returns-clause-state
returns-clause-state g c = grind (arith, nat_tests, approve-raised c.args.claimed c.if-below-possible.count c.if-below-possible.self.peak c.args.self.now c.loop.invariant.peak)
