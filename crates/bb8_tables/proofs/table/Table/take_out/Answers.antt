use Rattle.bb8_tables.proofs.Words.{arith, nat_tests}
use Rattle.bb8_tables.proofs.Spelled.{absent_without_self, without_absent}
use Rattle.bb8_tables.proofs.table.Table.take_out.Goals as goal

pub release-requires-clause-absent : goal.release-requires-clause-absent
release-requires-clause-absent g c = rw c.step_out.ensures (absent_without_self c.args.place c.args.self.now.line)

pub returns-clause-state : goal.returns-clause-state
returns-clause-state g c = grind (arith, nat_tests, without_absent c.args.place, absent_without_self c.args.place c.args.self.now.line)
