use Rattle.std.proofs.lemmas.Bool.Decides.{nat_tests}
use Rattle.std.proofs.Common.{arith, refl}
use Rattle.bb8_tables.proofs.ReapWalks.{births_start, births_member, births_stands, births_out, births_aged, none_ahead, none_more, none_after, reads_at_most}
use Rattle.bb8_tables.proofs.records.Records.reap_aged.Goals as goal
use Rattle.bb8_tables.proofs.records.Records.reap_aged.Goals.{in-Out, in-Aged}

pub loop-init : goal.loop-init
loop-init g c = births_start c.self.inside 0 c.first_birth-at.result c.self.invariant c.self.view_is refl c.first_birth-at.ensures c.births-end.ensures

pub pass_birth-requires-clause-member : goal.pass_birth-requires-clause-member
pass_birth-requires-clause-member g c = births_member (rw c.in-Some.is at c.loop.invariant)

pub pass_birth-requires-clause-stands : goal.pass_birth-requires-clause-stands
pass_birth-requires-clause-stands g c = births_stands (rw c.in-Some.is at c.loop.invariant)

pub loop-preserved : goal.loop-preserved
loop-preserved g c = elim c.match-pass_birth.branch [
  | in-Out w ↦ rw (w.many-is, w.at-is, w.self-inside-is, w.closed-is) (births_out (rw c.in-Some.is at c.loop.invariant) w.in-Out.ensures.value w.in-Out.ensures.examined)
  | in-Aged w ↦ rw (w.many-is, w.at-is, w.self-inside-is, w.closed-is)
      (births_aged (rw c.in-Some.is at c.loop.invariant) w.in-Aged.ensures.value w.close_idle_at.ensures.state refl w.close_idle_at.ensures.listed w.in-Aged.ensures.examined)
]

pub returns-after-loop-clause-none_left : goal.returns-after-loop-clause-none_left
returns-after-loop-clause-none_left g c = none_more c.loop.invariant c.loop-test.false

pub returns-after-loop-clause-examined : goal.returns-after-loop-clause-examined
returns-after-loop-clause-examined g c = let m = reads_at_most c.loop.invariant in (m.0, omega (arith, m.1), omega (arith, m.2))

pub returns-in_default-clause-none_left : goal.returns-in_default-clause-none_left
returns-in_default-clause-none_left g c = none_ahead c.loop.invariant c.in_default.is

pub returns-in_default-clause-examined : goal.returns-in_default-clause-examined
returns-in_default-clause-examined g c = let m = reads_at_most c.loop.invariant in (m.0, omega (arith, m.1), omega (arith, m.2))

pub returns-in-Young-clause-none_left : goal.returns-in-Young-clause-none_left
returns-in-Young-clause-none_left g c = none_after (rw c.in-Some.is at c.loop.invariant) c.in-Young.ensures.value

pub returns-in-Young-clause-examined : goal.returns-in-Young-clause-examined
returns-in-Young-clause-examined g c = grind (arith, nat_tests, reads_at_most c.loop.invariant)
