use Rattle.bb8_core.proofs.Words.{arith, refl, ap, ◌+◌, ◌≤◌, after_reap, RecordsView, view_of, StateView}
use Rattle.bb8_ledger.specs.Acts as acts
use Rattle.bb8_core.specs.StepBounds.{out_of}
use Rattle.bb8_core.proofs.Fitting.{due_fits}
use Rattle.bb8_core.proofs.Meets.{meets_retire_ended, meets_retired}
use Rattle.bb8_core.proofs.Steps.{led, grants}
use Rattle.bb8_core.proofs.Reaps.{retired_few}
use Rattle.bb8_core.proofs.Rows.{at_view}
use Rattle.bb8_core.proofs.Closings.{retire_offers, no_retire_offers}
use Rattle.bb8_core.proofs.ClosesBelow.{still_below, retired_below}
use Rattle.bb8_core.proofs.StepBounds.{bounded}
use Rattle.bb8_core.proofs.ShownReaped.{reap_few}
use Rattle.bb8_core.proofs.internals.PoolInternals.retire_into.Goals as goal

pub returns-then-self-eq0-clause-step : goal.returns-then-self-eq0-clause-step
returns-then-self-eq0-clause-step g c = at_view c.self.view_is c.self.invariant.0 c.max-now.ensures (meets_retire_ended c.next_number-self-inside.ensures c.if-self-eq0.true)

pub invariant_of-self : goal.invariant_of-self
invariant_of-self g c = (
  led _ c.args.at.0 acts.Retire _ (returns-then-self-eq0-clause-step g c),
  (record { age = c.self.invariant.1.age; closed = still_below c.self.inside.handles c.self.inside.retired _ _ c.if-self-eq0.true c.self.invariant.1.closed }),
)

pub grant-grant-requires : goal.grant-grant-requires
grant-grant-requires g c =
    let ended = c.reap-reaped.ensures.ends.2 in
    let fewer : c.reap-reaped.new.self.conns + c.reap-reaped.new.self.approved ≤ c.self.inside.records.conns + c.self.inside.records.approved =
    omega (
      arith,
      reap_few c.reap-reaped.ensures.ends.0 c.self.inside.records,
      reap_few c.reap-reaped.ensures.ends.1 (after_reap c.reap-reaped.ensures.ends.0 c.self.inside.records),
      ap (λ (s : RecordsView g.row.C.Denot). s.conns + s.approved) ended.state,
    ) in
    omega (arith, due_fits (view_of c.self.inside) {taken = c.reap-reaped.new.self} _ c.self.invariant.0 fewer refl refl c.want-wanted.ensures)

pub retire-requires : goal.retire-requires
retire-requires g c = retired_few (view_of c.self.inside) c.self.invariant.0 (omega (arith, c.max-now.ensures)) (rw c.retiring-all.ensures at c.reap-reaped.ensures.ends.2) c.reap-reaped.ensures.numbers

pub returns-clause-step : goal.returns-clause-step
returns-clause-step g c = at_view c.self.view_is c.self.invariant.0 c.max-now.ensures
    (meets_retired c.self.inside.counters c.next_number-self-inside.ensures c.if-self-eq0.false (rw c.retiring-all.ensures at c.reap-reaped.ensures.ends.2)
    (grants refl c.want-wanted.ensures c.grant-grant.ensures.granted c.grant-grant.ensures.state) refl c.retire.ensures)

pub invariant_of-self-2 : goal.invariant_of-self-2
invariant_of-self-2 g c = (led _ c.args.at.0 acts.Retire _ (returns-clause-step g c), record { age = c.self.invariant.1.age; closed = retired_below c.self.inside.handles _ c.if-self-eq0.false })

pub returns-clause-bounds : goal.returns-clause-bounds
returns-clause-bounds g c = bounded _ c.args.at.0 acts.Retire _ (returns-clause-step g c) c.self.view_is c.end-2.ensures (omega (arith, ap (λ (s : StateView g.row.C.Denot). out_of s) c.self.view_is)) (omega (arith))

pub returns-then-self-eq0-clause-closed : goal.returns-then-self-eq0-clause-closed
returns-then-self-eq0-clause-closed g c = no_retire_offers c.args.at.0 c.args.closed.now

pub returns-clause-closed : goal.returns-clause-closed
returns-clause-closed g c = retire_offers c.args.at.0 c.grant-grant.result c.args.closed.now c.self.view_is c.max-now.ensures
    (rw c.retiring-all.ensures at c.reap-reaped.ensures.ends.2) c.reap-reaped.ensures.ends.3
