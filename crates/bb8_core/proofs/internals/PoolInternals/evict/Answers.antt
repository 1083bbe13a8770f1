use Rattle.bb8_core.proofs.Words.{arith, refl, ap, ◌+◌, ◌≤◌, stands, is_idle, nat_tests, RecordsView, view_of}
use Rattle.bb8_ledger.specs.Acts as acts
use Rattle.std.proofs.Math.Nat.{min-le_left}
use Rattle.bb8_core.proofs.Fitting.{idle_as, due_fits, fits_at, unfit_at, evicted_few}
use Rattle.bb8_core.proofs.Meets.{meets_evicted}
use Rattle.bb8_core.proofs.Steps.{led, grants}
use Rattle.bb8_core.proofs.Rows.{made}
use Rattle.bb8_core.proofs.Runs.{unfit_records}
use Rattle.bb8_core.proofs.StepBounds.{one_few, bounded}
use Rattle.bb8_core.proofs.internals.PoolInternals.evict.Goals as goal

pub returns-in-None-clause-step : goal.returns-in-None-clause-step
returns-in-None-clause-step g c = unfit_records c.args.at.0 (acts.Evict c.args.k.number) c.self.view_is c.self.invariant.0
    (unfit_at (view_of c.self.inside) is_idle c.args.k.number c.in-None.ensures.none.0) c.in-None.ensures.none.1

pub grant-grant-requires : goal.grant-grant-requires
grant-grant-requires g c =
    let fewer : c.evict.new.self.conns + c.evict.new.self.approved ≤ c.self.inside.records.conns + c.self.inside.records.approved =
    omega (arith, ap (λ (s : RecordsView g.row.C.Denot). s.conns + s.approved) c.in-Some.ensures.some.1) in
    omega (arith, due_fits (view_of c.self.inside) {taken = c.evict.new.self} _ c.self.invariant.0 fewer refl refl c.want-wanted.ensures)

pub detach-requires : goal.detach-requires
detach-requires g c = grind (arith, nat_tests, evicted_few c.args.k.number (view_of c.self.inside) c.self.invariant.0)

pub returns-in-Some-clause-step : goal.returns-in-Some-clause-step
returns-in-Some-clause-step g c = made c.self.view_is c.self.invariant.0 c.max-self-inside.ensures
    (meets_evicted c.self.inside.counters
    (fits_at (view_of c.self.inside) is_idle c.args.k.number (ap (stands is_idle) c.in-Some.ensures.some.0.2))
    (record { who = c.notify-notified.ensures.value; after = c.notify-notified.ensures.state })
    c.in-Some.ensures.some.1
    (grants refl c.want-wanted.ensures c.grant-grant.ensures.granted c.grant-grant.ensures.state) refl c.detach.ensures)

pub returns-in-Some-clause-connection : goal.returns-in-Some-clause-connection
returns-in-Some-clause-connection g c = idle_as _ _ c.self.view_is c.in-Some.ensures.some.0

pub invariant_of-self-in-Some : goal.invariant_of-self-in-Some
invariant_of-self-in-Some g c = (led _ c.args.at.0 (acts.Evict c.args.k.number) _ (returns-in-Some-clause-step g c).0, c.self.invariant.1)

pub returns-in-Some-clause-bounds : goal.returns-in-Some-clause-bounds
returns-in-Some-clause-bounds g c = bounded _ c.args.at.0 (acts.Evict c.args.k.number) _ (returns-in-Some-clause-step g c).0 c.self.view_is c.end.ensures (omega (arith, one_few, min-le_left)) (omega (arith, one_few, min-le_left))
