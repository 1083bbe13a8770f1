use Rattle.bb8_core.proofs.Words.{arith, refl, sym, ◌∙◌, is_guarded, nat_tests, view_of}
use Rattle.bb8_ledger.specs.Acts as acts
use Rattle.std.proofs.Math.Nat.{min-le_left}
use Rattle.bb8_core.proofs.Fitting.{as_shown, shown_fits, fits_at, unfit_at, guarded_record, closed_few}
use Rattle.bb8_core.proofs.Meets.{meets_detached}
use Rattle.bb8_core.proofs.Steps.{led}
use Rattle.bb8_core.proofs.Rows.{made}
use Rattle.bb8_core.proofs.Runs.{unfit_step}
use Rattle.bb8_core.proofs.StepBounds.{one_few, bounded}
use Rattle.bb8_core.proofs.internals.PoolInternals.detach.Goals as goal

pub returns-then-not-is_guarded-clause-step : goal.returns-then-not-is_guarded-clause-step
returns-then-not-is_guarded-clause-step g c = unfit_step c.args.at.0 (acts.Detach c.args.k.number) c.self.view_is c.self.invariant.0 (λ l legal means.
    unfit_at (view_of c.self.inside) is_guarded c.args.k.number (sym c.is_guarded.ensures.value ∙ c.if-not-is_guarded.true) l legal (as_shown l (sym c.self.view_is) means))

pub close_and_grant-grant-requires-clause-size : goal.close_and_grant-grant-requires-clause-size
close_and_grant-grant-requires-clause-size g c = (shown_fits (view_of c.self.inside) c.self.invariant.0).size

pub detach-requires : goal.detach-requires
detach-requires g c = grind (arith, nat_tests, closed_few c.args.k.number (view_of c.self.inside) c.self.invariant.0, guarded_record (view_of c.self.inside) c.args.k.number)

pub returns-clause-step : goal.returns-clause-step
returns-clause-step g c = made c.self.view_is c.self.invariant.0 c.max-self-inside.ensures
    (meets_detached c.self.inside.counters
    (fits_at (view_of c.self.inside) is_guarded c.args.k.number (sym c.is_guarded.ensures.value ∙ c.if-not-is_guarded.false))
    (record { who = c.notify-notified.ensures.value; after = c.notify-notified.ensures.state })
    c.close_and_grant-grant.ensures.granted c.close_and_grant-grant.ensures.state refl c.detach.ensures)

pub invariant_of-self-2 : goal.invariant_of-self-2
invariant_of-self-2 g c = (led _ c.args.at.0 (acts.Detach c.args.k.number) _ (returns-clause-step g c).0, c.self.invariant.1)

pub returns-clause-bounds : goal.returns-clause-bounds
returns-clause-bounds g c = bounded _ c.args.at.0 (acts.Detach c.args.k.number) _ (returns-clause-step g c).0 c.self.view_is c.end.ensures (omega (arith, one_few, min-le_left)) (omega (arith, one_few, min-le_left))

pub invariant_of-self : goal.invariant_of-self
invariant_of-self g c = (led _ c.args.at.0 (acts.Detach c.args.k.number) _ (returns-then-not-is_guarded-clause-step g c).0, c.self.invariant.1)
