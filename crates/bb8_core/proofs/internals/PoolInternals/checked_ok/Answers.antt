use Rattle.bb8_core.proofs.Words.{arith, refl, sym, ◌∙◌, ap, ℕ, Some, nat_tests, get, holding_is, view_of, StateView}
use Rattle.bb8_ledger.specs.Acts as acts
use Rattle.bb8_tables.specs.Machine as machine
use Rattle.bb8_core.proofs.Fitting.{ended_few, fits_held, unfit_held, held_out}
use Rattle.bb8_core.proofs.Meets.{meets_passed}
use Rattle.bb8_core.proofs.Steps.{led}
use Rattle.bb8_core.proofs.Rows.{made}
use Rattle.bb8_core.proofs.Runs.{unfit_gets}
use Rattle.bb8_core.proofs.internals.PoolInternals.checked_ok.Goals as goal

pub hand_over-key-requires : goal.hand_over-key-requires
hand_over-key-requires g c = record { out = held_out (view_of c.self.inside) c.args.get.number c.in-Some.held c.self.invariant.0 c.in-Some.ensures.some.0 }

pub serve-requires : goal.serve-requires
serve-requires g c =
    grind (
      arith,
      nat_tests,
      holding_is (get c.self.inside.gets.places c.args.get.number) c.in-Some.held c.in-Some.ensures.some.0,
      ended_few (view_of c.self.inside) c.args.get.number c.self.invariant.0,
    )

pub returns-in-Some-clause-step : goal.returns-in-Some-clause-step
returns-in-Some-clause-step g c =
    let a = view_of c.self.inside in
    made c.self.view_is c.self.invariant.0 c.max-now.ensures
    (meets_passed c.self.inside.counters (fits_held a c.args.get.number c.in-Some.held c.in-Some.ensures.some.0)
    (c.in-Some.ensures.some.0 ∙ ap (λ (k : ℕ). Some k) (sym c.hand_over-key.ensures.key))
    (ap (λ (s : StateView g.row.C.Denot). s.records.next) (sym c.self.view_is))
    (c.hand_over-key.ensures.state ∙ ap (λ k. machine.after_handover k c.self.inside.records) (sym c.hand_over-key.ensures.key))
    c.in-Some.ensures.some.2 refl c.in-Some.ensures.some.1 c.serve.ensures)

pub invariant_of-self-in-Some : goal.invariant_of-self-in-Some
invariant_of-self-in-Some g c = (led _ c.args.at.0 (acts.CheckedOk c.args.get.number) _ (returns-in-Some-clause-step g c).0, c.self.invariant.1)

pub returns-in-None-clause-step : goal.returns-in-None-clause-step
returns-in-None-clause-step g c = unfit_gets c.args.at.0 (acts.CheckedOk c.args.get.number) c.self.view_is c.self.invariant.0
    (unfit_held (view_of c.self.inside) c.args.get.number c.in-None.ensures.none.0) c.in-None.ensures.none.1
