use Rattle.bb8_core.proofs.Words.{arith, sym, ◌∙◌, ℕ, ◌≡◌, Counts, counts, idle, Figures, nat_tests, view_of}
use Rattle.bb8_ledger.specs.Acts as acts
use Rattle.bb8_core.proofs.Fitting.{as_shown, shown_fits}
use Rattle.bb8_core.proofs.Meets.{meets_state}
use Rattle.bb8_core.proofs.Steps.{led, figures_told}
use Rattle.bb8_core.proofs.Rows.{at_view}
use Rattle.bb8_core.proofs.StepBounds.{idle_few}
use Rattle.bb8_core.proofs.internals.PoolInternals.state.Goals as goal

told_is : (a b c d : ℕ) (x y : Counts) → a ≡ b → c ≡ d → x ≡ y → let outcome : ℕ → ℕ → Counts → Figures = λ n m z. record { connections = n; idle = m; counts = z } in outcome a c x ≡ outcome b d y
told_is a b c d x y connections idle counts = λ i. record { connections = connections i; idle = idle i; counts = counts i }

pub statistics-requires : goal.statistics-requires
statistics-requires g c = let fit = shown_fits (view_of c.self.inside) c.self.invariant.0 in omega (arith, fit.answered)

pub returns-clause-figures : goal.returns-clause-figures
returns-clause-figures g c = λ l means. told_is _ _ _ _ _ _ c.connections.ensures c.idle_connections.ensures c.statistics.ensures ∙ figures_told (view_of c.self.inside) l (as_shown l (sym c.self.view_is) means)

pub returns-clause-step : goal.returns-clause-step
returns-clause-step g c = at_view c.self.view_is c.self.invariant.0 c.max-self-inside.ensures (meets_state (λ l means. returns-clause-figures g c l (as_shown l c.self.view_is means)))

pub invariant_of-self : goal.invariant_of-self
invariant_of-self g c = (led _ c.args.at.0 acts.State _ (returns-clause-step g c), c.self.invariant.1)

pub returns-clause-size : goal.returns-clause-size
returns-clause-size g c = grind (arith, nat_tests, shown_fits (view_of c.self.inside) c.self.invariant.0)

pub returns-clause-idle : goal.returns-clause-idle
returns-clause-idle g c = let few = idle_few (view_of c.self.inside) c.self.invariant.0 in omega (arith, few, c.connections.ensures, c.idle_connections.ensures)
