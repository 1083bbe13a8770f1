-- Runs of polls, one after another.
use Rattle.std.proofs.lemmas.Bool.Decides.{nat_tests}
use Rattle.bb8_tasks.proofs.Words.{◌≡◌, ℕ, suc, ◌+◌, Bool, List, [], ◌∷◌, ◌++◌, length, subst, ap, refl, arith, Moment, Reply, ReplenishAnswer, Task, Polled, Runs}

module _ (timeout : ℕ) (retry : Bool) where
  -- a run with one more poll
  pub run_more : (t : Task) (polls : List (Moment × Reply)) (answers : List (ReplenishAnswer (Unit {0}))) (tries : ℕ) (t' : Task)
      → (p : Moment × Reply) (a : ReplenishAnswer (Unit {0})) (tried : ℕ) (t'' : Task)
      → Runs timeout retry t polls answers tries t' → Polled timeout retry p t' tried a t''
      → Runs timeout retry t (polls ++ p ∷ []) (answers ++ a ∷ []) (tries + tried) t''
  run_more t [] [] tries t' p a tried t'' r h = (tried, t'', 0, subst (λ (x : Task). Polled timeout retry p x tried a t'') r.1 h, (refl, refl), omega arith)
  run_more t (q ∷ polls) (b ∷ answers) tries t' p a tried t'' r h = grind (arith, nat_tests, run_more r.1 polls answers r.2 t' p a tried t'' r.4 h)
  run_more t _ _ tries t' p a tried t'' r h = absurd r

  -- a run has a result for each poll
  pub run_length : (t : Task) (polls : List (Moment × Reply)) (answers : List (ReplenishAnswer (Unit {0}))) (tries : ℕ) (t' : Task)
      → Runs timeout retry t polls answers tries t' → length answers ≡ length polls
  run_length t [] [] tries t' r = refl
  run_length t (p ∷ polls) (a ∷ answers) tries t' r = ap suc (run_length r.1 polls answers r.2 t' r.4)
  run_length t _ _ tries t' r = absurd r
