-- How many connection attempts a run begins, at most.
use Rattle.std.proofs.lemmas.Bool.Decides.{nat_tests}
use Rattle.bb8_tasks.proofs.Words.{◌≡◌, ℕ, suc, ◌+◌, ◌-◌, ◌*◌, ◌^◌, ◌<◌, ◌≤◌, Bool, false, Option, Some, None, List, [], ◌∷◌, length, inl, subst, sym, ap, refl, arith, Moment, wait, waits, Reply, ReplenishAnswer, Start, Connecting, Acquiring, Sleeping, Done, Tries, IsBounded, Task, first_task, Runs, Plays, IsDue, failed_once_more}
use Rattle.bb8_tasks.specs.declared.backoff.Reply.TheVariants as replies
use Rattle.bb8_tasks.proofs.Moving.{Standing, Leads, Moves, IsMoment, moved}
use Rattle.bb8_tasks.proofs.Waiting.{waits-more, at_most, most-below, most_waits}

-- no poll's moment is before the one of the poll before
later : (at latest : Moment) (stage : Standing) (m : Moment) → IsMoment at latest stage m → latest.0 ≤ m.0
later at latest Done m h = let same : m.0 ≡ latest.0 = ap (λ (x : Moment). x.0) h in omega arith
later at latest _ m h = omega arith

-- what each poll keeps a run keeps
run-keeps : (timeout : ℕ) (retry : Bool) (Keeps : Moment → Standing → ℕ → Type 0)
    → ((reply : Reply) (latest m : Moment) (stage : Standing) (begun : ℕ) (s : Standing) (tries : ℕ) → latest.0 ≤ m.0
    → Keeps latest stage tries → Moves timeout retry m reply stage begun s → Keeps m s (tries + begun))
    → (t : Task) (polls : List (Moment × Reply)) (answers : List (ReplenishAnswer (Unit {0}))) (tries : ℕ) (t' : Task) (before : ℕ)
    → Keeps t.latest t.stage before → Runs timeout retry t polls answers tries t' → Keeps t'.latest t'.stage (before + tries)
run-keeps timeout retry Keeps move t [] [] tries t' before k r = grind (arith, nat_tests)
run-keeps timeout retry Keeps move t (p ∷ polls) (a ∷ answers) tries t' before k r =
    let led = moved timeout retry p t r.0 a r.1 r.3 in
    let next : Keeps r.1.latest r.1.stage (before + r.0) = move p.1 t.latest r.1.latest t.stage r.0 r.1.stage before (later p.0 t.latest t.stage r.1.latest led.0) k led.1 in
    let all : before + r.0 + r.2 ≡ before + tries = omega arith in
    subst (λ (x : ℕ). Keeps t'.latest t'.stage x) all (run-keeps timeout retry Keeps move r.1 polls answers r.2 t' (before + r.0) next r.4)
run-keeps timeout retry Keeps move t _ _ tries t' before k r = absurd r

module _ (timeout : ℕ) (retry : Bool) (n : ℕ) (small : n < 70) (past : timeout < waits timeout (suc n)) where
  -- a try is under way: it is one more than the failures, and these took their waits
  abbrev Under : Tries → Moment → ℕ → Type 0
  Under t latest tries = (tries ≡ t.failures + 1) × (t.failures ≤ n + 1) × (t.start.0 + waits timeout t.failures ≤ latest.0)

  -- the next try is not due before the waits are over
  abbrev IsAfter : Tries → Option Moment → Type 0
  IsAfter t None = Unit {0}
  IsAfter t (Some due) = t.start.0 + waits timeout t.failures ≤ due.0

  -- what a run keeps
  abbrev Keeps : Moment → Standing → ℕ → Type 0
  Keeps latest Start tries = tries ≡ 0
  Keeps latest (Connecting t v) tries = Under t latest tries
  Keeps latest (Acquiring t c a) tries = Under t latest tries
  Keeps latest (Sleeping t due) tries = (tries ≡ t.failures) × (t.failures ≤ n + 1) × IsAfter t due
  Keeps latest Done tries = tries ≤ n + 2

  -- what is due after one more failure is due after one more wait
  after : (m : Moment) (t : Tries) (due : Option Moment) → t.failures ≤ n + 1 → t.start.0 + waits timeout t.failures ≤ m.0
      → IsDue m (wait timeout (failed_once_more t).failures) due → IsAfter (failed_once_more t) due
  after m t None few waited h = tt
  after m t (Some due) few waited h = grind (arith, nat_tests, waits-more timeout t.failures)

  -- a reply keeps it
  keeps-reply : (m : Moment) (reply : Reply) (t : Tries) (s : Standing) (tries : ℕ) → Under t m tries → Leads timeout retry m reply t s → Keeps m s tries
  keeps-reply m replies.Pending t s tries u l = subst (λ (x : Standing). Keeps m x tries) (sym l) u
  keeps-reply m replies.Ok t s tries u l = subst (λ (x : Standing). Keeps m x tries) (sym l) (omega arith)
  keeps-reply m replies.Err t s tries u l = grind (arith, nat_tests, at_most timeout n t.failures past, after m t)

  -- a poll keeps it
  keeps-move : (reply : Reply) (latest m : Moment) (stage : Standing) (begun : ℕ) (s : Standing) (tries : ℕ) → latest.0 ≤ m.0
      → Keeps latest stage tries → Moves timeout retry m reply stage begun s → Keeps m s (tries + begun)
  keeps-move reply latest m Start begun s tries le k h = keeps-reply m reply (record { start = m; failures = 0 }) s (tries + begun) (omega arith, omega arith, omega arith) h.1
  keeps-move reply latest m (Connecting t v) begun s tries le k h = keeps-reply m reply t s (tries + begun) (omega arith, k.1, omega arith) h.1
  keeps-move reply latest m (Acquiring t c a) begun s tries le k h = subst (λ (x : Standing). Keeps m x (tries + begun)) (sym h.1) (omega arith)
  keeps-move reply latest m (Sleeping t None) begun s tries le k h = subst (λ (x : Standing). Keeps m x (tries + begun)) (sym h.1) (omega arith, k.1, tt)
  keeps-move reply latest m (Sleeping t (Some due)) begun s tries le k h = grind (arith, nat_tests, keeps-reply m reply t s (tries + begun))
  keeps-move reply latest m Done begun s tries le k h = subst (λ (x : Standing). Keeps m x (tries + begun)) (sym h.1) (omega arith)

  -- what is kept is bounded
  kept-bounded : (m : Moment) (s : Standing) (tries : ℕ) → Keeps m s tries → tries ≤ n + 2
  kept-bounded m Done tries k = k
  kept-bounded m _ tries k = omega arith

  -- a run from the start is bounded
  run-bounded : (polls : List (Moment × Reply)) (answers : List (ReplenishAnswer (Unit {0}))) (tries : ℕ) → Plays timeout retry polls answers tries → tries ≤ n + 2
  run-bounded polls answers tries r =
      let most = kept-bounded r.0.latest r.0.stage (0 + tries) (run-keeps timeout retry Keeps keeps-move first_task polls answers tries r.0 0 refl r.1) in
      omega arith

-- the bound on the attempts of every run
pub bounded : (timeout : ℕ) (retry : Bool) (polls : List (Moment × Reply)) (answers : List (ReplenishAnswer (Unit {0}))) (tries : ℕ)
    → timeout < 2 ^ 64 * 1_000_000_000 → Plays timeout retry polls answers tries → IsBounded timeout tries
bounded timeout retry polls answers tries fits r half =
    let most = most_waits timeout fits half in
    (most.0, most.1, run-bounded timeout retry most.0 (most-below timeout most.0 fits half most.1.within) most.1.past polls answers tries r)

-- where there is no retry, what a run keeps
abbrev KeepsOne : Standing → ℕ → Type 0
KeepsOne Start tries = tries ≡ 0
KeepsOne (Sleeping t due) tries = ⊥
KeepsOne stage tries = tries ≤ 1

module _ (timeout : ℕ) (retry : Bool) (off : retry ≡ false) where
  -- a reply keeps it
  one-reply : (m : Moment) (reply : Reply) (t : Tries) (s : Standing) (tries : ℕ) → tries ≤ 1 → Leads timeout retry m reply t s → KeepsOne s tries
  one-reply m replies.Pending t s tries u l = subst (λ (x : Standing). KeepsOne x tries) (sym l) u
  one-reply m replies.Ok t s tries u l = subst (λ (x : Standing). KeepsOne x tries) (sym l) u
  one-reply m replies.Err t s tries u l = subst (λ (x : Standing). KeepsOne x tries) (sym (l.0 (inl off))) u

  -- a poll keeps it
  one-move : (reply : Reply) (m : Moment) (stage : Standing) (begun : ℕ) (s : Standing) (tries : ℕ) → KeepsOne stage tries → Moves timeout retry m reply stage begun s → KeepsOne s (tries + begun)
  one-move reply m Start begun s tries k h = one-reply m reply (record { start = m; failures = 0 }) s (tries + begun) (omega arith) h.1
  one-move reply m (Connecting t v) begun s tries k h = one-reply m reply t s (tries + begun) (omega arith) h.1
  one-move reply m (Acquiring t c a) begun s tries k h = subst (λ (x : Standing). KeepsOne x (tries + begun)) (sym h.1) (omega arith)
  one-move reply m (Sleeping t due) begun s tries k h = absurd k
  one-move reply m Done begun s tries k h = subst (λ (x : Standing). KeepsOne x (tries + begun)) (sym h.1) (omega arith)

  -- what is kept is one at most
  kept-one : (s : Standing) (tries : ℕ) → KeepsOne s tries → tries ≤ 1
  kept-one Start tries k = omega arith
  kept-one (Sleeping t due) tries k = absurd k
  kept-one _ tries k = k

  -- with no retry a run begins one attempt at most
  pub at_most_one : (polls : List (Moment × Reply)) (answers : List (ReplenishAnswer (Unit {0}))) (tries : ℕ) → Plays timeout retry polls answers tries → tries ≤ 1
  at_most_one polls answers tries r =
      let most = kept-one r.0.stage (0 + tries)
      (run-keeps timeout retry (λ m s k. KeepsOne s k) (λ reply latest m stage begun s tries le k h. one-move reply m stage begun s tries k h) first_task polls answers tries r.0 0 refl r.1) in
      omega arith

module _ (timeout : ℕ) (retry : Bool) where
  -- a run over a list that is not empty begins an attempt
  pub at_least_one : (polls : List (Moment × Reply)) (answers : List (ReplenishAnswer (Unit {0}))) (tries : ℕ) → 0 < length polls → Plays timeout retry polls answers tries → 1 ≤ tries
  at_least_one [] answers tries some r = absurd (omega arith)
  at_least_one (p ∷ polls) answers tries some r = grind (arith, nat_tests)
