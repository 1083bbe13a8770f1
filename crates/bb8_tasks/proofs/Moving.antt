-- One poll of a replay in plain words: where it leaves the task, and how many attempts it begins.
use Rattle.std.proofs.lemmas.Bool.Decides.{nat_tests}
use Rattle.bb8_tasks.proofs.Words.{◌≡◌, ℕ, ◌-◌, ◌<◌, ◌≤◌, max, Bool, true, false, Option, Some, None, Ok, ◌⊎◌, arith, Moment, Key, wait, Reply, ReplenishAnswer, ReplenishStage, Start, Connecting, Acquiring, Sleeping, Done, Tries, scripted, steady, Task, Polled, IsDue, failed_once_more, TaskProceeds}
use Rattle.bb8_core.specs.declared.answers.Looked.{Looked}
use Rattle.bb8_tasks.specs.declared.backoff.Reply.TheVariants as replies
use Rattle.bb8_tasks.specs.declared.backoff.Scripted.{Scripted}

-- the state of such a task
abbrev pub Standing : Type 0
Standing = ReplenishStage (Unit {0}) (Unit {0}) (Unit {0})

module _ (timeout : ℕ) (retry : Bool) (m : Moment) where
  -- where a reply leaves a task that has these tries behind it
  abbrev pub Leads : Reply → Tries → Standing → Type 0
  Leads replies.Pending tries s = s ≡ Connecting tries tt
  Leads replies.Ok tries s = s ≡ Done
  Leads replies.Err tries s =
      ((retry ≡ false) ⊎ (timeout < m.0 - tries.start.0) → s ≡ Done)
      × (retry ≡ true → m.0 - tries.start.0 ≤ timeout
      → (due : Option Moment) × IsDue m (wait timeout (failed_once_more tries).failures) due × (s ≡ Sleeping (failed_once_more tries) due))

  -- where a poll at this moment leads, from each stage
  abbrev pub Moves : Reply → Standing → ℕ → Standing → Type 0
  Moves reply Start tried s = (tried ≡ 1) × Leads reply (record { start = m; failures = 0 }) s
  Moves reply (Connecting tries connecting) tried s = (tried ≡ 0) × Leads reply tries s
  Moves reply (Acquiring tries c acquiring) tried s = (tried ≡ 0) × (s ≡ Done)
  Moves reply (Sleeping tries None) tried s = (tried ≡ 0) × (s ≡ Sleeping tries None)
  Moves reply (Sleeping tries (Some due)) tried s = (due.0 ≤ m.0 → (tried ≡ 1) × Leads reply tries s) × (m.0 < due.0 → (tried ≡ 0) × (s ≡ Sleeping tries (Some due)))
  Moves reply Done tried s = (tried ≡ 0) × (s ≡ Done)

-- the moment of a poll: the greater of the clock's and the one of the poll before, but none is
-- taken once the task has ended
abbrev pub IsMoment : Moment → Moment → Standing → Moment → Type 0
IsMoment at latest Done m = m ≡ latest
IsMoment at latest stage m = m.0 ≡ max at.0 latest.0

module _ (timeout : ℕ) (retry : Bool) where
  -- where one poll leads a task, and how many attempts it begins
  abbrev pub Led : Moment × Reply → Moment → Standing → ℕ → Task → Type 0
  Led p latest stage tried t' = IsMoment p.0 latest stage t'.latest × Moves timeout retry t'.latest p.1 stage tried t'.stage

  -- one poll of a task that has not ended, after its look
  looked : (p : Moment × Reply) (approval : Key) (latest : Moment) (stage : Standing) (tried : ℕ) (a : ReplenishAnswer (Unit {0})) (t' : Task) (seen : Looked) (x x' : Scripted)
      → seen ≡ record { moment = p.0; alive = true } → x ≡ record { reply = p.1; tries = 0 } → t'.latest.0 ≡ max seen.moment.0 latest.0 → tried ≡ x'.tries
      → TaskProceeds steady timeout retry approval t'.latest scripted seen.alive stage x (record { answer = a; stage = t'.stage }) x'
      → (t'.latest.0 ≡ max p.0.0 latest.0) × Moves timeout retry t'.latest p.1 stage tried t'.stage
  looked p approval latest stage tried a t' seen x x' is same at count r = grind (arith, nat_tests)

  -- one poll of a task in this state
  moved-at : (p : Moment × Reply) (approval : Key) (latest : Moment) (stage : Standing) (tried : ℕ) (a : ReplenishAnswer (Unit {0})) (t' : Task)
      → Polled timeout retry p (record { approval = approval; latest = latest; stage = stage }) tried a t' → Led p latest stage tried t'
  moved-at p approval latest Start tried a t' (x', (seen, x, (is, same), at, key, r), count) = looked p approval latest Start tried a t' seen x x' is same at count r
  moved-at p approval latest (Connecting tries connecting) tried a t' (x', (seen, x, (is, same), at, key, r), count) = grind (arith, nat_tests)
  moved-at p approval latest (Acquiring tries c acquiring) tried a t' (x', (seen, x, (is, same), at, key, r), count) = grind (arith, nat_tests)
  moved-at p approval latest (Sleeping tries due) tried a t' (x', (seen, x, (is, same), at, key, r), count) = grind (arith, nat_tests)
  moved-at p approval latest Done tried a t' (x', (told_so, stays, same), count) = grind (arith, nat_tests)

  -- one poll in plain words
  pub moved : (p : Moment × Reply) (t : Task) (tried : ℕ) (a : ReplenishAnswer (Unit {0})) (t' : Task) → Polled timeout retry p t tried a t' → Led p t.latest t.stage tried t'
  moved p t tried a t' r = moved-at p t.approval t.latest t.stage tried a t' r

  -- a poll begins one attempt at most
  pub tried-most : (p : Moment × Reply) (t : Task) (tried : ℕ) (a : ReplenishAnswer (Unit {0})) (t' : Task) → Polled timeout retry p t tried a t' → tried ≤ 1
  tried-most p t tried a t' r = grind (arith, nat_tests)
