-- A task that does not go on has ended.
use Rattle.std.proofs.lemmas.Bool.Decides.{nat_tests}
use Rattle.std.proofs.Common.{arith}
use Rattle.bb8_tasks.proofs.Words.{◌≡◌, ℕ, Bool, Option, Result, sym, subst, Poll, Moment, Key, ReplenishStep, Replenish, ReplenishAnswer, Pending, Retrying, GivenBack, ReplenishStage, Done, Tries, AfterTaskAcquire, AfterTaskConnect, TaskBegins, Wakes, TaskAdvances, TaskProceeds, TaskPolls}
use Rattle.bb8_tasks.specs.declared.home.Home.{Ghosts as HomeOf}
use Rattle.bb8_tasks.specs.declared.opener.Opener.{Ghosts as OpenerOf}

module _ {C V A E : Type 0} where
  -- where an answer leaves a task
  abbrev pub Ends : ReplenishAnswer E → ReplenishStage C V A → Type 0
  Ends Pending s = Unit {0}
  Ends (Retrying e) s = Unit {0}
  Ends _ s = s ≡ Done

  -- that of a row is known by the answer that it leaves
  left : (a : ReplenishAnswer E) (next : ReplenishStep C V A E) → next.answer ≡ a → Ends a next.stage → Ends next.answer next.stage
  left a next is ends = subst (λ (x : ReplenishAnswer E). Ends x next.stage) (sym is) ends

module _ {C E V A X : Type 0} (home : HomeOf X C) (timeout : ℕ) (retry : Bool) (approval : Key) (m : Moment) (opener : OpenerOf X C E V A) where
  prepares : (answer : Poll (Result (Unit {0}) E)) (tries : Tries) (c : C) (acquiring : A) (x x' : X) (next : ReplenishStep C V A E)
      → AfterTaskAcquire home timeout retry approval m opener answer tries c acquiring x next x' → Ends next.answer next.stage
  prepares answer tries c acquiring x x' next a = grind (arith, nat_tests)

  connects : (answer : Poll (Result C E)) (tries : Tries) (connecting : V) (x x' : X) (next : ReplenishStep C V A E)
      → AfterTaskConnect home timeout retry approval m opener answer tries connecting x next x' → Ends next.answer next.stage
  connects answer tries connecting x x' next a = grind (arith, nat_tests)

  begins : (tries : Tries) (x x' : X) (next : ReplenishStep C V A E) → TaskBegins home timeout retry approval m opener tries x next x' → Ends next.answer next.stage
  begins tries x x' next b = let c = b.3 in connects c.0 tries c.1 c.2 x' next c.4

  wakes : (tries : Tries) (due : Option Moment) (x x' : X) (next : ReplenishStep C V A E) → Wakes home timeout retry approval m opener tries due x next x'
      → Ends next.answer next.stage
  wakes tries due x x' next a = grind (arith, nat_tests)

  advances : (stage : ReplenishStage C V A) (x x' : X) (next : ReplenishStep C V A E) → TaskAdvances home timeout retry approval m opener stage x next x' → Ends next.answer next.stage
  advances stage x x' next a = grind (arith, nat_tests, begins, connects, prepares, wakes, left)

  proceeds : (alive : Bool) (stage : ReplenishStage C V A) (x x' : X) (next : ReplenishStep C V A E) → TaskProceeds home timeout retry approval m opener alive stage x next x'
      → Ends next.answer next.stage
  proceeds alive stage x x' next a = grind (arith, nat_tests, advances, left)

module _ {C E V A X : Type 0} (home : HomeOf X C) (opener : OpenerOf X C E V A) (timeout : ℕ) (retry : Bool) (at : Moment) where
  at_stage : (approval : Key) (latest : Moment) (stage : ReplenishStage C V A) (x x' : X) (answer : ReplenishAnswer E) (t' : Replenish C V A)
      → TaskPolls home opener timeout retry at (record { approval = approval; latest = latest; stage = stage }) x answer t' x' → Ends answer t'.stage
  at_stage approval latest Done x x' answer t' p = grind (arith, nat_tests, left GivenBack (record { answer = answer; stage = t'.stage }) p.0)
  at_stage approval latest stage x x' answer t' p = proceeds home timeout retry approval t'.latest opener p.0.alive stage p.1 x' (record { answer = answer; stage = t'.stage }) p.5

  -- where the answer of a poll leaves a task
  pub ended : (t : Replenish C V A) (x x' : X) (answer y : ReplenishAnswer E) (t' : Replenish C V A) → answer ≡ y
      → TaskPolls home opener timeout retry at t x answer t' x' → Ends y t'.stage
  ended t x x' answer y t' is p = subst (λ (z : ReplenishAnswer E). Ends z t'.stage) is (at_stage t.approval t.latest t.stage x x' answer t' p)
