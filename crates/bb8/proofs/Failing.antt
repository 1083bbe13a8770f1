-- An error with which the opening of a pool's first connections fails is one that its manager or
-- its customizer returned.
use Rattle.std.proofs.Common.{◌≡◌, ℕ, ◌-◌, ◌<◌, Bool, true, false, Option, Some, None, Result, Ok, Err, List, [], ◌∷◌, ◌⊎◌, inl, inr, refl, sym, ◌∙◌, ap, subst}
use Rattle.std.proofs.lemmas.Bool.{cases_lt}
use Rattle.std.specs.Prelude.{⊤}
use Rattle.std.specs.Duration.{as_nanos}
use Rattle.futures.specs.declared.task.Poll.{Poll}
use Rattle.futures.specs.declared.task.Poll.TheVariants as poll
use Rattle.bb8_types.specs.declared.api.errors.RunError.TheVariants.{User}
use Rattle.bb8_types.specs.declared.api.moments.Moment.{Moment}
use Rattle.bb8_tables.specs.declared.keys.Key.{Key}
use Rattle.bb8_core.specs.declared.answers.OpenedAnswer.{OpenedAnswer}
use Rattle.bb8_core.specs.declared.answers.OpenedAnswer.TheVariants as opened
use Rattle.bb8_tasks.specs.declared.replenish.ReplenishStep.{ReplenishStep}
use Rattle.bb8_tasks.specs.declared.replenish.Replenish.{Replenish}
use Rattle.bb8_tasks.specs.declared.replenish.ReplenishAnswer.{ReplenishAnswer}
use Rattle.bb8_tasks.specs.declared.replenish.ReplenishAnswer.TheVariants.{Pending, Retrying, Failed, Entered, Late, GivenBack}
use Rattle.bb8_tasks.specs.declared.replenish.ReplenishStage.{ReplenishStage}
use Rattle.bb8_tasks.specs.declared.replenish.ReplenishStage.TheVariants.{Start, Connecting, Acquiring, Sleeping, Done}
use Rattle.bb8_tasks.specs.declared.replenish.Tries.{Tries}
use Rattle.bb8_tasks.specs.declared.rounds.OnFailure.TheVariants.{Stop}
use Rattle.bb8_tasks.specs.declared.rounds.Round.{Round}
use Rattle.bb8_tasks.specs.declared.rounds.Round.TheVariants as round
use Rattle.bb8_tasks.specs.Replenishing as replenishing
use Rattle.bb8_tasks.specs.Rounds.{Reports, PollsEach}
use Rattle.bb8_tasks.specs.Sweeping.{AfterRound, GoesOn, RoundLeaves, PollsUntil, Rounds}
use Rattle.bb8_lock.specs.declared.shared.Shared.{Shared}
use Rattle.bb8_lock.specs.Scope.{Scope}
use Rattle.bb8_lock.specs.Opening.{opener, tasks_home, OwnRounds}
use Rattle.bb8_lock.specs.declared.locked.Permits.{Ghosts as PermitsOf}
use Rattle.bb8_lock.specs.Words.{ManagerOf, DebugOf, SinkOf, CustomizerOf, ClockOf}
use Rattle.bb8.specs.Buildings.{IsBuildError}

-- what is known of an error, of the answer of a task, of what stopped a round, and of a round
module _ {E : Type 0} (Known : E → Type 0) where
  abbrev Output : ReplenishAnswer E → Type 0
  Output (Failed e) = Known e
  Output Pending = ⊤
  Output (Retrying e) = ⊤
  Output Entered = ⊤
  Output Late = ⊤
  Output GivenBack = ⊤

  abbrev Stopped : Option E → Type 0
  Stopped (Some e) = Known e
  Stopped None = ⊤

  abbrev pub Ended : {T : Type 0} → Round T E → Type 0
  Ended (round.Failed e) = Known e
  Ended round.Complete = ⊤
  Ended (round.Going ts) = ⊤

  known : {C N A : Type 0} (a : ReplenishAnswer E) (next : ReplenishStep C N A E) → next.answer ≡ a → Output a → Output next.answer
  known a next is results = subst (λ (x : ReplenishAnswer E). Output x) (sym is) results

-- rounds, over tasks and a sink that leave it so that the user callbacks are these
module _ {T E X : Type 0} (polls : T → X → ReplenishAnswer E → T → X → Type 0) (sinks : X → E → X → Type 0) (Known : E → Type 0) (IsBy : X → Type 0)
    (polled : (t t' : T) (x x' : X) (r : ReplenishAnswer E) → IsBy x → polls t x r t' x' → IsBy x' × Output Known r)
    (sunk : (x x' : X) (e : E) → IsBy x → sinks x e x' → IsBy x') where
  reported : (r : ReplenishAnswer E) (x x' : X) → IsBy x → Reports sinks r x x' → IsBy x'
  reported (Retrying e) x x' is results = sunk x x' e is results
  reported (Failed e) x x' is results = sunk x x' e is results
  reported _ x x' is same = subst IsBy (sym same) is

  each : (ts left : List T) (x x' : X) → IsBy x → PollsEach (GoesOn polls Stop) sinks ts x left x' → IsBy x'
  each [] left x x' is p = subst IsBy (sym p.1) is
  each (t ∷ ts) left x x' is (r, t', x1, p, (x2, results, (more, rest, all))) =
      each ts more x2 x' (reported r x1 x2 (polled t t' x x1 r is p.0).0 results) rest

  until : (ts left : List T) (x x' : X) (stopped : Option E) → IsBy x → PollsUntil polls Stop sinks ts x stopped left x' → Stopped Known stopped
  until ts left x x' None is p = tt
  until ts left x x' (Some e) is (before, again, x1, all, (t, t', after, p, stop, ts_are, left_are)) =
      (polled t t' x1 x' (Failed e) (each before again x x1 is all) p).1

  module _ (lets_go : T → X → X → Type 0) where
    whole : (left : List T) (r : Round (List T) E) → RoundLeaves polls sinks lets_go left r → Ended Known r
    whole [] r is = rw is tt
    whole (t ∷ ts) r is = rw is tt

    over : (stopped : Option E) (left : List T) (x x' : X) (r : Round (List T) E) → Stopped Known stopped → AfterRound polls sinks lets_go stopped left x r x' → Ended Known r
    over None left x x' r results a = whole left r a.0
    over (Some e) left x x' r results a = rw a.1 results

    pub ended : (ts : List T) (x x' : X) (r : Round (List T) E) → IsBy x → Rounds polls sinks lets_go ts x r x' → Ended Known r
    ended ts x x' r is (stopped, left, x1, p, a) = over stopped left x1 x' r (until ts left x x1 stopped is p) a

-- the tasks of a pool, by the calls of its manager and its customizer, which leave the calls as
-- they are
module _ {G L M S Z K R C E N V A : Type 0} {manager : ManagerOf M C E N V} {d : DebugOf E} {s : SinkOf S E} {z : CustomizerOf Z C E A} {k : ClockOf K} {l : PermitsOf L}
    (shared : Shared G L M S Z K R C E N V A manager d s z k l) where
  -- what may fail an attempt
  abbrev Known : E → Type 0
  Known e = IsBuildError (manager.connect_answers shared.manager) (z.acquire_answers shared.customizer) (User e)

  -- this is what the calls are made of
  abbrev IsBy : Scope shared → Type 0
  IsBy x = x.shared.now ≡ shared

  still : (x x' : Scope shared) → x' ≡ x → IsBy x → IsBy x'
  still x x' same is = ap (λ (y : Scope shared). y.shared.now) same ∙ is

  module _ (timeout : ℕ) (retry : Bool) (approval : Key) (at : Moment) where
    fails : (tries : Tries) (e : E) (x x' : Scope shared) (next : ReplenishStep C N A E) → IsBy x → Known e
        → replenishing.TaskFails (tasks_home shared) timeout retry approval at tries e x next x' → IsBy x' × Output Known next.answer
    fails tries e x x' next is by f = by_retry retry refl
      where
        last : (retry ≡ false) ⊎ (timeout < at.0 - tries.start.0) → IsBy x' × Output Known next.answer
        last why = let g = f.0 why in (ap (λ r. r.now) g.1.4 ∙ is, known Known (Failed e) next g.2 by)

        by_retry : (r : Bool) → r ≡ retry → IsBy x' × Output Known next.answer
        by_retry false off = last (inl (sym off))
        by_retry true on =
            elim (cases_lt timeout (at.0 - tries.start.0)) [
              | inl late ↦ last (inr late)
              | inr within ↦ (let s = f.1 (sym on) within in (still x x' s.2.2 is, known Known (Retrying e) next s.2.0 tt))
            ]

    opens : (step : Result (OpenedAnswer C) C) (x x' : Scope shared) (next : ReplenishStep C N A E) → IsBy x
        → replenishing.AfterOpened (tasks_home shared) timeout retry approval at (opener shared) step x next x'
        → IsBy x' × Output Known next.answer
    opens (Ok (opened.Entered notified)) x x' next is a = (still x x' a.2 is, known Known Entered next a.0 tt)
    opens (Ok (opened.Late c)) x x' next is (x1, dropped, (grant, x2, asked, a)) = (still x2 x' a.2 (ap (λ r. r.now) asked.4 ∙ still x x1 dropped is), known Known Late next a.0 tt)
    opens (Err c) x x' next is (x1, dropped, a) = (still x1 x' a.2 (still x x1 dropped is), known Known GivenBack next a.0 tt)

    prepares : (answer : Poll (Result (Unit {0}) E)) (tries : Tries) (c0 c : C) (a0 a : A) (x x' : Scope shared) (next : ReplenishStep C N A E) → IsBy x
        → z.acquire_answers shared.customizer c0 a0 at answer c a
        → replenishing.AfterTaskAcquire (tasks_home shared) timeout retry approval at (opener shared) answer tries c a x next x'
        → IsBy x' × Output Known next.answer
    prepares poll.Pending tries c0 c a0 a x x' next is said p = (still x x' p.2 is, known Known Pending next p.0 tt)
    prepares (poll.Ready (Ok u)) tries c0 c a0 a x x' next is said (x1, ended, (step, x2, entered, p)) = opens step x2 x' next (ap (λ r. r.now) entered.4 ∙ still x x1 ended is) p
    prepares (poll.Ready (Err e)) tries c0 c a0 a x x' next is said (x1, ended, (x2, dropped, p)) =
        fails tries e x2 x' next (still x1 x2 dropped (still x x1 ended is)) (inr (c0, a0, at, c, a, said)) p

    acquires : (tries : Tries) (c : C) (a : A) (x x' : Scope shared) (next : ReplenishStep C N A E) → IsBy x
        → replenishing.TaskAcquires (tasks_home shared) timeout retry approval at (opener shared) tries c a x next x'
        → IsBy x' × Output Known next.answer
    acquires tries c a x x' next is (answer, c1, a1, x1, polled, p) =
        prepares answer tries c c1 a a1 x1 x' next (still x x1 polled.1 is) (subst (λ (w : Shared G L M S Z K R C E N V A manager d s z k l). z.acquire_answers w.customizer c a at answer c1 a1) is polled.0) p

    connected : (answer : Poll (Result C E)) (tries : Tries) (v0 v : N) (x x' : Scope shared) (next : ReplenishStep C N A E) → IsBy x
        → manager.connect_answers shared.manager v0 at answer v
        → replenishing.AfterTaskConnect (tasks_home shared) timeout retry approval at (opener shared) answer tries v x next x'
        → IsBy x' × Output Known next.answer
    connected poll.Pending tries v0 v x x' next is said p = (still x x' p.2 is, known Known Pending next p.0 tt)
    connected (poll.Ready (Ok c)) tries v0 v x x' next is said (x1, ended, (a, c1, x2, begun, p)) = acquires tries c1 a x2 x' next (still x1 x2 begun.1 (still x x1 ended is)) p
    connected (poll.Ready (Err e)) tries v0 v x x' next is said (x1, ended, p) = fails tries e x1 x' next (still x x1 ended is) (inl (v0, at, v, said)) p

    connects : (tries : Tries) (v : N) (x x' : Scope shared) (next : ReplenishStep C N A E) → IsBy x
        → replenishing.TaskConnects (tasks_home shared) timeout retry approval at (opener shared) tries v x next x'
        → IsBy x' × Output Known next.answer
    connects tries v x x' next is (answer, v1, x1, polled, p) =
        connected answer tries v v1 x1 x' next (still x x1 polled.1 is) (subst (λ (w : Shared G L M S Z K R C E N V A manager d s z k l). manager.connect_answers w.manager v at answer v1) is polled.0) p

    begins : (tries : Tries) (x x' : Scope shared) (next : ReplenishStep C N A E) → IsBy x
        → replenishing.TaskBegins (tasks_home shared) timeout retry approval at (opener shared) tries x next x'
        → IsBy x' × Output Known next.answer
    begins tries x x' next is (v, x1, begun, p) = connects tries v x1 x' next (still x x1 begun.1 is) p

    wakes : (tries : Tries) (due : Option Moment) (x x' : Scope shared) (next : ReplenishStep C N A E) → IsBy x
        → replenishing.Wakes (tasks_home shared) timeout retry approval at (opener shared) tries due x next x'
        → IsBy x' × Output Known next.answer
    wakes tries None x x' next is p = (still x x' p.2 is, known Known Pending next p.0 tt)
    wakes tries (Some due) x x' next is p =
        elim (cases_lt at.0 due.0) [
          | inl before ↦ (let s = p.1 before in (still x x' s.2 is, known Known Pending next s.0 tt))
          | inr now ↦ begins tries x x' next is (p.0 now)
        ]

    advances : (stage : ReplenishStage C N A) (x x' : Scope shared) (next : ReplenishStep C N A E) → IsBy x
        → replenishing.TaskAdvances (tasks_home shared) timeout retry approval at (opener shared) stage x next x'
        → IsBy x' × Output Known next.answer
    advances Start x x' next is p = begins (record { start = at; failures = 0 }) x x' next is p
    advances (Connecting tries v) x x' next is p = connects tries v x x' next is p
    advances (Acquiring tries c a) x x' next is p = acquires tries c a x x' next is p
    advances (Sleeping tries due) x x' next is p = wakes tries due x x' next is p
    advances Done x x' next is p = (still x x' p.2 is, known Known GivenBack next p.0 tt)

    drops : (stage : ReplenishStage C N A) (x x' : Scope shared) → IsBy x → replenishing.DropsTask (opener shared) stage x x' → IsBy x'
    drops Start x x' is p = still x x' p is
    drops (Connecting tries v) x x' is p = still x x' p is
    drops (Acquiring tries c a) x x' is (x1, ended, dropped) = still x1 x' dropped (still x x1 ended is)
    drops (Sleeping tries due) x x' is p = still x x' p is
    drops Done x x' is p = still x x' p is

    proceeds : (alive : Bool) (stage : ReplenishStage C N A) (x x' : Scope shared) (next : ReplenishStep C N A E) → IsBy x
        → replenishing.TaskProceeds (tasks_home shared) timeout retry approval at (opener shared) alive stage x next x'
        → IsBy x' × Output Known next.answer
    proceeds true stage x x' next is p = advances stage x x' next is p
    proceeds false stage x x' next is (x1, dropped, p) = (ap (λ r. r.now) p.1.4 ∙ drops stage x x1 is dropped, known Known GivenBack next p.2 tt)

  module _ (timeout : ℕ) (retry : Bool) (at : Moment) where
    at_stage : (approval : Key) (latest : Moment) (stage : ReplenishStage C N A) (t' : Replenish C N A) (x x' : Scope shared) (r : ReplenishAnswer E) → IsBy x
        → replenishing.TaskPolls (tasks_home shared) (opener shared) timeout retry at
        (record { approval = approval; latest = latest; stage = stage }) x r t' x'
        → IsBy x' × Output Known r
    at_stage approval latest Start t' x x' r is p =
        proceeds timeout retry approval t'.latest p.0.alive Start p.1 x' (record { answer = r; stage = t'.stage }) (ap (λ r. r.now) p.2.4 ∙ is) p.5
    at_stage approval latest (Connecting tries v) t' x x' r is p =
        proceeds timeout retry approval t'.latest p.0.alive (Connecting tries v) p.1 x' (record { answer = r; stage = t'.stage }) (ap (λ r. r.now) p.2.4 ∙ is) p.5
    at_stage approval latest (Acquiring tries c a) t' x x' r is p =
        proceeds timeout retry approval t'.latest p.0.alive (Acquiring tries c a) p.1 x' (record { answer = r; stage = t'.stage }) (ap (λ r. r.now) p.2.4 ∙ is) p.5
    at_stage approval latest (Sleeping tries due) t' x x' r is p =
        proceeds timeout retry approval t'.latest p.0.alive (Sleeping tries due) p.1 x' (record { answer = r; stage = t'.stage }) (ap (λ r. r.now) p.2.4 ∙ is) p.5
    at_stage approval latest Done t' x x' r is p =
        (still x x' p.2 is, known Known GivenBack (record { answer = r; stage = t'.stage }) p.0 tt)

    polled : (t t' : Replenish C N A) (x x' : Scope shared) (r : ReplenishAnswer E) → IsBy x
        → replenishing.TaskPolls (tasks_home shared) (opener shared) timeout retry at t x r t' x' → IsBy x' × Output Known r
    polled t t' x x' r is p = at_stage t.approval t.latest t.stage t' x x' r is p

module _ {G L M S Z K R C E N V A : Type 0} {manager : ManagerOf M C E N V} {d : DebugOf E} {s : SinkOf S E} {z : CustomizerOf Z C E A} {k : ClockOf K} {l : PermitsOf L}
    (shared : Shared G L M S Z K R C E N V A manager d s z k l) where
  -- a round of a pool's first tasks that failed had its error of the pool's manager or its
  -- customizer
  pub round_failed : (tasks : List (Replenish C N A)) (r : Round (List (Replenish C N A)) E) → OwnRounds shared tasks r
      → Ended (λ e. IsBuildError (manager.connect_answers shared.manager) (z.acquire_answers shared.customizer) (User e)) r
  round_failed tasks r (x, x', (is, free, silent), (at, x1, results, rounds)) =
      ended
      (replenishing.TaskPolls (tasks_home shared) (opener shared) (as_nanos shared.config.connection_timeout) shared.config.retry_connection at)
      (opener shared).sinks (Known shared) (IsBy shared)
      (polled shared (as_nanos shared.config.connection_timeout) shared.config.retry_connection at)
      (λ y y' e is sunk. still shared y y' sunk.1 is)
      (replenishing.LetsGo (tasks_home shared) (opener shared) at)
      tasks x1 x' r (still shared x x1 results.1 is) rounds
