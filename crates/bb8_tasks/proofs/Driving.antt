-- Lists of polls that reach the bound.
use Rattle.std.proofs.lemmas.Bool.Decides.{nat_tests}
use Rattle.bb8_tasks.proofs.Words.{◌≡◌, ℕ, suc, ◌+◌, ◌*◌, ◌/◌, ◌^◌, ◌<◌, ◌≤◌, min, Bool, true, Option, Some, List, [], ◌∷◌, inl, inr, subst, sym, arith, cases_lt, Moment, waits, Reply, ReplenishAnswer, Sleeping, Done, Tries, IsFrom, NeverFalls, EachFails, IsPolledAt, IsDriven, IsReached, Task, first_task, Polled, Runs, Plays, IsDue, failed_once_more}
use Rattle.bb8_types.specs.Bounds.{last_moment}
use Rattle.bb8_tasks.specs.declared.backoff.Reply.TheVariants as replies
use Rattle.bb8_tasks.proofs.Moving.{Standing, Leads, Led, moved}
use Rattle.bb8_tasks.proofs.Waiting.{waits-more, waits-mono, waits-below, at_most, past_most, most-below}

-- a moment at which a list polls is not before the moment from which the list is
from_on : (x y : ℕ) (polls : List (Moment × Reply)) → IsFrom x polls → IsPolledAt y polls → x ≤ y
from_on x y [] from at = absurd at
from_on x y (p ∷ polls) from at = elim at [ inl here ↦ omega (arith, from.0) | inr there ↦ from_on x y polls from.1 there ]

-- what is due at a moment that is not past the greatest is due then
some-due : (m : Moment) (span : ℕ) (due : Option Moment) → IsDue m span due → m.0 + span ≤ last_moment → (d : Moment) × (due ≡ Some d) × (d.0 ≡ m.0 + span)
some-due m span due h fits = grind (arith, nat_tests)

module _ (timeout : ℕ) (retry : Bool) where
  -- one poll of a task in this state
  moved-from : (stage : Standing) (p : Moment × Reply) (x : Task) (tried : ℕ) (a : ReplenishAnswer (Unit {0})) (x' : Task) → x.stage ≡ stage
      → Polled timeout retry p x tried a x' → Led timeout retry p x.latest stage tried x'
  moved-from stage p x tried a x' is r = subst (λ (s : Standing). Led timeout retry p x.latest s tried x') is (moved timeout retry p x tried a x' r)

  -- a task that has ended begins nothing
  run-done : (x : Task) (polls : List (Moment × Reply)) (answers : List (ReplenishAnswer (Unit {0}))) (tries : ℕ) (x' : Task)
      → x.stage ≡ Done → Runs timeout retry x polls answers tries x' → tries ≡ 0
  run-done x [] [] tries x' is r = r.0
  run-done x [] (a ∷ answers) tries x' is r = absurd r
  run-done x (p ∷ polls) [] tries x' is r = absurd r
  run-done x (p ∷ polls) (a ∷ answers) tries x' is r = grind (arith, nat_tests, moved-from Done p x r.0 a r.1 is r.3, run-done r.1 polls answers r.2 x')

  module _ (n : ℕ) (on : retry ≡ true) (small : n < 70) (half : 0 < timeout / 2) (within : waits timeout n ≤ timeout) (past : timeout < waits timeout (suc n)) where
    -- what is left of a list that reaches the bound, at a task that tries again after so many
    -- failures
    record IsLeft (latest start : ℕ) (failures : ℕ) (polls : List (Moment × Reply)) : Type 0 where
      from : IsFrom latest polls
      falls : NeverFalls polls
      fails : EachFails polls
      polled : (k : ℕ) → failures ≤ k → k ≤ n + 1 → IsPolledAt (start + waits timeout k) polls

    -- one more failure is one more
    one-more : (k : ℕ) → k ≤ n + 1 → min (k + 1) 4294967295 ≡ k + 1
    one-more k few = omega arith

    -- a failure that is tried again
    slept : (m : Moment) (t : Tries) (s : Standing) → m.0 ≡ t.start.0 + waits timeout t.failures → t.failures ≤ n → t.start.0 + waits timeout (n + 1) ≤ last_moment
        → Leads timeout retry m replies.Err t s
        → (d : Moment) × (d.0 ≡ t.start.0 + waits timeout (t.failures + 1)) × (s ≡ Sleeping (failed_once_more t) (Some d))
    slept m t s at few fits l = grind (arith, nat_tests, waits-mono timeout t.failures n few, waits-more timeout t.failures, waits-mono timeout (t.failures + 1) (n + 1), some-due)

    -- what is left of the list after a poll before the due moment
    left_before : (p : Moment × Reply) (polls : List (Moment × Reply)) (latest start failures m : ℕ) → m ≡ p.0.0 → m < start + waits timeout failures
        → IsLeft latest start failures (p ∷ polls) → IsLeft m start failures polls
    left_before p polls latest start failures m at before left = grind (arith, nat_tests, waits-mono timeout failures)

    -- what is left of the list after the poll at the due moment
    left_after : (p : Moment × Reply) (polls : List (Moment × Reply)) (latest start failures m : ℕ) → m ≡ p.0.0 → m ≡ start + waits timeout failures
        → IsLeft latest start failures (p ∷ polls) → IsLeft m start (failures + 1) polls
    left_after p polls latest start failures m at now left = grind (arith, nat_tests, waits-below timeout failures)

    -- from a task that tries again after so many failures, a list that polls at each due moment
    -- leads to the bound
    driven : (x : Task) (t : Tries) (d : Moment) (polls : List (Moment × Reply)) (answers : List (ReplenishAnswer (Unit {0}))) (tries : ℕ) (x' : Task)
        → x.stage ≡ Sleeping t (Some d) → t.failures ≤ n + 1 → d.0 ≡ t.start.0 + waits timeout t.failures → t.start.0 + waits timeout (n + 1) ≤ last_moment
        → IsLeft x.latest.0 t.start.0 t.failures polls → Runs timeout retry x polls answers tries x' → tries + t.failures ≡ n + 2
    driven x t d [] [] tries x' is few at fits left r = absurd (left.polled t.failures (omega arith) few)
    driven x t d [] (a ∷ answers) tries x' is few at fits left r = absurd r
    driven x t d (p ∷ polls) [] tries x' is few at fits left r = absurd r
    driven x t d (p ∷ polls) (a ∷ answers) tries x' is few at fits left r =
        let y : Task = r.1 in
        let move = moved-from (Sleeping t (Some d)) p x r.0 a y is r.3 in
        let here : y.latest.0 ≡ p.0.0 = omega (arith, left.from.0) in
        elim (cases_lt y.latest.0 d.0) [
          | inl before ↦
              (let still = move.1.1 before in
              let rest = driven y t d polls answers r.2 x' still.1 few at fits (left_before p polls x.latest.0 t.start.0 t.failures y.latest.0 here (omega arith) left) r.4 in
              omega (arith, still.0, rest))
          | inr now ↦
              (let tried = move.1.0 now in
              let failed : Leads timeout retry y.latest replies.Err t y.stage = subst (λ (reply : Reply). Leads timeout retry y.latest reply t y.stage) left.fails.0 tried.1 in
              let due : y.latest.0 ≡ t.start.0 + waits timeout t.failures =
              elim (left.polled t.failures (omega arith) few) [
                | inl same ↦ omega arith
                | inr there ↦ (let least = from_on p.0.0 (t.start.0 + waits timeout t.failures) polls left.falls.0 there in omega arith)
              ]
              in
              elim (cases_lt timeout (waits timeout t.failures)) [
                | inl over ↦
                    (let ended = failed.0 (inr (omega arith)) in
                    let rest = run-done y polls answers r.2 x' ended r.4 in
                    let many = past_most timeout n t.failures within over in
                    omega (arith, tried.0, rest))
                | inr more ↦
                    (let fewer = at_most timeout n t.failures past more in
                    let sleeps = slept y.latest t y.stage due fewer fits failed in
                    let one = one-more t.failures few in
                    let next : IsLeft y.latest.0 t.start.0 (min (t.failures + 1) 4294967295) polls =
                    subst (λ (k : ℕ). IsLeft y.latest.0 t.start.0 k polls) (sym one) (left_after p polls x.latest.0 t.start.0 t.failures y.latest.0 here due left) in
                    let at_next : sleeps.0.0 ≡ t.start.0 + waits timeout (min (t.failures + 1) 4294967295) =
                    subst (λ (k : ℕ). sleeps.0.0 ≡ t.start.0 + waits timeout k) (sym one) sleeps.1 in
                    let rest = driven y (failed_once_more t) sleeps.0 polls answers r.2 x' sleeps.2 (omega arith) at_next fits next r.4 in
                    omega (arith, tried.0, rest))
              ])
        ]

    -- from the start such a list leads to the bound
    driven-all : (polls : List (Moment × Reply)) (answers : List (ReplenishAnswer (Unit {0}))) (tries : ℕ) → IsDriven timeout n polls → Plays timeout retry polls answers tries → tries ≡ n + 2
    driven-all [] answers tries d r = absurd d
    driven-all (p ∷ polls) [] tries d r = absurd r.1
    driven-all (p ∷ polls) (a ∷ answers) tries d r =
        let run = r.1 in
        let y : Task = run.1 in
        let move = moved timeout retry p first_task run.0 a y run.3 in
        let here : y.latest.0 ≡ p.0.0 = omega arith in
        let t : Tries = record { start = y.latest; failures = 0 } in
        let failed : Leads timeout retry y.latest replies.Err t y.stage = subst (λ (reply : Reply). Leads timeout retry y.latest reply t y.stage) d.1.0 move.1.1 in
        let fits : y.latest.0 + waits timeout (n + 1) ≤ last_moment = omega (arith, d.3) in
        let sleeps = slept y.latest t y.stage (omega arith) (omega arith) fits failed in
        let left : IsLeft y.latest.0 y.latest.0 1 polls =
        record {
          from = subst (λ (k : ℕ). IsFrom k polls) (sym here) d.0.0;
          falls = d.0.1;
          fails = d.1.1;
          polled = λ k least most.
              elim (d.2 k least most) [
                | inl same ↦ (let longer = waits-below timeout 0 k half (omega arith) in absurd (omega arith))
                | inr there ↦ subst (λ (m : ℕ). IsPolledAt (m + waits timeout k) polls) (sym here) there
              ];
        }
        in
        let rest = driven y (failed_once_more t) sleeps.0 polls answers run.2 r.0 sleeps.2 (omega arith) sleeps.1 fits left run.4 in
        omega (arith, move.1.0, rest)

-- the bound is reached
pub reached : (timeout : ℕ) (retry : Bool) (polls : List (Moment × Reply)) (answers : List (ReplenishAnswer (Unit {0}))) (tries : ℕ)
    → timeout < 2 ^ 64 * 1_000_000_000 → Plays timeout retry polls answers tries → IsReached timeout retry polls tries
reached timeout retry polls answers tries fits r n half most on d =
    driven-all timeout retry n on (most-below timeout n fits half most.within) half most.within most.past polls answers tries d r
