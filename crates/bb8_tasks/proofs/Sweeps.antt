-- A round over a queue, turn by turn.
use Rattle.std.proofs.lemmas.Bool.Decides.{nat_tests}
use Rattle.bb8_tasks.proofs.Words.{◌≡◌, ℕ, ◌+◌, ◌-◌, ◌<◌, Option, Some, None, List, [], ◌∷◌, ◌++◌, length, refl, sym, arith, append_assoc, append-nil, ReplenishAnswer, Failed, GoOn, PollsUntil, QueueTurns}
use Rattle.bb8_tasks.specs.Rounds.{kept, Reports, PollsEach}
use Rattle.bb8_tasks.specs.Sweeping.{stops, GoesOn, AfterPoll}
use Rattle.bb8_tasks.specs.declared.rounds.OnFailure.{OnFailure}
use Rattle.bb8_tasks.specs.declared.rounds.OnFailure.TheVariants.{Stop}

-- a round that stops does so at a last failure
stopped : {E : Type 0} (on : OnFailure) (r : ReplenishAnswer E) (e : E) → stops on r ≡ Some e → (on ≡ Stop) × (r ≡ Failed e)
stopped on r e is = grind (arith, nat_tests)

module _ {T E X : Type 0} (polls : T → X → ReplenishAnswer E → T → X → Type 0) (on : OnFailure) (sinks : X → E → X → Type 0) where
  -- one task more is polled
  one_more : (had : List T) (x : X) (left : List T) (x1 : X) (t : T) (r : ReplenishAnswer E) (t' : T) (x2 x3 : X) → PollsEach (GoesOn polls on) sinks had x left x1
      → GoesOn polls on t x1 r t' x2 → Reports sinks r x2 x3 → PollsEach (GoesOn polls on) sinks (had ++ t ∷ []) x (left ++ kept r t') x3
  one_more [] x left x1 t r t' x2 x3 (none, same) poll outcome = grind (arith, nat_tests, append-nil (kept r t'))
  one_more (h ∷ had) x left x1 t r t' x2 x3 (q, h', y, p, (z, outcome', (more, each, is))) poll outcome =
      (q, h', y, p, (z, outcome', (more ++ kept r t', one_more had z more x1 t r t' x2 x3 each poll outcome, rw is (append_assoc (kept q h') more (kept r t')))))

  turned : (had : List T) (start : X) (behind : List T) (x : X) (t : T) (r : ReplenishAnswer E) (t' : T) (x1 : X) (o : Option E) (x' : X)
      → PollsEach (GoesOn polls on) sinks had start behind x → polls t x r t' x1 → o ≡ stops on r → AfterPoll polls on sinks o r x1 x'
      → PollsUntil polls on sinks (had ++ t ∷ []) start o (behind ++ kept r t') x'
  turned had start behind x t r t' x1 None x' each p is outcome = one_more had start behind x t r t' x1 x' each (p, sym is) outcome
  turned had start behind x t r t' x1 (Some e) x' each p is same = grind (arith, nat_tests, stopped on r e (sym is))

  -- the first task of a queue has its turn, and what is kept of it goes to the back
  turn : (had : List T) (start : X) (o : Option E) (behind : List T) (x : X) (t : T) (rest q' : List T) (o' : Option E) (x' : X)
      → PollsUntil polls on sinks had start o behind x → QueueTurns polls on sinks o (t ∷ rest) x o' q' x'
      → (back : List T) × (q' ≡ rest ++ back) × PollsUntil polls on sinks (had ++ t ∷ []) start o' (behind ++ back) x'
  turn had start None behind x t rest q' o' x' each (u, tail, e, (r, u', x1, p, is, outcome, e')) = grind (arith, nat_tests, turned had start behind x t r u' x1 o' x' each)
  turn had start (Some f) behind x t rest q' o' x' (before, again, y, each, (u, u', after, p, stop, ts, left)) (v, tail, e, e', stays, same) =
      grind (arith, nat_tests, append_assoc before (u ∷ after) (t ∷ []), append_assoc again after (t ∷ []))

  -- so many tasks at the front of the queue still have their turn, and behind them are those that
  -- had it and are kept
  abbrev pub RoundMidway : List T → X → List T → X → Option E → ℕ → Type 0
  RoundMidway first start queue x stopped count =
      (had : List T) × (ahead : List T) × (behind : List T) × (length ahead ≡ count) × (queue ≡ ahead ++ behind) × (first ≡ had ++ ahead)
      × PollsUntil polls on sinks had start stopped behind x

  step : (first : List T) (start : X) (q q' : List T) (x x' : X) (o o' : Option E) (k : ℕ) (had ahead behind : List T) → 0 < k → length ahead ≡ k
      → q ≡ ahead ++ behind → first ≡ had ++ ahead → PollsUntil polls on sinks had start o behind x → QueueTurns polls on sinks o q x o' q' x'
      → RoundMidway first start q' x' o' (k - 1)
  step first start q q' x x' o o' k had [] behind some len eq all p turns = absurd (omega arith)
  step first start q q' x x' o o' k had (t ∷ ahead) behind some len eq all p turns =
      grind (arith, nat_tests, turn had start o behind x t (ahead ++ behind) q' o' x' p, append_assoc ahead behind, append_assoc had (t ∷ []) ahead)

  pub Midway-step : (first : List T) (start : X) (q q' : List T) (x x' : X) (o o' : Option E) (n k : ℕ) → k < n
      → RoundMidway first start q x o (n - k) → QueueTurns polls on sinks o q x o' q' x' → RoundMidway first start q' x' o' (n - (k + 1))
  Midway-step first start q q' x x' o o' n k more (had, ahead, behind, len, eq, all, p) turns = grind (arith, nat_tests, step first start q q' x x' o o' (n - k) had ahead behind)

  pub Midway-over : (first : List T) (start : X) (q : List T) (x : X) (o : Option E) (k : ℕ) → k ≡ 0
      → RoundMidway first start q x o k → PollsUntil polls on sinks first start o q x
  Midway-over first start q x o k none (had, [], behind, len, eq, all, p) = grind (arith, nat_tests, append-nil had)
  Midway-over first start q x o k none (had, (t ∷ ahead), behind, len, eq, all, p) = absurd (omega arith)

  pub Midway-first : (first : List T) (start : X) (k : ℕ) → k ≡ length first → RoundMidway first start first start None (k - 0)
  Midway-first first start k is = ([], first, [], omega (arith, is), sym (append-nil first), refl, (refl, refl))

module _ {T E X : Type 0} (polls : T → X → ReplenishAnswer E → T → X → Type 0) (sinks : X → E → X → Type 0) where
  -- a round that goes on after each failure polls each task once
  pub polls_each : (ts : List T) (x : X) (left : List T) (x' : X) → PollsEach (GoesOn polls GoOn) sinks ts x left x' → PollsEach polls sinks ts x left x'
  polls_each [] x left x' p = p
  polls_each (t ∷ ts) x left x' (r, t', x1, p, (x2, outcome, (more, each, is))) = (r, t', x1, p.0, (x2, outcome, (more, polls_each ts x2 more x' each, is)))
