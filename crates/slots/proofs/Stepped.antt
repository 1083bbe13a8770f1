-- Steps of jobs in a queue, one after another.
use Rattle.slots.proofs.Words.{
  ◌≡◌,
  ℕ,
  ◌+◌,
  ◌-◌,
  ◌<◌,
  List,
  [],
  ◌∷◌,
  ◌++◌,
  length,
  Result,
  refl,
  sym,
  ◌∙◌,
  ap,
  subst,
  arith,
  append_assoc,
  append-nil,
  Poll,
  Moment,
  JobEntry,
  JobPlace,
  ids,
  JobSteps,
  StepsEach,
  StepsFirst,
}
use Rattle.bb8_types.specs.declared.api.errors.RunError.{RunError}
use Rattle.slots.specs.declared.job.Outcome.{Outcome}

module _ {J O E G D : Type 0} (polls : J → Moment → Poll O → J → Type 0) (polls_get : G → Poll (Result D (RunError E)) → G → Type 0) (back : D → Type 0) (now : Moment) where
  -- one step of each job
  abbrev Each : List (JobEntry J (Outcome O E) G) → List (JobEntry J (Outcome O E) G) → ℕ → Type 0
  Each = StepsEach polls polls_get back now

  -- so many jobs at the front of the queue still have their step, and behind them are those that
  -- had it
  abbrev pub TurnMidway : List (JobEntry J (Outcome O E) G) → List (JobEntry J (Outcome O E) G) → ℕ → ℕ → Type 0
  TurnMidway first queue ended count =
      (ahead : List (JobEntry J (Outcome O E) G)) × (behind : List (JobEntry J (Outcome O E) G)) × (length ahead ≡ count) × (queue ≡ ahead ++ behind)
      × ((last : List (JobEntry J (Outcome O E) G)) (more : ℕ) → Each ahead last more → Each first (behind ++ last) (ended + more))

  -- steps keep the ids
  pub same-ids : (es es' : List (JobEntry J (Outcome O E) G)) (n : ℕ) → Each es es' n → ids es' ≡ ids es
  same-ids [] es' n (is, none) = ap ids is
  same-ids (e ∷ es) es' n (place, one, step, (rest, more, steps, is, sum)) = ap ids is ∙ ap (λ t. e.id ∷ t) (same-ids es rest more steps)

  pub Midway-first : (first : List (JobEntry J (Outcome O E) G)) (k : ℕ) → k ≡ length first → TurnMidway first first 0 (k - 0)
  Midway-first first k is =
      (first, [], omega (arith, is), sym (append-nil first), λ last more steps. subst (λ (x : ℕ). Each first last x) (omega arith) steps)

  abbrev moved : JobEntry J (Outcome O E) G → JobPlace J (Outcome O E) G → JobEntry J (Outcome O E) G
  moved e p = record { id = e.id; place = p }

  -- what still has to be shown of the jobs behind
  abbrev Goes : List (JobEntry J (Outcome O E) G) → ℕ → List (JobEntry J (Outcome O E) G) → List (JobEntry J (Outcome O E) G) → Type 0
  Goes first ended ahead behind = (last : List (JobEntry J (Outcome O E) G)) (more : ℕ) → Each ahead last more → Each first (behind ++ last) (ended + more)

  step : (first q q' : List (JobEntry J (Outcome O E) G)) (ended one k : ℕ) (ahead behind : List (JobEntry J (Outcome O E) G)) → 0 < k → length ahead ≡ k → q ≡ ahead ++ behind → Goes first ended ahead behind
      → StepsFirst polls polls_get back now q q' one → TurnMidway first q' (ended + one) (k - 1)
  step first q q' ended one k [] behind some len eq go s = absurd (omega arith)
  step first q q' ended one k (a ∷ more) behind some len eq go (e, rest, place, is, steps, after) =
      let head : e ≡ a = cc in
      let tail : rest ≡ more ++ behind = cc in
      let here : JobSteps polls polls_get back now a.place place one = subst (λ (x : JobEntry J (Outcome O E) G). JobSteps polls polls_get back now x.place place one) head steps in (
        more,
        behind ++ moved a place ∷ [],
        omega arith,
        rw (after, tail, head) (append_assoc more behind (moved a place ∷ [])),
        λ last n each.
            let went : Each first (behind ++ moved a place ∷ last) (ended + (one + n)) = go (moved a place ∷ last) (one + n) (place, one, here, (last, n, each, refl, refl)) in
            let sum : ended + (one + n) ≡ ended + one + n = omega arith in
            subst (λ (x : ℕ). Each first ((behind ++ moved a place ∷ []) ++ last) x) sum (rw (append_assoc behind (moved a place ∷ []) last) went),
      )

  pub Midway-step : (first q q' : List (JobEntry J (Outcome O E) G)) (ended one n k : ℕ) → k < n → TurnMidway first q ended (n - k) → StepsFirst polls polls_get back now q q' one
      → TurnMidway first q' (ended + one) (n - (k + 1))
  Midway-step first q q' ended one n k less m s =
      let some : 0 < n - k = omega arith in
      let is : n - k - 1 ≡ n - (k + 1) = omega arith in
      subst (λ (x : ℕ). TurnMidway first q' (ended + one) x) is (step first q q' ended one (n - k) m.0 m.1 some m.2 m.3 m.4 s)

  over : (first q : List (JobEntry J (Outcome O E) G)) (ended : ℕ) (ahead behind : List (JobEntry J (Outcome O E) G)) → length ahead ≡ 0 → q ≡ ahead ++ behind → Goes first ended ahead behind
      → Each first q ended
  over first q ended [] behind len eq go =
      let all : Each first (behind ++ []) (ended + 0) = go [] 0 (refl, refl) in
      let none : ended + 0 ≡ ended = omega arith in
      subst (λ (x : List (JobEntry J (Outcome O E) G)). Each first x ended) (append-nil behind ∙ sym eq) (subst (λ (x : ℕ). Each first (behind ++ []) x) none all)
  over first q ended (a ∷ more) behind len eq go = absurd (omega arith)

  pub Midway-over : (first q : List (JobEntry J (Outcome O E) G)) (ended k : ℕ) → k ≡ 0 → TurnMidway first q ended k → Each first q ended
  Midway-over first q ended k none m = over first q ended m.0 m.1 (m.2 ∙ none) m.3 m.4
