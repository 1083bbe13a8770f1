-- Lists of jobs: how many run, which ids they have, and where each is.
use Rattle.slots.specs.Entries.{EachGet}
use Rattle.slots.proofs.Words.{◌≡◌, ℕ, suc, ◌+◌, ◌≤◌, ◌<◌, ◌==◌, cond, Bool, true, false, Option, Some, None, OnSome, List, [], ◌∷◌, ◌++◌, length, take, drop, get_or, refl, sym, ◌∙◌, ap, subst, arith, append_assoc, add-one, drop-cons, take-suc, eqb-true, ne_eqb, JobEntry, JobPlace, Waiting, Ended, AreIds, ids, guards_for, running, place_of, outcome_of, left_after, without}

-- one more id, the next
pub more : (low high : ℕ) (all : List ℕ) → AreIds low high all → AreIds low (high + 1) (all ++ high ∷ [])
more low high [] h = (h, omega arith)
more low high (id ∷ all) (first, rest) = (first, more (id + 1) high all rest)

-- from a lower bound on
lower : (low low' high : ℕ) (all : List ℕ) → low ≤ low' → AreIds low' high all → AreIds low high all
lower low low' high [] le h = omega arith
lower low low' high (id ∷ all) le (first, rest) = (omega arith, rest)

module _ {J O G : Type 0} where
  -- where there is no job, none waits
  pub none-waits : (P : G → Type 0) (es : List (JobEntry J O G)) → length es ≡ 0 → EachGet P es
  none-waits P [] none = tt
  none-waits P (e ∷ es) none = absurd (omega (arith, none))

  pub running_append : (xs ys : List (JobEntry J O G)) → running (xs ++ ys) ≡ running xs + running ys
  running_append [] ys = omega arith
  running_append (x ∷ xs) ys = omega (arith, running_append xs ys)

  pub ids_append : (xs ys : List (JobEntry J O G)) → ids (xs ++ ys) ≡ ids xs ++ ids ys
  ids_append [] ys = refl
  ids_append (x ∷ xs) ys = ap (λ t. x.id ∷ t) (ids_append xs ys)

  -- the ids stay ids where a job is added under the next
  pub added-ids : (next : ℕ) (p : JobPlace J O G) (es same es' : List (JobEntry J O G)) → same ≡ es → es' ≡ same ++ record { id = next; place = p } ∷ [] → AreIds 0 next (ids es)
      → AreIds 0 (next + 1) (ids es')
  added-ids next p es same es' is after h = rw (after, is, ids_append) (more 0 next (ids es) h)

  -- as many run where one that waits is added
  pub added-running : (next : ℕ) (job : J) (get : G) (es same es' : List (JobEntry J O G)) → same ≡ es → es' ≡ same ++ record { id = next; place = Waiting job get } ∷ []
      → running es' ≡ running es
  added-running next job get es same es' is after = rw (after, is, running_append) (omega arith)

  -- and where a job is taken out
  pub kept : (id low high : ℕ) (es : List (JobEntry J O G)) → AreIds low high (ids es) → AreIds low high (ids (without id es))
  kept id low high [] h = h
  kept id low high (e ∷ es) (first, rest) =
      let there : AreIds low high (ids es) = lower low (e.id + 1) high (ids es) (omega arith) rest in
      elim (e.id == id) as (λ b. AreIds low high (ids (cond b es (e ∷ without id es)))) [ true ↦ there | false ↦ (first, kept id (e.id + 1) high es rest) ]

  no-guard : (p : JobPlace J O G) (o : O) → outcome_of (Some p) ≡ Some o → guards_for p ≡ 0
  no-guard (Ended outcome) o h = refl
  no-guard _ o h = cc

  counts : (b : Bool) (id : ℕ) (o : O) (e : JobEntry J O G) (es : List (JobEntry J O G)) → outcome_of (cond b (Some e.place) (place_of id es)) ≡ Some o
      → (outcome_of (place_of id es) ≡ Some o → running (without id es) ≡ running es) → running (cond b es (e ∷ without id es)) ≡ guards_for e.place + running es
  counts true id o e es h rest = omega (arith, no-guard e.place o h)
  counts false id o e es h rest = omega (arith, rest h)

  -- as many run where one that has ended is taken out
  pub as-many : (id : ℕ) (o : O) (es : List (JobEntry J O G)) → outcome_of (place_of id es) ≡ Some o → running (without id es) ≡ running es
  as-many id o [] h = refl
  as-many id o (e ∷ es) h = counts (e.id == id) id o e es h (as-many id o es)

  -- below all ids there is no job
  absent : (id low high : ℕ) (es : List (JobEntry J O G)) → id < low → AreIds low high (ids es) → place_of id es ≡ None
  absent id low high [] less h = refl
  absent id low high (e ∷ es) less (first, rest) =
      let other : (e.id == id) ≡ false = ne_eqb e.id id (λ same. omega arith) in
      rw other (absent id (e.id + 1) high es (omega arith) rest)

  leaves : (b : Bool) (id low high : ℕ) (e : JobEntry J O G) (es : List (JobEntry J O G)) → (e.id == id) ≡ b → AreIds low high (ids (e ∷ es))
      → place_of id (without id es) ≡ None → place_of id (cond b es (e ∷ without id es)) ≡ None
  leaves true id low high e es is (first, rest) then = absent id (e.id + 1) high es (omega (arith, eqb-true e.id id is)) rest
  leaves false id low high e es is (first, rest) then = rw is then

  -- a job that was taken out is gone
  pub gone : (id low high : ℕ) (es : List (JobEntry J O G)) → AreIds low high (ids es) → place_of id (without id es) ≡ None
  gone id low high [] h = refl
  gone id low high (e ∷ es) (first, rest) = leaves (e.id == id) id low high e es refl (first, rest) (gone id (e.id + 1) high es rest)

  -- the jobs from an index on begin with the one there
  at : (i : ℕ) (e : JobEntry J O G) (es : List (JobEntry J O G)) → i < length es → e ≡ get_or es i e → drop i es ≡ e ∷ drop (i + 1) es
  at i e es less is = rw add-one (drop-cons es i e less ∙ ap (λ x. x ∷ drop (suc i) es) (sym is))

  -- what a search has found before an index: the job of the id is there or behind
  abbrev pub Searched : ℕ → List (JobEntry J O G) → ℕ → Type 0
  Searched id es i = (place_of id es ≡ place_of id (drop i es)) × (without id es ≡ take i es ++ without id (drop i es))

  pub Searched-next : (id i : ℕ) (e : JobEntry J O G) (es : List (JobEntry J O G)) → i < length es → e ≡ get_or es i e → (e.id == id) ≡ false → Searched id es i → Searched id es (i + 1)
  Searched-next id i e es less is other (place, rest) =
      let from : drop i es ≡ e ∷ drop (i + 1) es = at i e es less is in
      let upto : take (i + 1) es ≡ take i es ++ e ∷ [] = rw add-one (take-suc es i e less ∙ ap (λ x. take i es ++ x ∷ []) (sym is)) in
      let place' : place_of id es ≡ place_of id (e ∷ drop (i + 1) es) = place ∙ ap (place_of id) from in
      let rest' : without id es ≡ take i es ++ without id (e ∷ drop (i + 1) es) = rest ∙ ap (λ x. take i es ++ without id x) from in
      (rw other at place', rw (upto, append_assoc) (rw other at rest'))

  pub Searched-found : (id i : ℕ) (e : JobEntry J O G) (es : List (JobEntry J O G)) → i < length es → e ≡ get_or es i e → (e.id == id) ≡ true → Searched id es i
      → ((e' : JobEntry J O G) → e' ≡ get_or es i e' → place_of id es ≡ Some e'.place) × (without id es ≡ take i es ++ drop (i + 1) es)
  Searched-found id i e es less is this (place, rest) =
      let from : drop i es ≡ e ∷ drop (i + 1) es = at i e es less is in
      let place' : place_of id es ≡ place_of id (e ∷ drop (i + 1) es) = place ∙ ap (place_of id) from in
      let rest' : without id es ≡ take i es ++ without id (e ∷ drop (i + 1) es) = rest ∙ ap (λ x. take i es ++ without id x) from in
      let here : place_of id es ≡ Some e.place = rw this at place' in (
        λ e' is'.
            let from' : drop i es ≡ e' ∷ drop (i + 1) es = at i e' es less is' in
            let same : e ≡ e' = cc in
            subst (λ (x : JobEntry J O G). place_of id es ≡ Some x.place) same here,
        rw this at rest',
      )

  -- where the outcome of an id was asked for, the ids stay ids, as many run, and a job that was
  -- taken is gone
  pub taken-ids : (id next : ℕ) (o : Option O) (es : List (JobEntry J O G)) → AreIds 0 next (ids es) → AreIds 0 next (ids (left_after o id es))
  taken-ids id next None es h = h
  taken-ids id next (Some outcome) es h = kept id 0 next es h

  pub taken-running : (id : ℕ) (o : Option O) (es : List (JobEntry J O G)) → o ≡ outcome_of (place_of id es) → running (left_after o id es) ≡ running es
  taken-running id None es is = refl
  taken-running id (Some outcome) es is = as-many id outcome es (sym is)

  pub taken-gone : (id next : ℕ) (o : Option O) (es : List (JobEntry J O G)) → AreIds 0 next (ids es) → OnSome o (place_of id (left_after o id es) ≡ None)
  taken-gone id next None es h = tt
  taken-gone id next (Some outcome) es h = gone id 0 next es h
