-- Claims, one after another.
use Rattle.bb8_tasks.proofs.Words.{◌≡◌, Some, List, [], ◌∷◌, ◌++◌, refl, subst, append_assoc, map, map-append, Moment, Key, Replenish, fresh}
use Rattle.bb8_core.specs.declared.answers.ClaimAnswer.TheVariants.{Claimed}
use Rattle.bb8_tasks.specs.declared.home.Home.{Ghosts as HomeOf}
use Rattle.bb8_tasks.specs.TaskSteps.{Claims}
use Rattle.bb8_tasks.specs.Turns.{ClaimsEach, TakesOnEach}

module _ {C H : Type 0} (home : HomeOf H C) (at : Moment) where
  -- one more claim, after others
  one_more : (keys : List Key) (key : Key) (h h1 h2 : H) → ClaimsEach home at keys h h1 → home.steps h1 at (Claims (Claimed (Some key))) h2
      → ClaimsEach home at (keys ++ key ∷ []) h h2
  one_more [] key h h1 h2 is claimed = (h2, subst (λ x. home.steps x at (Claims (Claimed (Some key))) h2) is claimed, refl)
  one_more (k ∷ keys) key h h1 h2 (between, first, rest) claimed = (between, first, one_more keys key between h1 h2 rest claimed)

  module _ {V A : Type 0} where
    -- after one more claim
    pub takes-more : (ts ts1 ts2 : List (Replenish C V A)) (h h1 h2 : H) (key : Key) → TakesOnEach home at ts h ts1 h1
        → home.steps h1 at (Claims (Claimed (Some key))) h2 → ts2 ≡ ts1 ++ fresh key ∷ [] → TakesOnEach home at ts h ts2 h2
    takes-more ts ts1 ts2 h h1 h2 key (keys, before, are) claimed is =
        (keys ++ key ∷ [], one_more keys key h h1 h2 before claimed, rw (is, are, map-append) (append_assoc ts (map fresh keys) (fresh key ∷ [])))
