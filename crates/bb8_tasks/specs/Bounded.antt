-- How many connection attempts a replay of one task begins.
use Rattle.std.specs.Prelude.{◌≡◌, ℕ, ◌+◌, ◌/◌, ◌<◌, ◌≤◌, Bool, true, List, [], ◌∷◌, ⊤, ◌⊎◌}
use Rattle.bb8_tasks.specs.Words.{Moment, last_moment, waits, IsMostWaits, Reply}
use Rattle.bb8_tasks.specs.declared.backoff.Reply.TheVariants.{Err}

-- If half the timeout is not zero: at most n + 2, where n is the greatest number of first waits
-- whose sum is at most the timeout. Such an n exists.
abbrev pub IsBounded : ℕ → ℕ → Type 0
IsBounded timeout tries = 0 < timeout / 2 → (n : ℕ) × IsMostWaits timeout n × (tries ≤ n + 2)

-- no poll of the list is before this moment
abbrev pub IsFrom : ℕ → List (Moment × Reply) → Type 0
IsFrom m [] = ⊤
IsFrom m (p ∷ polls) = (m ≤ p.0.0) × IsFrom m polls

-- the moments of the list never fall
abbrev pub NeverFalls : List (Moment × Reply) → Type 0
NeverFalls [] = ⊤
NeverFalls (p ∷ polls) = IsFrom p.0.0 polls × NeverFalls polls

-- each reply is an error
abbrev pub EachFails : List (Moment × Reply) → Type 0
EachFails [] = ⊤
EachFails (p ∷ polls) = (p.1 ≡ Err) × EachFails polls

-- the list polls at this moment
abbrev pub IsPolledAt : ℕ → List (Moment × Reply) → Type 0
IsPolledAt m [] = ⊥
IsPolledAt m (p ∷ polls) = (p.0.0 ≡ m) ⊎ IsPolledAt m polls

-- A list that is not empty, whose moments never fall and whose replies are all errors, and that
-- polls at each due moment: the first moment, and then after each of the first n + 1 waits. None of
-- these exceeds the greatest moment.
abbrev pub IsDriven : ℕ → ℕ → List (Moment × Reply) → Type 0
IsDriven timeout n [] = ⊥
IsDriven timeout n (p ∷ polls) =
    NeverFalls (p ∷ polls) × EachFails (p ∷ polls) × ((k : ℕ) → 1 ≤ k → k ≤ n + 1 → IsPolledAt (p.0.0 + waits timeout k) (p ∷ polls))
    × (p.0.0 + waits timeout (n + 1) ≤ last_moment)

-- each such list reaches the bound
abbrev pub IsReached : ℕ → Bool → List (Moment × Reply) → ℕ → Type 0
IsReached timeout retry polls tries = (n : ℕ) → 0 < timeout / 2 → IsMostWaits timeout n → retry ≡ true → IsDriven timeout n polls → tries ≡ n + 2
