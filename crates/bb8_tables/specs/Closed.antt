-- The connections that steps close, and the lists to which they are offered.
use Rattle.std.specs.Prelude.{ℕ, ltb, cond, List, [], ◌∷◌, ◌++◌, length, Option, Some, None}
use Rattle.std.specs.FinMap.{FinMap, get, remove}
use Rattle.std.specs.Ordering.{nat_cmp}
use Rattle.circular_buffer.specs.Buffer.{Buffer, buffer}
use Rattle.bb8_types.specs.declared.standing.Place.{Place}
use Rattle.bb8_types.specs.declared.standing.Place.TheVariants.{Unclaimed, Claimed, Idle, Held, Guarded}
use Rattle.bb8_types.specs.declared.standing.Standing.{Standing}
use Rattle.bb8_tables.specs.declared.closed.Closed.{Closed}

module _ {X : Type 0} where
  -- the buffer with one more item at the back, if there is space
  abbrev pub offered : X → Buffer X → Buffer X
  offered x b = cond (ltb (length b.items) b.capacity) (buffer (b.items ++ x ∷ []) b.capacity) b

  -- the buffer after these items were offered one after another
  abbrev pub offered_all : List X → Buffer X → Buffer X
  offered_all [] b = b
  offered_all (x ∷ xs) b = offered_all xs (offered x b)

module _ {C : Type 0} where
  -- the connection of an idle record, with this number
  abbrev pub closed_at : ℕ → Place C → List (Closed C)
  closed_at k (Idle c) = record { number = k; conn = c } ∷ []
  closed_at k Unclaimed = []
  closed_at k Claimed = []
  closed_at k (Held g) = []
  closed_at k Guarded = []

  -- the same for a record that may have ended
  abbrev pub closed_in : ℕ → Option (Standing C) → List (Closed C)
  closed_in k None = []
  closed_in k (Some s) = closed_at k s.place

  -- the connections of these records, which end one after another
  abbrev pub closed_of : List ℕ → FinMap nat_cmp (Standing C) → List (Closed C)
  closed_of [] places = []
  closed_of (k ∷ ks) places = closed_in k (get places k) ++ closed_of ks (remove places k)
