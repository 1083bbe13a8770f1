-- The results of events.
use Rattle.std.specs.Prelude.{ℕ, Bool, Option}
use Rattle.bb8_types.specs.declared.grants.Grant.{Grant}
use Rattle.bb8_types.specs.Figures.{Figures}

-- The kinds of results. In Kept, Closed, GaveUp, Entered and Added the last field is the get that
-- was notified.
pub data Answer : Type 0 where
  Begun : ℕ → Answer
  Memory : Answer
  Exhausted : Answer
  Served : ℕ → Grant → Answer
  Taken : ℕ → Grant → Answer
  Waiting : Grant → Answer
  Kept : ℕ → Option ℕ → Answer
  Closed : ℕ → Grant → Option ℕ → Answer
  GaveUp : Option ℕ → Answer
  Granted : Grant → Answer
  Claimed : Option ℕ → Answer
  Ended : Answer
  Entered : ℕ → Option ℕ → Answer
  Late : ℕ → Answer
  GivenBack : Answer
  Added : ℕ → Option ℕ → Answer
  Broken : Answer
  NoCapacity : Answer
  Withheld : Answer
  Reaped : ℕ → ℕ → ℕ → Grant → Answer
  Shown : Figures → Answer
  Joined : Answer
  Left : ℕ → Answer
  Looked : ℕ → Bool → Answer
  Unfit : Answer
