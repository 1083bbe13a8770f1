-- The bounds of a step: how many connections it checks out and returns, and what it reads.
use Rattle.std.specs.Prelude.{◌≡◌, ◌≤◌, ◌+◌, ◌-◌, ℕ, length, Result, Ok, Err}
use Rattle.bb8_tables.specs.AccessCount.{one_more}
use Rattle.bb8_core.specs.declared.answers.Started.{Started}
use Rattle.bb8_core.specs.declared.answers.Started.TheVariants as starting
use Rattle.bb8_core.specs.declared.answers.TryAnswer.{TryAnswer}
use Rattle.bb8_core.specs.declared.answers.TryAnswer.TheVariants as tried
use Rattle.bb8_core.specs.StateView.{StateView}

-- how many connections this result of a return brings back
abbrev pub come_back : {A U : Type 0} → Result A U → ℕ
come_back (Ok a) = 1
come_back (Err u) = 0

-- how many connections go out, by the result; none if the event does not fit
abbrev pub if_fits : {A U : Type 0} → (A → ℕ) → Result A U → ℕ
if_fits outs (Ok a) = outs a
if_fits outs (Err u) = 0

module _ {C : Type 0} where
  -- how many connections are checked out, by guards or gets: all but the idle ones
  abbrev pub out_of : StateView C → ℕ
  out_of s = s.records.conns - length s.records.idle

  -- how many connections go out with this result of a try
  abbrev pub goes_out : TryAnswer C → ℕ
  goes_out (tried.Served k c grant) = 1
  goes_out (tried.Taken k c grant) = 1
  goes_out (tried.Waiting grant) = 0

  -- how many connections go out with this result of a get's start
  abbrev pub starts_out : Started C → ℕ
  starts_out (starting.Tried g outcome) = goes_out outcome
  starts_out starting.Memory = 0
  starts_out starting.Exhausted = 0

  -- A step keeps the settings. It checks out and returns this many connections. It ends
  -- one access counter, reads at most `most` table entries, and searches at most `more` times.
  pub record IsBounded (out back most more : ℕ) (old new : StateView C) : Type 0 where
    pub config : new.config ≡ old.config
    pub moves : out_of new + back ≡ out_of old + out
    pub ended : new.reads.ended ≡ one_more old.reads
    pub reads : new.reads.reads ≤ most
    pub searched : new.reads.searched ≤ more
