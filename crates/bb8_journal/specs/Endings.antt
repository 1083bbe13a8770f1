-- Ending events: those for whose entries a journal reserves memory.
use Rattle.std.specs.Prelude.{◌+◌, ◌≤◌, ℕ, Bool, true, false}
use Rattle.std.specs.Bool.{MatchBool}
use Rattle.bb8_core.specs.declared.replay.events.Act.{Act as Named}
use Rattle.bb8_core.specs.declared.replay.events.Act.TheVariants as named
use Rattle.bb8_ledger.specs.Acts.{Act, GiveUp, PutBack, Detach, Leave, Close}

-- whether an event ends a get, a check-out or a handle, or all handles
abbrev pub is_ending : {C : Type 0} → Act C → Bool
is_ending (GiveUp g why held broken) = true
is_ending (PutBack k c broken) = true
is_ending (Detach k) = true
is_ending Leave = true
is_ending Close = true
is_ending _ = false

-- the same for an event of a replay
abbrev pub is_named_ending : Named → Bool
is_named_ending (named.GiveUp g why broken) = true
is_named_ending (named.PutBack k broken) = true
is_named_ending (named.Detach k) = true
is_named_ending named.Leave = true
is_named_ending named.Close = true
is_named_ending _ = false

-- An ending event leaves fewer of them to come, any other at most one more.
abbrev pub CountsDown : Bool → ℕ → ℕ → Type 0
CountsDown ending before after = MatchBool ending (after + 1 ≤ before) (after ≤ before + 1)
