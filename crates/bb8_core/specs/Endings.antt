-- How many events that end something may still come.
use Rattle.std.specs.Prelude.{ℕ, ◌+◌}
use Rattle.bb8_core.specs.StateView.{StateView}
use Rattle.bb8_core.specs.StepBounds.{out_of}

-- one for each get alive, each handle alive and each checked-out connection
abbrev pub endings_of : {C : Type 0} → StateView C → ℕ
endings_of s = s.gets.alive + (s.handles + out_of s)
