-- The bounds of a pool's numbers.
use Rattle.std.specs.Prelude.{ℕ}

-- the number that is never given, to no connection, approval or get: the greatest u64
abbrev pub end_of_numbers : ℕ
end_of_numbers = 18446744073709551615

-- the greatest sum of all waits, in microseconds: the greatest u64
abbrev pub most_micros : ℕ
most_micros = 18446744073709551615

-- the last moment of a clock, in nanoseconds: the greatest u64
abbrev pub last_moment : ℕ
last_moment = 18446744073709551615

-- the most handles that can be alive
abbrev pub most_handles : ℕ
most_handles = 4294967295

-- the most connections and open approvals together: the greatest u32, to which max_size may be set
abbrev pub most_records : ℕ
most_records = 4294967295
