-- The waits of the back-off, in nanoseconds.
use Rattle.std.specs.Prelude.{ℕ, zero, suc, ◌+◌, ◌*◌, ◌/◌, ◌^◌, ◌<◌, ◌≤◌, min}

-- how long a connection attempt waits after its k-th failure, k from 1: doubled each time, up to
-- half the timeout
abbrev pub wait : ℕ → ℕ → ℕ
wait timeout k = min (timeout / 2) (200_000_000 * 2 ^ k)

-- the sum of the first n waits
abbrev pub waits : ℕ → ℕ → ℕ
waits timeout zero = 0
waits timeout (suc n) = waits timeout n + wait timeout (suc n)

-- whether n is the most first waits whose sum is at most the timeout
pub record IsMostWaits (timeout n : ℕ) : Type 0 where
  pub within : waits timeout n ≤ timeout
  pub past : timeout < waits timeout (suc n)
