-- The statistics of a pool in plain numbers.
use Rattle.std.specs.Prelude.{ℕ, ◌+◌, ◌-◌, refl}
use Rattle.std.specs.Duration.{as_nanos}
use Rattle.std.specs.Coded.{Coded, code_by, coded×, coded_ℕ}
use Rattle.bb8_types.specs.declared.api.figures.Statistics.{Statistics}
use Rattle.bb8_types.specs.declared.api.figures.State.{State}

-- The counts of what happened; the wait time in nanoseconds.
pub record Counts : Type 0 where
  pub started : ℕ
  pub direct : ℕ
  pub waited : ℕ
  pub timed_out : ℕ
  pub cancelled : ℕ
  pub wait_time : ℕ
  pub created : ℕ
  pub broken : ℕ
  pub invalid : ℕ
  pub max_lifetime : ℕ
  pub idle_timeout : ℕ
  pub retired : ℕ
  pub detached : ℕ

-- the count of gets that were served or timed out
abbrev pub completed : Counts → ℕ
completed c = c.direct + c.waited + c.timed_out

-- the count of gets that began and were neither served nor timed out nor cancelled
abbrev pub pending : Counts → ℕ
pending c = c.started - completed c - c.cancelled

-- the size and the statistics of a pool
pub record Figures : Type 0 where
  pub connections : ℕ
  pub idle : ℕ
  pub counts : Counts

-- the statistics as plain numbers
abbrev pub counts_of : Statistics → Counts
counts_of s = record {
  started = s.get_started;
  direct = s.get_direct;
  waited = s.get_waited;
  timed_out = s.get_timed_out;
  cancelled = s.get_cancelled;
  wait_time = as_nanos s.get_wait_time;
  created = s.connections_created;
  broken = s.connections_closed_broken;
  invalid = s.connections_closed_invalid;
  max_lifetime = s.connections_closed_max_lifetime;
  idle_timeout = s.connections_closed_idle_timeout;
  retired = s.connections_closed_retired;
  detached = s.connections_detached;
}

-- a state as plain numbers
abbrev pub figures_of : State → Figures
figures_of s = record { connections = s.connections; idle = s.idle_connections; counts = counts_of s.statistics }

-- all counts at 0
abbrev pub no_counts : Counts
no_counts = record { started = 0; direct = 0; waited = 0; timed_out = 0; cancelled = 0; wait_time = 0; created = 0; broken = 0; invalid = 0; max_lifetime = 0; idle_timeout = 0; retired = 0; detached = 0 }

-- the encoding that the toolchain requires for a model's value
abbrev pub counts_code : Coded Counts
counts_code =
    code_by
    (ℕ × (ℕ × (ℕ × (ℕ × (ℕ × (ℕ × (ℕ × (ℕ × (ℕ × (ℕ × (ℕ × (ℕ × ℕ))))))))))))
    (coded× coded_ℕ (coded× coded_ℕ (coded× coded_ℕ (coded× coded_ℕ (coded× coded_ℕ (coded× coded_ℕ (coded× coded_ℕ (coded× coded_ℕ (coded× coded_ℕ (coded× coded_ℕ (coded× coded_ℕ (coded× coded_ℕ coded_ℕ))))))))))))
    (λ s. (s.started, (s.direct, (s.waited, (s.timed_out, (s.cancelled, (s.wait_time, (s.created, (s.broken, (s.invalid, (s.max_lifetime, (s.idle_timeout, (s.retired, s.detached)))))))))))))
    (λ p. record {
      started = p.0;
      direct = p.1.0;
      waited = p.1.1.0;
      timed_out = p.1.1.1.0;
      cancelled = p.1.1.1.1.0;
      wait_time =
          p.1.1.1.1.1.0;
      created = p.1.1.1.1.1.1.0;
      broken = p.1.1.1.1.1.1.1.0;
      invalid = p.1.1.1.1.1.1.1.1.0;
      max_lifetime =
          p.1.1.1.1.1.1.1.1.1.0;
      idle_timeout = p.1.1.1.1.1.1.1.1.1.1.0;
      retired = p.1.1.1.1.1.1.1.1.1.1.1.0;
      detached = p.1.1.1.1.1.1.1.1.1.1.1.1;
    })
    (λ _. refl)
