-- The meaning of a pool's counters.
use Rattle.std.specs.Prelude.{◌*◌}
use Rattle.bb8_tables.specs.declared.counters.Counters.{Counters}
use Rattle.bb8_types.specs.Figures.{Counts}

-- the counters, with the wait time in nanoseconds
abbrev pub counts_held : Counters → Counts
counts_held c = record {
  started = c.started;
  direct = c.direct;
  waited = c.waited;
  timed_out = c.timed_out;
  cancelled = c.cancelled;
  wait_time = 1000 * c.wait_micros;
  created = c.created;
  broken = c.broken;
  invalid = c.invalid;
  max_lifetime = c.max_lifetime;
  idle_timeout = c.idle_timeout;
  retired = c.retired;
  detached = c.detached;
}
