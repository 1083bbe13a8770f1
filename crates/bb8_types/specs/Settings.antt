-- The configuration, with durations in whole nanoseconds.
use Rattle.std.specs.Prelude.{ℕ, zero, Bool, true, Option, Some, None, is_some, ltb, leb, not, ◌&&◌, ◌||◌, refl, ◌≡◌}
use Rattle.std.specs.Option.{option_map}
use Rattle.std.specs.Duration.{as_nanos}
use Rattle.std.specs.Coded.{Coded, code_by, coded×, coded_ℕ, coded_bool, coded_option}
use Rattle.bb8_types.specs.declared.api.configuration.Config.{Config}
use Rattle.bb8_types.specs.declared.api.configuration.QueueStrategy.{QueueStrategy}
use Rattle.bb8_types.specs.declared.api.configuration.QueueStrategy.TheVariants.{Fifo, Lifo}

-- a configuration as plain numbers, with durations in whole nanoseconds
pub record Settings : Type 0 where
  pub max_size : ℕ
  pub min_idle : Option ℕ
  pub test_on_check_out : Bool
  pub test_after : ℕ
  pub max_lifetime : Option ℕ
  pub idle_timeout : Option ℕ
  pub connection_timeout : ℕ
  pub retry_connection : Bool
  pub reaper_rate : ℕ
  pub queue_strategy : QueueStrategy

-- the plain numbers of a configuration
abbrev pub settings_of : Config → Settings
settings_of c = record {
  max_size = c.max_size;
  min_idle = c.min_idle;
  test_on_check_out = c.test_on_check_out;
  test_after = as_nanos c.test_after;
  max_lifetime = option_map as_nanos c.max_lifetime;
  idle_timeout = option_map as_nanos c.idle_timeout;
  connection_timeout = as_nanos c.connection_timeout;
  retry_connection = c.retry_connection;
  reaper_rate = as_nanos c.reaper_rate;
  queue_strategy = c.queue_strategy;
}

-- the defaults
abbrev pub default_settings : Settings
default_settings = record {
  max_size = 10;
  min_idle = None;
  test_on_check_out = true;
  test_after = 0;
  max_lifetime = Some 1_800_000_000_000;
  idle_timeout = Some 600_000_000_000;
  connection_timeout = 30_000_000_000;
  retry_connection = true;
  reaper_rate = 30_000_000_000;
  queue_strategy = Fifo;
}

-- whether a limit is not set, or not to zero
abbrev pub is_unset_or_above_zero : Option ℕ → Bool
is_unset_or_above_zero None = true
is_unset_or_above_zero (Some n) = ltb 0 n

-- whether a number is not set, or at most another
abbrev pub is_unset_or_at_most : Option ℕ → ℕ → Bool
is_unset_or_at_most None most = true
is_unset_or_at_most (Some n) most = leb n most

-- whether a pool accepts this configuration
abbrev pub is_lawful : Settings → Bool
is_lawful s =
    ltb 0 s.max_size && (is_unset_or_at_most s.min_idle s.max_size && (is_unset_or_above_zero s.max_lifetime && (is_unset_or_above_zero s.idle_timeout && (ltb 0 s.connection_timeout
    && (not (is_some s.max_lifetime || is_some s.idle_timeout) || ltb 0 s.reaper_rate)))))

-- the encodings that the toolchain requires for a model's value
abbrev strategy_code : Coded QueueStrategy
strategy_code = code_by ℕ coded_ℕ to back again
  where
    to : QueueStrategy → ℕ
    to Fifo = 0
    to Lifo = 1

    back : ℕ → QueueStrategy
    back zero = Fifo
    back _ = Lifo

    again : (s : QueueStrategy) → back (to s) ≡ s
    again Fifo = refl
    again Lifo = refl

-- a configuration as pairs within pairs
abbrev Stored : Type 0
Stored = ℕ × (Option ℕ × (Bool × (ℕ × (Option ℕ × (Option ℕ × (ℕ × (Bool × (ℕ × QueueStrategy))))))))

-- the encoding of a configuration
abbrev pub settings_code : Coded Settings
settings_code =
    code_by
    Stored
    (coded× coded_ℕ (coded× (coded_option coded_ℕ)
    (coded× coded_bool (coded× coded_ℕ (coded× (coded_option coded_ℕ)
    (coded× (coded_option coded_ℕ) (coded× coded_ℕ (coded× coded_bool (coded× coded_ℕ strategy_code)))))))))
    (λ s. (s.max_size, (s.min_idle, (s.test_on_check_out, (s.test_after, (s.max_lifetime, (s.idle_timeout, (s.connection_timeout, (s.retry_connection, (s.reaper_rate, s.queue_strategy))))))))))
    (λ p. record {
      max_size = p.0;
      min_idle = p.1.0;
      test_on_check_out = p.1.1.0;
      test_after = p.1.1.1.0;
      max_lifetime = p.1.1.1.1.0;
      idle_timeout = p.1.1.1.1.1.0;
      connection_timeout = p.1.1.1.1.1.1.0;
      retry_connection = p.1.1.1.1.1.1.1.0;
      reaper_rate = p.1.1.1.1.1.1.1.1.0;
      queue_strategy =
          p.1.1.1.1.1.1.1.1.1;
    })
    (λ _. refl)
