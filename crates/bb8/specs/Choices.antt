-- The view of a builder.
use Rattle.bb8_types.specs.Settings.{Settings}

-- the settings of a pool, its error sink, and its customizer
pub record Choices (S Z : Type 0) : Type 0 where
  pub settings : Settings
  pub error_sink : S
  pub connection_customizer : Z
