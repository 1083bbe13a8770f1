-- The numbers behind keys.
use Rattle.std.specs.Prelude.{ℕ, Option}
use Rattle.std.specs.Option.{option_map}
use Rattle.bb8_tables.specs.declared.keys.GetKey.{GetKey}

-- the number of the get that a step notified
abbrev pub notified_of : Option GetKey → Option ℕ
notified_of = option_map (λ (g : GetKey). g.number)
