-- The holder of a checked-out connection.
use Rattle.std.specs.Prelude.{Bool}
use Rattle.bb8_types.specs.declared.standing.Holder.{Holder}
use Rattle.bb8_types.specs.declared.standing.Holder.TheVariants.{Guard, Get}
use Rattle.bb8_types.specs.declared.standing.Place.{Place}
use Rattle.bb8_types.specs.Places.{is_guarded, is_held_by}

-- whether a connection is checked out by this holder
abbrev pub is_with : {C : Type 0} → Holder → Place C → Bool
is_with Guard = is_guarded
is_with (Get g) = is_held_by g
