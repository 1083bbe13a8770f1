-- The text of errors, and their equality.
use Rattle.std.specs.Prelude.{ℕ, Bool, true, false, List, Option, Some, codes}
use Rattle.bb8_types.specs.declared.api.errors.RunError.{RunError}
use Rattle.bb8_types.specs.declared.api.errors.RunError.TheVariants.{User, TimedOut, Memory, Exhausted}
use Rattle.bb8_types.specs.declared.api.errors.AddError.{AddError}
use Rattle.bb8_types.specs.declared.api.errors.AddError.TheVariants.{Broken, NoCapacity, Withheld}

-- the text of the error of a get or a build, given the text of the manager's errors
abbrev pub run_error_text : {E : Type 0} → (E → Option (List ℕ)) → RunError E → Option (List ℕ)
run_error_text text (User error) = text error
run_error_text text TimedOut = Some (codes "Timed out in bb8")
run_error_text text Memory = Some (codes "No memory in bb8")
run_error_text text Exhausted = Some (codes "Numbers used up in bb8")

-- the text of the error of an add
abbrev pub add_error_text : {C : Type 0} → AddError C → List ℕ
add_error_text (Broken connection) = codes "The connection was broken before it could be added"
add_error_text (NoCapacity connection) = codes "Unable to add the connection to the pool due to insufficient capacity"
add_error_text (Withheld connection) = codes "No memory or number to add the connection"

-- whether two errors are of the same case, with equal errors of the manager
abbrev pub run_error_eq : {E : Type 0} → (E → E → Bool) → RunError E → RunError E → Bool
run_error_eq same (User error) (User other) = same error other
run_error_eq same TimedOut TimedOut = true
run_error_eq same Memory Memory = true
run_error_eq same Exhausted Exhausted = true
run_error_eq same _ _ = false

-- whether two errors are of the same case, with equal connections
abbrev pub add_error_eq : {C : Type 0} → (C → C → Bool) → AddError C → AddError C → Bool
add_error_eq same (Broken connection) (Broken other) = same connection other
add_error_eq same (NoCapacity connection) (NoCapacity other) = same connection other
add_error_eq same (Withheld connection) (Withheld other) = same connection other
add_error_eq same _ _ = false
