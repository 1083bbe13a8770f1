-- The laws of equality of errors.
use Rattle.std.specs.Prelude.{◌≡◌, Bool, true, refl}
use Rattle.std.specs.Cmp.{IsPartialEquivalence, IsEquivalence, partial_equiv_from_equiv, equiv}
use Rattle.bb8_types.specs.Errors.{run_error_eq, add_error_eq}
use Rattle.bb8_types.specs.declared.api.errors.RunError.{RunError}
use Rattle.bb8_types.specs.declared.api.errors.RunError.TheVariants.{User, TimedOut, Memory, Exhausted}
use Rattle.bb8_types.specs.declared.api.errors.AddError.{AddError}
use Rattle.bb8_types.specs.declared.api.errors.AddError.TheVariants.{Broken, NoCapacity, Withheld}

module _ {E : Type 0} {same : E → E → Bool} (laws : IsPartialEquivalence same) where
  -- equality of get errors is symmetric
  run_error_eq_symmetric : (x y : RunError E) → run_error_eq same x y ≡ run_error_eq same y x
  run_error_eq_symmetric (User error) (User other) = laws.symm error other
  run_error_eq_symmetric TimedOut TimedOut = refl
  run_error_eq_symmetric Memory Memory = refl
  run_error_eq_symmetric Exhausted Exhausted = refl
  run_error_eq_symmetric _ _ = refl

  -- equality of get errors is transitive
  run_error_eq_transitive : (x y z : RunError E) → run_error_eq same x y ≡ true → run_error_eq same y z ≡ true → run_error_eq same x z ≡ true
  run_error_eq_transitive (User x) (User y) (User z) first second = laws.trans x y z first second
  run_error_eq_transitive TimedOut TimedOut TimedOut first second = refl
  run_error_eq_transitive Memory Memory Memory first second = refl
  run_error_eq_transitive Exhausted Exhausted Exhausted first second = refl
  run_error_eq_transitive _ _ _ first second = cc

  -- equality of get errors is symmetric and transitive if that of the manager's errors is
  pub run_error_eq_partial_equivalence : IsPartialEquivalence (run_error_eq same)
  run_error_eq_partial_equivalence = record { symm = run_error_eq_symmetric; trans = run_error_eq_transitive }

  -- equality of add errors is symmetric
  add_error_eq_symmetric : (x y : AddError E) → add_error_eq same x y ≡ add_error_eq same y x
  add_error_eq_symmetric (Broken connection) (Broken other) = laws.symm connection other
  add_error_eq_symmetric (NoCapacity connection) (NoCapacity other) = laws.symm connection other
  add_error_eq_symmetric (Withheld connection) (Withheld other) = laws.symm connection other
  add_error_eq_symmetric _ _ = refl

  -- equality of add errors is transitive
  add_error_eq_transitive : (x y z : AddError E) → add_error_eq same x y ≡ true → add_error_eq same y z ≡ true → add_error_eq same x z ≡ true
  add_error_eq_transitive (Broken x) (Broken y) (Broken z) first second = laws.trans x y z first second
  add_error_eq_transitive (NoCapacity x) (NoCapacity y) (NoCapacity z) first second = laws.trans x y z first second
  add_error_eq_transitive (Withheld x) (Withheld y) (Withheld z) first second = laws.trans x y z first second
  add_error_eq_transitive _ _ _ first second = cc

  -- equality of add errors is symmetric and transitive if that of connections is
  pub add_error_eq_partial_equivalence : IsPartialEquivalence (add_error_eq same)
  add_error_eq_partial_equivalence = record { symm = add_error_eq_symmetric; trans = add_error_eq_transitive }

module _ {E : Type 0} {same : E → E → Bool} (laws : IsEquivalence same) where
  -- equality of get errors is reflexive
  run_error_eq_reflexive : (x : RunError E) → run_error_eq same x x ≡ true
  run_error_eq_reflexive (User error) = laws.refl error
  run_error_eq_reflexive _ = refl

  -- equality of get errors is an equivalence if that of the manager's errors is
  pub run_error_eq_equivalence : IsEquivalence (run_error_eq same)
  run_error_eq_equivalence = equiv (run_error_eq_partial_equivalence (partial_equiv_from_equiv laws)) run_error_eq_reflexive

  -- equality of add errors is reflexive
  add_error_eq_reflexive : (x : AddError E) → add_error_eq same x x ≡ true
  add_error_eq_reflexive (Broken connection) = laws.refl connection
  add_error_eq_reflexive (NoCapacity connection) = laws.refl connection
  add_error_eq_reflexive (Withheld connection) = laws.refl connection

  -- equality of add errors is an equivalence if that of connections is
  pub add_error_eq_equivalence : IsEquivalence (add_error_eq same)
  add_error_eq_equivalence = equiv (add_error_eq_partial_equivalence (partial_equiv_from_equiv laws)) add_error_eq_reflexive
