-- Places by their tests.
use Rattle.std.proofs.lemmas.Bool.Decides.{nat_tests}
use Rattle.std.proofs.Common.{◌≡◌, Bool, true, false, ◌&&◌, Option, Some, refl, ap, not, arith}
use Rattle.bb8_types.specs.declared.standing.Place.{Place}
use Rattle.bb8_types.specs.declared.standing.Place.TheVariants.{Unclaimed, Claimed, Idle, Held, Guarded}
use Rattle.bb8_types.specs.declared.standing.Standing.{Standing}
use Rattle.bb8_types.specs.declared.standing.Holder.{Holder}
use Rattle.bb8_types.specs.declared.standing.Holder.TheVariants.{Guard, Get}
use Rattle.bb8_types.specs.Places.{stands, is_conn, is_approval, is_unclaimed, is_claimed, is_guarded, is_idle, is_out, place_with, comes_from}

pub and_right : (a b : Bool) → (a && b) ≡ true → (a ≡ true) × (b ≡ true)
and_right a b e = grind (arith, nat_tests)

module _ {C : Type 0} where
  -- the record in a state that passes
  pub standing_is : (test : Place C → Bool) (o : Option (Standing C)) → stands test o ≡ true → (s : Standing C) × (o ≡ Some s) × (test s.place ≡ true)
  standing_is test o h = grind (arith, nat_tests)

  pub unclaimed_is : (p : Place C) → is_unclaimed p ≡ true → p ≡ Unclaimed
  unclaimed_is p h = grind (arith, nat_tests)

  pub claimed_is : (p : Place C) → is_claimed p ≡ true → p ≡ Claimed
  claimed_is p h = grind (arith, nat_tests)

  pub idle_is : (p : Place C) → is_idle p ≡ true → (c : C) × (p ≡ Idle c)
  idle_is p h = grind (arith, nat_tests)

  pub guarded_is : (p : Place C) → is_guarded p ≡ true → p ≡ Guarded
  guarded_is v0 h = grind (arith, nat_tests)

  -- what a guard holds is out
  pub guarded_out : (p : Place C) → is_guarded p ≡ true → is_out p ≡ true
  guarded_out p h = ap is_out (guarded_is p h)

  -- a connection that is out, by its tests
  out_tests : (p : Place C) → is_out p ≡ true → (is_idle p ≡ false) × (is_unclaimed p ≡ false) × (is_conn p ≡ true)
  out_tests v0 h = grind (arith, nat_tests)

  -- a connection that somebody holds is out
  pub held_conn : (p : Place C) (h : Holder) → p ≡ place_with h → is_conn p ≡ true
  held_conn p v1 is = grind (arith, nat_tests)

  -- a record that enters or ends, by its tests
  pub idle_from : (opening : Bool) (p : Place C) → comes_from opening p ≡ true → is_idle p ≡ false
  idle_from opening p h = grind (arith, nat_tests)

  pub unclaimed_from : (opening : Bool) (p : Place C) → comes_from opening p ≡ true → is_unclaimed p ≡ false
  unclaimed_from opening p h = grind (arith, nat_tests)

  pub conn_from : (opening : Bool) (p : Place C) → comes_from opening p ≡ true → is_conn p ≡ not opening
  conn_from opening p h = grind (arith, nat_tests)

  pub approval_from : (opening : Bool) (p : Place C) → comes_from opening p ≡ true → is_approval p ≡ opening
  approval_from opening p h = grind (arith, nat_tests)
