-- What a list of guards is after a check-out: its type's facts hold in one way, so lists with
-- the same fields are the same.
use Rattle.std.proofs.Common.{◌≡◌, ◌≤◌, inl, inr, vec_len}
use Rattle.std.proofs.Math.Bridge.{le_prop}
use Rattle.std.proofs.Math.Nat.{ℕ_set}
use base.Fml.{GName}
use borrow.Follows.Closed.{read_of}
use mathlib.Core.Option as maybe
use Rattle.bb8_lock.specs.declared.locked.Permits.{Ghosts as PermitsOf}
use Rattle.bb8_lock.specs.Words.{ManagerOf, DebugOf, SinkOf, CustomizerOf, ClockOf}
use Rattle.bb8.specs.declared.guards.Guards.{Guards}

-- what is checked out, or is not, is the same where the list is, after the check-out and without it
pub same_read : {D E : Type 0} (m : maybe.Option GName) (F G : E → D) (v u : D) → ((w : E) → F w ≡ G w) → v ≡ u → read_of m F v ≡ read_of m G u
same_read maybe.none F G v u f e = λ i. inr (e i)
same_read (maybe.some γ) F G v u f e = λ i. inl (γ, λ w. f w i)

module _ {G L M S Z K R C E N V A : Type 0} {m : ManagerOf M C E N V} {d : DebugOf E} {s : SinkOf S E} {z : CustomizerOf Z C E A} {k : ClockOf K} {l : PermitsOf L} where
  pub same_list : (list : Guards G L M S Z K R C E N V A m d s z k l) (one_each : vec_len list.tickets ≡ vec_len list.connections) (permits_of : list.parts ≡ vec_len list.connections) (within : vec_len list.connections ≤ list.shared.now.config.max_size) → record list { one_each = one_each; permits_of = permits_of; within = within } ≡ list
  same_list list one_each permits_of within = λ i. record list { one_each = ℕ_set _ _ one_each list.one_each i; permits_of = ℕ_set _ _ permits_of list.permits_of i; within = le_prop within list.within i }
