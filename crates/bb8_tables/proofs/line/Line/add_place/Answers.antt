use Rattle.std.proofs.Common.{◌≡◌, ◌+◌, ◌<◌, ◌≤◌, ℕ, Result, Ok, Err, OnOk, OnErr, arith, refl}
use Rattle.bb8_tables.proofs.Linked
use Rattle.bb8_tables.proofs.line.Line.add_place.Goals as goal

grew : {A E : Type 0} (r : Result A E) (n m k : ℕ) → OnOk r (n ≡ m + 1) → OnErr r (n ≡ m) → m < k → n ≤ k
grew (Ok x) n m k more same few = omega arith
grew (Err e) n m k more same few = omega arith

pub invariant_of-self : goal.invariant_of-self
invariant_of-self c = (Linked.grown c.self.inside c.self.invariant c.append.new.self c.append.ensures.after c.append.ensures.before
    (grew c.append.result _ c.self.inside.links.entries.len 4294967296 c.append.ensures.more c.append.ensures.same (omega (arith, c.len-place.ensures, c.if-place.false))) _ refl).0
