use Rattle.bb8_core.proofs.Words.{refl, opening}
use Rattle.bb8_core.proofs.ShownRecords as of_records
use Rattle.bb8_core.proofs.ShownGets as of_gets
use Rattle.bb8_core.proofs.Steps.{same_shown}
use Rattle.bb8_core.proofs.internals.PoolInternals+C.starting_at.Goals as goal

pub invariant_of-result : goal.invariant_of-result
invariant_of-result g c = (
  (
    opening c.args.config c.args.first_number c.args.first_get,
    c.requires,
    rw (c.new-records.ensures, c.new.ensures)
        (same_shown _ _ refl refl refl refl refl (of_records.shown-none c.args.first_number) (of_gets.shown-none c.args.first_get) refl),
  ),
  record { age = c.max_age.ensures; closed = λ k few. refl },
)
