use Rattle.std.proofs.Common.{rules}
use Rattle.std.proofs.lemmas.Slice.Zip.{all_zipped_more}
use Rattle.bb8.proofs.guards.Guards.drop.Goals as goal

pub loop-connection-preserved-in-Some-pop : goal.loop-connection-preserved-in-Some-pop
loop-connection-preserved-in-Some-pop g c =
    let tickets = rw c.in-Some-pop.field-0-is at c.in-Some-pop.ensures.items in (
      search rules,
      search rules,
      λ rest. c.loop-connection.invariant.2 (rw (tickets, c.in-Some.ensures.items) (all_zipped_more _ _ _ _ _ rest (c.take_one-permit.result, c.drop.ensures))),
    )
