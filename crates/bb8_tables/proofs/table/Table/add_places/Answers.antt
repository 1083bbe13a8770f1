use Rattle.bb8_tables.proofs.Words.{◌∙◌, None, [], ◌∷◌, arith, length-append}
use Rattle.bb8_tables.proofs.Tables.{get_or_none}
use Rattle.bb8_tables.proofs.table.Table.add_places.Goals as goal

pub loop-preserved : goal.loop-preserved
loop-preserved g c = rw c.in_ok-add_place-2.ensures.ok (record {
  places = omega (arith, length-append c.loop.self.slots (None ∷ []), c.loop.invariant.places);
  kept = λ i. get_or_none c.loop.self.slots i ∙ c.loop.invariant.kept i;
  line = c.loop.invariant.line;
  births = c.loop.invariant.births;
  free = omega (arith, c.loop.invariant.free, c.loop.invariant.places);
})
