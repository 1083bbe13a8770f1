use Rattle.std.proofs.Common.{rules}
use Rattle.bb8.proofs.building.PlanMakesPool.open.Goals as goal

pub returns-in-Ok-clause-opened : goal.returns-in-Ok-clause-opened
returns-in-Ok-clause-opened g c =
    let begun = rw c.into_parts-error_sink.ensures.settings at c.in_ok-total.ensures.first in
    record {
      settings = search rules;
      first = (c.now-at.result, search rules, (c.in_ok-total.field-0.locked.core, begun));
      manager = search rules;
      clock = search rules;
      sink = search rules;
      customizer = search rules;
    }
