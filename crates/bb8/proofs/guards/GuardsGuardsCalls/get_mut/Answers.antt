use Rattle.bb8.specs.GuardLists.{with_connection_at}
use Rattle.bb8.proofs.Lends.{same_list, same_read}
use Rattle.bb8.proofs.guards.GuardsGuardsCalls.get_mut.Goals as goal

pub returns : goal.returns
returns g c =
    let list = c.args.self.now in (
      same_read _ _ _ _ _ (λ w. same_list (with_connection_at list c.args.index w) _ _ _) (same_list list _ _ _),
      record { writes_back = tt; some = c.get_mut.ensures.variant; connection = c.get_mut.ensures.value },
    )
