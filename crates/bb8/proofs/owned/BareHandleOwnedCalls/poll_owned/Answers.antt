use Rattle.bb8.proofs.owned.BareHandleOwnedCalls.poll_owned.Goals as goal

pub returns : goal.returns
returns g c = rw (← c.deref-shared.ensures) (_, _, c.scope.ensures, c.poll_with.ensures.1)
