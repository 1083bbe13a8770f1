use Rattle.bb8.proofs.owned.BareHandleOwnedCalls.let_go.Goals as goal

pub returns : goal.returns
returns g c = rw (← c.deref-shared.ensures) (_, _, c.scope.ensures, c.cancel_with.ensures.1)
