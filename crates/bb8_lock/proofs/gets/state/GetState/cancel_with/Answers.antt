use Rattle.std.proofs.Common.{inl, inr, refl}
use Rattle.bb8_lock.proofs.gets.state.GetState.cancel_with.Goals as goal

-- src/state.rt
pub returns-in-Fresh : goal.returns-in-Fresh
returns-in-Fresh g c = (c.args.pool, elim c.in-Fresh.is [ inl e ↦ rw e refl | inr e ↦ rw e refl ], c.go.ensures)
