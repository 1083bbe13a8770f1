-- The words that the proofs speak with.
pub use Rattle.bb8_tasks.proofs.Words.{◌≡◌, ℕ, suc, ◌+◌, ◌≤◌, ◌<◌, Bool, true, false, Option, Some, None, List, [], ◌∷◌, ◌++◌, length, take, get_or, refl, sym, ◌∙◌, ap, subst, arith, append_assoc, add-one, ◌-◌, Result, append-nil, Poll, Moment, deque_len}
pub use Rattle.std.proofs.Common.{inl, inr, ◌==◌, cond, OnSome, drop, drop-cons, take-suc, eqb-true, ne_eqb}
pub use Rattle.slots.specs.declared.entries.JobEntry.{JobEntry}
pub use Rattle.slots.specs.declared.entries.JobPlace.{JobPlace}
pub use Rattle.slots.specs.declared.entries.JobPlace.TheVariants.{Waiting, Ended}
pub use Rattle.slots.specs.Entries.{AreIds, ids, guards_for, running, place_of, outcome_of, left_after, without}
pub use Rattle.slots.specs.Turns.{JobSteps, StepsEach, StepsFirst}
pub use Rattle.bb8.specs.GuardLists.{most_in, number_in, AreOfOne}
pub use Rattle.bb8.specs.Gets.{PollsGet}
pub use Rattle.slots.specs.Guards.{GivesBack}
