use Rattle.std.proofs.Common.{Ok, Err, refl, subst}
use Rattle.futures.specs.declared.task.Poll.TheVariants.{Ready, Pending}
use Rattle.bb8_lock.specs.Traces.{Answers}
use Rattle.bb8_lock.specs.Scope.{OwnPolls}
use Rattle.bb8.proofs.get.future.GetFutureFuture.poll.Goals as goal

pub returns-in-Pending-clause-table : goal.returns-in-Pending-clause-table
returns-in-Pending-clause-table g c =
    rw c.yield_now.ensures.pending (Pending, (c.scope.result, c.in-Pending.ensures.0, c.scope.ensures, c.in-Pending.ensures.1), tt)

pub returns-in-Pending-clause-same : goal.returns-in-Pending-clause-same
returns-in-Pending-clause-same g c =
    rw c.yield_now.ensures.pending
    (λ x gives. (
      gives.0,
      Answers.later _ _ _ (c.scope.result, c.in-Pending.ensures.0, c.scope.ensures, c.in-Pending.ensures.1) gives.1,
      gives.2,
    ))

pub returns-in-Ok-clause-table : goal.returns-in-Ok-clause-table
returns-in-Ok-clause-table g c =
    let polled = subst (λ r. OwnPolls c.args.self.now.shared.now c.args.self.now.get.stage (Ready r) c.poll_with.new.self.stage) c.in-Ok.is
    (c.scope.result, c.in-Ready.ensures.0, c.scope.ensures, c.in-Ready.ensures.1) in
    (Ready (Ok c.in-Ok.taken), polled, (refl, refl))

pub returns-in-Ok-clause-value : goal.returns-in-Ok-clause-value
returns-in-Ok-clause-value g c =
    let polled = subst (λ r. OwnPolls c.args.self.now.shared.now c.args.self.now.get.stage (Ready r) c.poll_with.new.self.stage) c.in-Ok.is
    (c.scope.result, c.in-Ready.ensures.0, c.scope.ensures, c.in-Ready.ensures.1) in
    (Ok c.in-Ok.taken, Answers.now _ _ _ polled, (refl, refl))

pub returns-in-Err-clause-table : goal.returns-in-Err-clause-table
returns-in-Err-clause-table g c =
    let polled = subst (λ r. OwnPolls c.args.self.now.shared.now c.args.self.now.get.stage (Ready r) c.poll_with.new.self.stage) c.in-Err.is
    (c.scope.result, c.in-Ready.ensures.0, c.scope.ensures, c.in-Ready.ensures.1) in
    (Ready (Err c.in-Err.error), polled, refl)

pub returns-in-Err-clause-value : goal.returns-in-Err-clause-value
returns-in-Err-clause-value g c =
    let polled = subst (λ r. OwnPolls c.args.self.now.shared.now c.args.self.now.get.stage (Ready r) c.poll_with.new.self.stage) c.in-Err.is
    (c.scope.result, c.in-Ready.ensures.0, c.scope.ensures, c.in-Ready.ensures.1) in
    (Err c.in-Err.error, Answers.now _ _ _ polled, refl)
