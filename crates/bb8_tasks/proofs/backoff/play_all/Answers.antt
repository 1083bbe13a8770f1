use Rattle.bb8_tasks.proofs.Words.{◌≡◌, ℕ, ◌+◌, ◌<◌, ◌≤◌, List, [], ◌∷◌, ◌++◌, length, get_or, take, subst, sym, arith, take_more, take_all, as_nanos, Moment, Reply, ReplenishAnswer, Task, Runs}
use Rattle.bb8_tasks.specs.declared.backoff.Reply.TheVariants as replies
use Rattle.bb8_tasks.proofs.Moving.{tried-most}
use Rattle.bb8_tasks.proofs.Playing.{run_more}
use Rattle.bb8_tasks.proofs.backoff.play_all.Goals as goal

pub loop-at-preserved : goal.loop-at-preserved
loop-at-preserved c =
    let timeout = as_nanos c.args.config.now.connection_timeout in
    let retry = c.args.config.now.retry_connection in
    let i : ℕ = c.loop-at.at-index in
    let none : Moment × Reply = (record { 0 = 0 }, replies.Pending) in
    let p : Moment × Reply = get_or c.args.polls.now i none in
    let a : ReplenishAnswer (Unit {0}) = c.play-answer.result.0 in
    let tried : ℕ = c.play-answer.result.1 in
    let before : Task = c.loop-at.task in
    let runs : List (Moment × Reply) → List (ReplenishAnswer (Unit {0})) → ℕ → Type 0 = λ polls answers tries. Runs timeout retry c.args.task.now polls answers tries c.play-answer.new.task in
    let most = tried-most timeout retry p before tried a c.play-answer.new.task c.play-answer.ensures in
    let inside : i < length c.args.polls.now = omega arith in
    let count : c.from-tries.result ≡ tried = omega arith in
    let run : runs (take i c.args.polls.now ++ p ∷ []) (c.loop-at.answers.items ++ a ∷ []) (c.loop-at.tries + tried) =
    run_more timeout retry c.args.task.now (take i c.args.polls.now) c.loop-at.answers.items c.loop-at.tries before p a tried c.play-answer.new.task c.loop-at.invariant.0 c.play-answer.ensures
    in
    let grown : runs (take (i + 1) c.args.polls.now) (c.loop-at.answers.items ++ a ∷ []) (c.loop-at.tries + tried) =
    subst (λ (xs : List (Moment × Reply)). runs xs (c.loop-at.answers.items ++ a ∷ []) (c.loop-at.tries + tried)) (sym (take_more c.args.polls.now i none inside)) run
    in
    let counted : runs (take (i + 1) c.args.polls.now) (c.loop-at.answers.items ++ a ∷ []) (c.loop-at.tries + c.from-tries.result) =
    subst (λ (n : ℕ). runs (take (i + 1) c.args.polls.now) (c.loop-at.answers.items ++ a ∷ []) (c.loop-at.tries + n)) (sym count) grown
    in
    (subst (λ (xs : List (ReplenishAnswer (Unit {0}))). runs (take (i + 1) c.args.polls.now) xs (c.loop-at.tries + c.from-tries.result)) (sym c.in_ok-push.ensures.items) counted, omega arith)

pub returns : goal.returns
returns c =
    let timeout = as_nanos c.args.config.now.connection_timeout in
    let retry = c.args.config.now.retry_connection in
    let past : length c.args.polls.now ≤ c.loop-at.at-index = omega arith in
    let runs : List (Moment × Reply) → Type 0 = λ polls. Runs timeout retry c.args.task.now polls c.loop-at.answers.items c.loop-at.tries c.loop-at.task in
    subst runs (take_all c.loop-at.at-index c.args.polls.now past) c.loop-at.invariant.0
