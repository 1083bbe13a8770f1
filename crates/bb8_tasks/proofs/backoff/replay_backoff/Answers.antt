use Rattle.bb8_tasks.proofs.Words.{◌≡◌, ◌*◌, ◌^◌, ◌<◌, ◌≤◌, length, false, IfOk, subst, arith, as_nanos, IsBounded, IsReached, Task, first_task, Runs, Plays}
use Rattle.std.proofs.lemmas.Result.{IfOk-weaker}
use Rattle.bb8_tasks.specs.declared.backoff.Backoff.{Backoff}
use Rattle.bb8_tasks.proofs.Counting.{bounded, at_most_one, at_least_one}
use Rattle.bb8_tasks.proofs.Driving.{reached}
use Rattle.bb8_tasks.proofs.Playing.{run_length}
use Rattle.bb8_tasks.proofs.backoff.replay_backoff.Goals as goal

pub returns : goal.returns
returns c =
    let timeout = as_nanos c.args.config.connection_timeout in
    let retry = c.args.config.retry_connection in
    let polls = c.args.polls.now in
    let played = c.play_all-played.result in
    let last : Task = c.play_all-played.new.task in
    let fits : timeout < 2 ^ 64 * 1_000_000_000 = omega arith in
    let run : Backoff → Type 0 = λ b. Runs timeout retry first_task polls b.answers.items b.tries last in
    let ran : IfOk played run = subst (λ (t : Task). IfOk played (λ b. Runs timeout retry t polls b.answers.items b.tries last)) c.new-task.ensures c.play_all-played.ensures in
    record {
      run = IfOk-weaker played run (λ b. Plays timeout retry polls b.answers.items b.tries) (λ b r. (last, r)) ran;
      answers = IfOk-weaker played run (λ b. length b.answers.items ≡ length polls) (λ b r. run_length timeout retry first_task polls b.answers.items b.tries last r) ran;
      bounded = IfOk-weaker played run (λ b. IsBounded timeout b.tries) (λ b r. bounded timeout retry polls b.answers.items b.tries fits (last, r)) ran;
      reached = IfOk-weaker played run (λ b. IsReached timeout retry polls b.tries) (λ b r. reached timeout retry polls b.answers.items b.tries fits (last, r)) ran;
      once = IfOk-weaker played run (λ b. retry ≡ false → b.tries ≤ 1) (λ b r off. at_most_one timeout retry off polls b.answers.items b.tries (last, r)) ran;
      begun = IfOk-weaker played run (λ b. 0 < length polls → 1 ≤ b.tries) (λ b r some. at_least_one timeout retry polls b.answers.items b.tries some (last, r)) ran;
    }
