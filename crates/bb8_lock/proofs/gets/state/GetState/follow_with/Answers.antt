use Rattle.bb8_lock.proofs.gets.state.GetState.follow_with.Goals as goal

pub returns-in-Stand : goal.returns-in-Stand
returns-in-Stand g c =
    (_, c.deadline.result, c.tried.new.pool, c.deadline.ensures, c.in-Stand.ensures, (c.settle-answer.new.pool, rw c.stand.ensures c.settle-answer.ensures, c.go-in-Stand.ensures))
