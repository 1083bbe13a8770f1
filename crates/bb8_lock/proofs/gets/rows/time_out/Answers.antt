use Rattle.bb8_lock.proofs.gets.rows.time_out.Goals as goal

pub returns-in-Checking : goal.returns-in-Checking
returns-in-Checking g c =
    rw c.in-Checking.is (c.end_check.new.self, c.end_check.ensures, (c.ask-returned.result, c.ask-returned.new.pool, c.ask-returned.ensures, c.take_back.ensures))
