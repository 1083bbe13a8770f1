use Rattle.std.proofs.Common.{refl}
use Rattle.bb8_lock.proofs.gets.rows.fail.Goals as goal

pub returns-in-Ok : goal.returns-in-Ok
returns-in-Ok g c =
    let dropped = rw c.closed.ensures at c.drop_it.ensures in (
      c.sink.new.self,
      c.sink.ensures,
      (c.ask-returned.result, c.ask-returned.new.pool, c.ask-returned.ensures, (_, c.checked_err.new.self, c.in-Ok.ensures, (dropped, refl))),
    )
