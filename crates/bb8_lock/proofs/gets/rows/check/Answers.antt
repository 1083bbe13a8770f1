use Rattle.std.proofs.Common.{Ok, refl}
use Rattle.futures.specs.declared.task.Poll.TheVariants.{Ready}
use Rattle.bb8_lock.proofs.gets.rows.check.Goals as goal

pub returns-in-Ok : goal.returns-in-Ok
returns-in-Ok g c = (
  Ready (Ok tt),
  c.poll_valid.new.connection,
  c.poll_valid.new.checking,
  c.poll_valid.new.self,
  rw c.in-Ready-Ok.field-0-is at c.in-Ready-Ok.ensures,
  tt,
  (c.end_check.new.self, c.end_check.ensures, (Ok c.in-Ok.passed, c.checked_ok.new.self, c.in-Ok.ensures, (refl, refl))),
)

pub returns-in-Err : goal.returns-in-Err
returns-in-Err g c = (
  Ready (Ok tt),
  c.poll_valid.new.connection,
  c.poll_valid.new.checking,
  c.poll_valid.new.self,
  rw c.in-Ready-Ok.field-0-is at c.in-Ready-Ok.ensures,
  tt,
  (c.end_check.new.self, c.end_check.ensures, (_, c.checked_ok.new.self, c.in-Err.ensures, (c.drop_it.ensures, refl))),
)
