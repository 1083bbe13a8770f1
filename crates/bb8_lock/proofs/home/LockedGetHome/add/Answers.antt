use Rattle.bb8_lock.proofs.CriticalSections.{add_sorted}
use Rattle.bb8_lock.proofs.home.LockedGetHome.add.Goals as goal

pub returns : goal.returns
returns g c =
    let sorted = add_sorted c.args.at.0 c.args.conn c.args.broken c.add.result c.add.ensures.step.0 in
    (c.args.self.now.settled, (c.add.ensures.step, c.add.ensures.connection, sorted))
