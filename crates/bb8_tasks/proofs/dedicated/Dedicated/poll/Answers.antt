use Rattle.std.proofs.Common.{◌≡◌, false, sym, ◌∙◌, arith}
use Rattle.bb8_tasks.specs.Dedicating.{is_done}
use Rattle.bb8_tasks.proofs.dedicated.Dedicated.poll.Goals as goal

pub returns : goal.returns
returns g c =
    let open_yet : is_done c.args.self.now.stage ≡ false = sym c.is_done.ensures ∙ c.if-is_done.false in
    let went = rw c.replace-stage.ensures.value at c.advance-answer.ensures in
    rw (open_yet, c.stand.ensures) (c.now-at.result, c.now-at.new.self, c.now-at.ensures, omega arith, went)
