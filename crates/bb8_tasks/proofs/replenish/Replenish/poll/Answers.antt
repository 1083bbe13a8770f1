use Rattle.bb8_tasks.proofs.Words.{◌≡◌, false, refl, sym, ◌∙◌, arith, is_done}
use Rattle.bb8_tasks.proofs.replenish.Replenish.poll.Goals as goal

pub returns : goal.returns
returns g c =
    let open_yet : is_done c.args.self.now.stage ≡ false = sym c.is_done.ensures ∙ c.if-is_done.false in
    let went = rw c.replace-stage.ensures.value at c.proceed-answer.ensures in
    rw (open_yet, c.stand.ensures) (c.look-seen.result, c.look-seen.new.self, c.look-seen.ensures, omega arith, refl, went)
