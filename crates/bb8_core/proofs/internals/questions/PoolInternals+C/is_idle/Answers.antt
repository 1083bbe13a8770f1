use Rattle.bb8_core.proofs.Words.{ap, ◌∙◌, sym, stands, is_idle, view_of}
use Rattle.bb8_core.proofs.Fitting.{as_shown, shown_record}
use Rattle.bb8_core.proofs.internals.questions.PoolInternals+C.is_idle.Goals as goal

pub returns : goal.returns
returns g c = λ l legal means. c.is_idle-is_idle.ensures.value ∙ sym (ap (stands is_idle) (shown_record l (view_of c.self.inside) (as_shown l (sym c.self.view_is) means) c.args.k.number))
