use Rattle.bb8_core.proofs.Words.{◌∙◌, sym, view_of}
use Rattle.bb8_core.proofs.Fitting.{as_shown, shown_get}
use Rattle.bb8_core.proofs.internals.questions.PoolInternals+C.getting.Goals as goal

pub returns : goal.returns
returns g c = λ l means. c.getting-getting.ensures.value ∙ sym (shown_get l (view_of c.self.inside) (as_shown l (sym c.self.view_is) means) c.args.get.number)
