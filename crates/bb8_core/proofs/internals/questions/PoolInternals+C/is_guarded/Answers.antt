use Rattle.bb8_core.proofs.Words.{ap, ◌∙◌, sym, stands, is_guarded, view_of}
use Rattle.bb8_core.proofs.Fitting.{as_shown, shown_record}
use Rattle.bb8_core.proofs.internals.questions.PoolInternals+C.is_guarded.Goals as goal

pub returns : goal.returns
returns g c = λ l legal means. c.is_guarded-is_guarded.ensures.value ∙ sym (ap (stands is_guarded) (shown_record l (view_of c.self.inside) (as_shown l (sym c.self.view_is) means) c.args.k.number))
