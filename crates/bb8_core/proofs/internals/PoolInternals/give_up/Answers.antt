use Rattle.bb8_core.proofs.Words.{arith, refl, sym, ◌∙◌, ap, Option, None, gets_stand, Getting, is_notified, is_trying, nat_tests, first_wait_of, view_of, reason_of}
use Rattle.bb8_ledger.specs.Acts as acts
use Rattle.bb8_core.proofs.Fitting.{ended_few, fits_give_up, unfit_give_up}
use Rattle.bb8_core.proofs.Meets.{meets_given_up}
use Rattle.bb8_core.proofs.Steps.{led}
use Rattle.bb8_core.proofs.GetEnds.{given_up_is}
use Rattle.bb8_core.proofs.Rows.{made}
use Rattle.bb8_core.proofs.Runs.{unfit_gets}
use Rattle.bb8_core.proofs.internals.PoolInternals.give_up.Goals as goal

pub returns-in_default-clause-step : goal.returns-in_default-clause-step
returns-in_default-clause-step g c = unfit_gets c.args.at.0 (acts.GiveUp c.args.get.number (reason_of c.args.reason) None c.args.broken) c.self.view_is c.self.invariant.0
    (unfit_give_up (view_of c.self.inside) c.args.get.number (reason_of c.args.reason) c.args.broken c.in_default.ensures.none.0) c.in_default.ensures.none.1

pub give_up-requires : goal.give_up-requires
give_up-requires g c = grind (arith, nat_tests, ended_few (view_of c.self.inside) c.args.get.number c.self.invariant.0)

pub returns-clause-step : goal.returns-clause-step
returns-clause-step g c =
    let ended = c.in-Some.ensures.some in
    made c.self.view_is c.self.invariant.0 c.max-now.ensures
    (meets_given_up c.args.reason c.args.broken c.self.inside.counters
    (fits_give_up (view_of c.self.inside) c.args.get.number (reason_of c.args.reason) c.args.broken (ap (gets_stand is_trying) ended.0 ∙ ended.1))
    ended.2 (c.is_notified.ensures ∙ ap (gets_stand is_notified) (sym ended.0))
    c.notify_next_if-heir.ensures.value c.notify_next_if-heir.ensures.state refl (ap (λ (o : Option Getting). first_wait_of o) (sym ended.0))
    (given_up_is c.args.reason c.max-now.result c.in-Some.getting.first_wait c.give_up.ensures.timed_out c.give_up.ensures.cancelled))

pub invariant_of-self-2 : goal.invariant_of-self-2
invariant_of-self-2 g c = (led _ c.args.at.0 (acts.GiveUp c.args.get.number (reason_of c.args.reason) None c.args.broken) _ (returns-clause-step g c).0, c.self.invariant.1)
