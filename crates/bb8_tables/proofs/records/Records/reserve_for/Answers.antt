use Rattle.bb8_tables.proofs.Words.{ap, ◌∙◌, refl, arith, Buffer, Key, nat_tests}
use Rattle.bb8_tables.proofs.Views.{on_err}
use Rattle.bb8_tables.proofs.RecordPlaces.{kept_good, kept_view}
use Rattle.bb8_tables.proofs.records.Records.reserve_for.Goals as goal

pub invariant_of-self : goal.invariant_of-self
invariant_of-self g c = let r = c.reserve.ensures in grind (arith, nat_tests, kept_good c.reserve.new.self c.self.inside.peak c.self.invariant r.kept r.line r.births c.self.inside.unclaimed)

pub returns-in_err-reserve-clause-err : goal.returns-in_err-reserve-clause-err
returns-in_err-reserve-clause-err g c =
    let r = c.reserve.ensures in
    on_err c.from_residual.result (kept_view c.reserve.new.self c.self.inside.peak c.self.invariant r.kept r.line r.births c.self.inside.unclaimed refl ∙ c.self.view_is)

pub invariant_of-self-in_err-grow : goal.invariant_of-self-in_err-grow
invariant_of-self-in_err-grow g c = let r = c.reserve.ensures in grind (arith, nat_tests, kept_good c.reserve.new.self c.self.inside.peak c.self.invariant r.kept r.line r.births c.grow.new.self)

pub returns-in_err-grow-clause-err : goal.returns-in_err-grow-clause-err
returns-in_err-grow-clause-err g c =
    let r = c.reserve.ensures in
    on_err c.from_residual-in_err-grow.result
    (kept_view c.reserve.new.self c.self.inside.peak c.self.invariant r.kept r.line r.births c.grow.new.self (ap (λ (b : Buffer Key). b.items) c.in_err-grow.ensures.err) ∙ c.self.view_is)

pub invariant_of-self-2 : goal.invariant_of-self-2
invariant_of-self-2 g c = let r = c.reserve.ensures in grind (arith, nat_tests, kept_good c.reserve.new.self c.args.peak c.self.invariant r.kept r.line r.births c.grow.new.self)

pub returns-clause-ok : goal.returns-clause-ok
returns-clause-ok g c = let r = c.reserve.ensures in grind (arith, nat_tests, kept_view c.reserve.new.self c.args.peak c.self.invariant r.kept r.line r.births c.grow.new.self)
