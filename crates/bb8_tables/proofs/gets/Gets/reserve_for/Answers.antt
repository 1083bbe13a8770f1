use Rattle.bb8_tables.proofs.Words.{◌+◌, ◌∙◌, arith, nat_tests}
use Rattle.bb8_tables.proofs.GetPlaces.{kept_good, kept_view}
use Rattle.bb8_tables.proofs.Views.{on_err}
use Rattle.bb8_tables.proofs.gets.Gets.reserve_for.Goals as goal

pub invariant_of-self : goal.invariant_of-self
invariant_of-self c =
    grind (arith, nat_tests, kept_good c.reserve.new.self c.self.inside.peak c.self.invariant c.reserve.ensures.kept c.reserve.ensures.line c.self.invariant.sizes.peak_holds)

pub returns-in_err-reserve-clause-err : goal.returns-in_err-reserve-clause-err
returns-in_err-reserve-clause-err c =
    let r = c.reserve.ensures in
    on_err c.from_residual.result (kept_view c.reserve.new.self c.self.inside.peak c.self.invariant r.kept r.line ∙ c.self.view_is)

pub invariant_of-self-2 : goal.invariant_of-self-2
invariant_of-self-2 c = grind (arith, nat_tests, kept_good c.reserve.new.self (c.self.inside.peak + 1) c.self.invariant c.reserve.ensures.kept c.reserve.ensures.line)

pub returns-clause-ok : goal.returns-clause-ok
returns-clause-ok c = grind (arith, nat_tests, kept_view c.reserve.new.self (c.self.inside.peak + 1) c.self.invariant c.reserve.ensures.kept c.reserve.ensures.line)
