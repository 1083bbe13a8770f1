use Rattle.bb8_tables.proofs.Words.{sym, ap, ◌∙◌, slice_get, idles_out, settings_of, RecordsView, arith, nat_tests}
use Rattle.bb8_tables.proofs.TablePlaces.{number_at}
use Rattle.bb8_tables.proofs.ReapPlaces.{freed_counted, freed_good, freed_due}
use Rattle.bb8_tables.proofs.ReapWalks.{first_idle, first_not_due, none_in_line}
use Rattle.bb8_tables.proofs.records.Records.reap_first.Goals as goal

pub returns-in_default-clause-ends : goal.returns-in_default-clause-ends
returns-in_default-clause-ends g c = grind (arith, nat_tests, none_in_line (settings_of c.args.config.now) c.args.now c.self.inside c.self.invariant)

pub returns-then-not-due-clause-ends : goal.returns-then-not-due-clause-ends
returns-then-not-due-clause-ends g c = grind (arith, nat_tests, first_not_due (settings_of c.args.config.now) c.args.now c.self.inside c.in-Some.place c.at.result.now c.self.invariant)

pub overflow_sub-self : goal.overflow_sub-self
overflow_sub-self g c = freed_counted _ c.self.invariant c.at.ensures.value (first_idle c.self.invariant (sym c.in-Some.ensures) c.at.ensures.value) c.close_idle_at.ensures.state

pub invariant_of-self : goal.invariant_of-self
invariant_of-self g c = freed_good _ c.self.invariant c.at.ensures.value (first_idle c.self.invariant (sym c.in-Some.ensures) c.at.ensures.value) c.close_idle_at.ensures.state

pub returns-clause-ends : goal.returns-clause-ends
returns-clause-ends g c = (
  c.at.result.now.number,
  ap (λ (s : RecordsView g.row.C.Denot). slice_get s.idle 0) (sym c.self.view_is) ∙ number_at c.self.inside.slots.slots c.self.inside.slots.line 0 (sym c.in-Some.ensures) c.at.ensures.value,
  freed_due _ c.self.invariant c.at.ensures.value (first_idle c.self.invariant (sym c.in-Some.ensures) c.at.ensures.value) c.close_idle_at.ensures.state
      (idles_out (settings_of c.args.config.now) c.args.now) c.self.view_is
      (sym c.idles_out-due.ensures ∙ c.if-not-due.false) (c.close_idle_at.ensures.listed c.at.result.now c.at.ensures.value),
)
