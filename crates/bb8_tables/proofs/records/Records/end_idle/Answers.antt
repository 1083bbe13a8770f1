use Rattle.bb8_tables.proofs.Words.{slice_get, sym, ap, ◌∙◌, get, offered_all, closed_in, RecordsView, arith, nat_tests}
use Rattle.bb8_tables.specs.Machine as machine
use Rattle.bb8_tables.proofs.ReapPlaces.{end_idle_none, idle_end_counted, idle_end_good, idle_end_view, idle_end_first, idle_end_listed}
use Rattle.bb8_tables.proofs.records.Records.end_idle.Goals as goal

pub overflow_sub-self : goal.overflow_sub-self
overflow_sub-self g c = idle_end_counted c.self.invariant c.in-Some.ensures c.close_idle_at-number.ensures.number c.close_idle_at-number.ensures.state

pub invariant_of-self : goal.invariant_of-self
invariant_of-self g c = idle_end_good c.self.invariant c.in-Some.ensures c.close_idle_at-number.ensures.number c.close_idle_at-number.ensures.state

pub returns-in_default-clause-none : goal.returns-in_default-clause-none
returns-in_default-clause-none g c = grind (arith, nat_tests, end_idle_none)

pub returns-clause-some : goal.returns-clause-some
returns-clause-some g c = (
  ap (λ (s : RecordsView g.row.C.Denot). slice_get s.idle 0) (sym c.self.view_is)
      ∙ idle_end_first c.self.invariant c.in-Some.ensures c.close_idle_at-number.ensures.number c.close_idle_at-number.ensures.state,
  idle_end_view c.self.invariant c.in-Some.ensures c.close_idle_at-number.ensures.number c.close_idle_at-number.ensures.state
      ∙ ap (machine.after_idle_end c.close_idle_at-number.result) c.self.view_is,
)

pub returns-clause-listed : goal.returns-clause-listed
returns-clause-listed g c =
    idle_end_listed c.self.invariant c.in-Some.ensures c.close_idle_at-number.ensures.number c.close_idle_at-number.ensures.state c.close_idle_at-number.ensures.listed
    ∙ ap (λ (s : RecordsView g.row.C.Denot). offered_all (closed_in c.close_idle_at-number.result (get s.places c.close_idle_at-number.result)) c.args.closed.now) c.self.view_is
