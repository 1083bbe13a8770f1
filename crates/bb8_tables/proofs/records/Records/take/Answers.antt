use Rattle.bb8_tables.proofs.Words.{◌≡◌, refl, ap, sym, ◌∙◌, get, first_of, place_with, RecordsView}
use Rattle.bb8_tables.specs.Machine as machine
use Rattle.bb8_tables.proofs.RecordPlaces.{take_good, take_view, taken_first, taken_connection}
use Rattle.bb8_tables.proofs.records.Records.take.Goals as goal
use Rattle.bb8_tables.proofs.records.Records.take.Goals.{in-Get, in-Guard, in-Idle, in_default-was}

pub invariant_of-self : goal.invariant_of-self
invariant_of-self g c =
    let out : c.match-holder.out ≡ place_with c.args.holder = elim c.match-holder.branch [ in-Guard w ↦ rw (w.out-is, w.in-Guard.is) refl | in-Get w ↦ rw (w.out-is, w.in-Get.is) refl ] in
    take_good c.args.strategy c.args.holder c.self.invariant c.in-Some.ensures c.put-number.ensures.number out c.leave.ensures c.put-number.ensures.changed

pub returns-clause-some : goal.returns-clause-some
returns-clause-some g c =
    let out : c.match-holder.out ≡ place_with c.args.holder = elim c.match-holder.branch [ in-Guard w ↦ rw (w.out-is, w.in-Guard.is) refl | in-Get w ↦ rw (w.out-is, w.in-Get.is) refl ] in
    elim c.match-was.branch [
      | in_default-was w ↦ rw w.result-is tt
      | in-Idle w ↦ rw w.result-is (
        ap (λ (s : RecordsView g.row.C.Denot). first_of c.args.strategy s.idle) (sym c.self.view_is)
            ∙ taken_first c.args.strategy c.args.holder c.self.invariant c.in-Some.ensures c.put-number.ensures.number out c.leave.ensures c.put-number.ensures.changed,
        (let was = taken_connection c.args.strategy c.args.holder c.self.invariant c.in-Some.ensures c.put-number.ensures.number out c.leave.ensures c.put-number.ensures.changed
            w.in-Idle.conn c.put-number.result.1 c.put-number.ensures.value w.in-Idle.is in
            (was.0, was.1, ap (λ (s : RecordsView g.row.C.Denot). get s.places c.put-number.result.0) (sym c.self.view_is) ∙ was.2)),
        take_view c.args.strategy c.args.holder c.self.invariant c.in-Some.ensures c.put-number.ensures.number out c.leave.ensures c.put-number.ensures.changed
            ∙ ap (machine.after_take (place_with c.args.holder) c.put-number.result.0) c.self.view_is,
      )
    ]
