use Rattle.bb8_journal.proofs.Words.{arith, fresh}
use Rattle.std.proofs.lemmas.List.FromFn.{map-range_with_len_more}
use Rattle.bb8_journal.proofs.journal.shared.cut.Goals as goal

pub loop-number-preserved : goal.loop-number-preserved
loop-number-preserved g c =
    let more = map-range_with_len_more fresh 0 c.loop-number.number c.loop-number.number (omega arith) in
    record {
      seats = rw (more, ← c.loop-number.invariant.seats, ← c.new-seat.ensures) c.push_reserved.ensures.items;
      len = omega arith;
      parts = omega arith;
      amount = omega arith;
      room = omega arith;
    }
