use Rattle.std.proofs.Common.{sym, ◌∙◌, arith}
use Rattle.bb8_journal.proofs.Endings.{one_more, one_less}
use Rattle.bb8_journal.proofs.journal.entries.reserve_for.Goals as goal

pub returns-then-reserve-clause-room : goal.returns-then-reserve-clause-room
returns-then-reserve-clause-room c = λ yes answer after applies.
    let more = one_more c.args.pool.now c.args.event.at.0 c.args.event.act answer after c.limits.ensures.ledger.0 applies in
    let room = c.reserve.ensures.room c.if-reserve.true in
    omega arith

pub returns-then-is_ending-clause-room : goal.returns-then-is_ending-clause-room
returns-then-is_ending-clause-room c = λ yes answer after applies.
    let less = one_less c.args.pool.now c.args.event.at.0 c.args.event.act answer after c.limits.ensures.ledger.0 applies
    (λ l legal means. sym (c.fits.ensures.fits (λ k. k) l legal means) ∙ yes) (sym c.is_ending.ensures ∙ c.if-is_ending.true) in
    omega arith
