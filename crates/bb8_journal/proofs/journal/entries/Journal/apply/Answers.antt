use Rattle.bb8_journal.proofs.Words.{List, sym, subst, arith, ◌∙◌, ap, ◌++◌, ◌∷◌, [], Replays, entry, Entry}
use Rattle.bb8_journal.proofs.Histories.{replays_more}
use Rattle.bb8_journal.proofs.journal.entries.Journal.apply.Goals as goal

pub push_reserved-requires : goal.push_reserved-requires
push_reserved-requires g c =
    let room = c.reserve_for.ensures.room c.if-not-reserve_for.false c.apply-answer.result c.apply-answer.new.pool c.apply-answer.ensures in
    omega arith

pub invariant_of-self-2 : goal.invariant_of-self-2
invariant_of-self-2 g c =
    let room = c.reserve_for.ensures.room c.if-not-reserve_for.false c.apply-answer.result c.apply-answer.new.pool c.apply-answer.ensures in
    let items = c.push_reserved.ensures.items ∙ ap (λ (xs : List Entry). xs ++ entry c.number.result c.args.event c.apply-answer.result ∷ []) c.reserve_for.ensures.items in
    record {
      lawful = c.self.invariant.lawful;
      replays = subst (λ (xs : List Entry). Replays g.L.Recorded.config xs c.apply-answer.new.pool) (sym items)
          (replays_more g.L.Recorded.config c.self.inside.history.items c.self.inside.pool c.apply-answer.new.pool c.number.result
          c.args.event c.apply-answer.result c.self.invariant.lawful c.self.invariant.replays c.apply-answer.ensures);
      counted = omega (arith, c.self.invariant.counted, c.reserve_for.ensures.len, c.push_reserved.ensures.len, c.count.ensures.total);
      roomy = omega (arith, room, c.push_reserved.ensures.len, c.push_reserved.ensures.capacity);
      no_part = c.self.invariant.no_part;
      no_amount = c.self.invariant.no_amount;
    }
