use Rattle.bb8_journal.proofs.Words.{◌≡◌, true, false, refl, sym, subst, List, length, ◌≤◌, arith, All, Contains, take_all, All-contains, Entry, lines_from, lines_noted}
use Rattle.bb8_journal.proofs.Accounts.{line_in, more_noted}
use Rattle.bb8_journal.proofs.journal.audits.are_noted.Goals as goal

pub returns-then-not-is_noted : goal.returns-then-not-is_noted
returns-then-not-is_noted c = (
  λ no. cc,
  λ all.
      let yes : c.is_noted.result ≡ true =
      c.is_noted.ensures.1 (All-contains (Contains (lines_noted c.args.notes.now)) (lines_from 0 c.args.entries.now) _ all
      (subst (λ (e : Entry). Contains (lines_from 0 c.args.entries.now) (c.loop-index.index, (e.seat, e.answer))) (sym c.index-entries-index.is)
      (line_in 0 c.loop-index.index c.loop-index.index c.args.entries.now c.index-entries-index.result (omega arith) (omega arith)))) in
      let no : c.is_noted.result ≡ false = c.if-not-is_noted.true in
      cc,
)

pub loop-index-preserved : goal.loop-index-preserved
loop-index-preserved c =
    more_noted (lines_noted c.args.notes.now) c.args.entries.now c.loop-index.index c.index-entries-index.result (omega arith)
    c.loop-index.invariant
    (subst (λ (e : Entry). Contains (lines_noted c.args.notes.now) (c.loop-index.index, (e.seat, e.answer))) c.index-entries-index.is
    (c.is_noted.ensures.0 c.if-not-is_noted.false))

pub returns : goal.returns
returns c =
    let past : length c.args.entries.now ≤ c.loop-index.index = omega arith in
    (λ _. subst (λ (es : List Entry). All (Contains (lines_noted c.args.notes.now)) (lines_from 0 es)) (take_all c.loop-index.index c.args.entries.now past) c.loop-index.invariant, λ _. refl)
