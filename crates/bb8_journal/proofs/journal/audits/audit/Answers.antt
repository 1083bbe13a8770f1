use Rattle.bb8_journal.proofs.Words.{◌≡◌, true, false, IsAccount, lines_noted}
use Rattle.bb8_journal.proofs.Accounts.{accounted, account_many, all_noted, seats_counted}
use Rattle.bb8_journal.proofs.journal.audits.audit.Goals as goal

pub returns-then-not-is_complete-clause-account : goal.returns-then-not-is_complete-clause-account
returns-then-not-is_complete-clause-account c = (
  λ no. cc,
  λ account.
      let yes : c.is_complete.result ≡ true = c.is_complete.ensures.1 account.complete in
      let no : c.is_complete.result ≡ false = c.if-not-is_complete.true in
      cc,
)

pub returns-then-not-are_as_many-clause-account : goal.returns-then-not-are_as_many-clause-account
returns-then-not-are_as_many-clause-account c = (
  λ no. cc,
  λ account.
      let yes : c.are_as_many.result ≡ true = c.are_as_many.ensures.1 (account_many c.args.entries.now c.args.notes.now account) in
      let no : c.are_as_many.result ≡ false = c.if-not-are_as_many.true in
      cc,
)

pub returns-clause-account : goal.returns-clause-account
returns-clause-account c = (
  λ yes.
      accounted c.args.entries.now c.args.notes.now (c.is_complete.ensures.0 c.if-not-is_complete.false)
      (c.are_as_many.ensures.0 c.if-not-are_as_many.false) (c.are_noted.ensures.0 yes),
  λ account. c.are_noted.ensures.1 (all_noted c.args.entries.now (lines_noted c.args.notes.now) account.each),
)

pub returns-clause-seats : goal.returns-clause-seats
returns-clause-seats c = λ yes seat.
    let account : IsAccount c.args.entries.now c.args.notes.now =
    accounted c.args.entries.now c.args.notes.now (c.is_complete.ensures.0 c.if-not-is_complete.false)
    (c.are_as_many.ensures.0 c.if-not-are_as_many.false) (c.are_noted.ensures.0 yes) in
    seats_counted c.args.entries.now c.args.notes.now account seat
