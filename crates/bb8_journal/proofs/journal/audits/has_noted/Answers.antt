use Rattle.std.proofs.lemmas.Bool.Decides.{Decides-like}
use Rattle.bb8_journal.proofs.Accounts.{noted_line, line_noted}
use Rattle.bb8_journal.proofs.journal.audits.has_noted.Goals as goal

pub returns : goal.returns
returns c =
    let same = c.if-notes-entry.false in
    Decides-like _
    (noted_line c.args.notes.now c.args.index c.args.entry.seat c.args.entry.answer same)
    (λ h. (line_noted c.args.notes.now c.args.index c.args.entry.seat c.args.entry.answer h).1)
    (rw (← c.deref.ensures.value) c.has_note.ensures)

pub returns-then-notes-entry : goal.returns-then-notes-entry
returns-then-notes-entry c = (λ no. cc, λ h. absurd (c.if-notes-entry.true (line_noted c.args.notes.now c.args.index c.args.entry.seat c.args.entry.answer h).0))
