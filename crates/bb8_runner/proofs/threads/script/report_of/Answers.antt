use Rattle.bb8_runner.proofs.Speech.{◌≡◌, ℕ, List, arith, ap, ◌∙◌, subst, length, Decides, figures_of}
use Rattle.bb8_journal.specs.declared.journal.entries.Entry.{Entry}
use Rattle.bb8_journal.specs.declared.journal.seats.Notes.{Notes}
use Rattle.bb8_journal.specs.Audit.{IsAccount}
use Rattle.bb8_runner.specs.Threads.{dealt_text}
use Rattle.bb8_runner.proofs.threads.script.report_of.Goals as goal

pub returns-clause-reported : goal.returns-clause-reported
returns-clause-reported g c =
    let run = c.in_ok-dealt.ensures.replays in
    let entries : List Entry = c.in_ok-dealt.dealt.entries.items in
    let notes : List Notes = c.in_ok-dealt.dealt.notes.items in
    let audited = c.audit-audited.result in
    record {
      entries = entries;
      notes = notes;
      last = run.0;
      allowed = run.1;
      counted = c.in_ok-dealt.ensures.counted;
      audited = audited;
      audits = subst (λ (ns : List Notes). Decides audited (IsAccount entries ns)) c.deref-3.ensures.value
          (subst (λ (es : List Entry). Decides audited (IsAccount es c.deref-3.result.now)) c.deref-2.ensures.value c.audit-audited.ensures.account);
      reported = c.in_ok-dealt_text.ensures
          ∙ ap (λ (n : ℕ). dealt_text n audited (figures_of c.state-last.result)) (let n : c.len.result ≡ length entries = omega (arith, c.len.ensures) in n)
          ∙ ap (dealt_text (length entries) audited) (c.state-last.ensures.figures run.0 run.2);
    }
