use Rattle.bb8_runner.proofs.Speech.{◌≡◌, ◌⊎◌, ◌∙◌, ℕ, List, Option, Some, None, refl, subst, sym}
use Rattle.std.specs.Prelude.{IfSome}
use Rattle.bb8_runner.specs.Words.{Appends, Bad, Verdict}
use Rattle.bb8_runner.specs.Threads.{IsThreadsAnswer}
use Rattle.bb8_runner.proofs.Messages.{told}
use Rattle.bb8_runner.proofs.threads.script.run_threads.Goals as goal

pub returns-clause-explained : goal.returns-clause-explained
returns-clause-explained g c = λ e.
    let bad : c.in_ok-verdict.verdict ≡ Bad = cc in
    told (g.R.Source.remaining c.args.reader.now) c.in_ok-input.input.items c.as_slice.result.now _ c.as_bytes-2.result.now
    (λ x. Appends (g.E.Sink.contents c.args.errors.now) (g.E.Sink.contents c.explain.new.errors) x ⊎ g.E.Sink.write_fails c.args.errors.now x c.explain.new.errors)
    c.in_ok-input.ensures.bytes c.as_slice.ensures.value c.as_bytes-2.ensures.value (c.in_ok-verdict.ensures.error bad) (c.explain.ensures.bad bad)

-- what was not written whole is the answer, for an input that is known
unwritten : (known : Option (List ℕ)) (items input bytes text : List ℕ) (verdict : Verdict) → IfSome known (λ b. items ≡ b) → input ≡ items → text ≡ bytes
    → IsThreadsAnswer input verdict bytes → IfSome known (λ b. (v : Verdict) × IsThreadsAnswer b v text)
unwritten None items input bytes text verdict h e f is = tt
unwritten (Some b) items input bytes text verdict h e f is =
    (verdict, subst (λ xs. IsThreadsAnswer xs verdict text) (e ∙ h) (subst (λ t. IsThreadsAnswer input verdict t) (sym f) is))

pub returns-in_err-write_whole-clause-write_failed : goal.returns-in_err-write_whole-clause-write_failed
returns-in_err-write_whole-clause-write_failed g c = λ e. (
  c.as_bytes.result.now,
  c.in_err-write_whole.ensures.failed refl,
  unwritten (g.R.Source.remaining c.args.reader.now) c.in_ok-input.input.items c.as_slice.result.now _ c.as_bytes.result.now c.in_ok-verdict.verdict
      c.in_ok-input.ensures.bytes c.as_slice.ensures.value c.as_bytes.ensures.value c.in_ok-verdict.ensures.reported,
)
