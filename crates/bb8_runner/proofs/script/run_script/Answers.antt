use Rattle.bb8_runner.proofs.Speech.{◌≡◌, ◌⊎◌}
use Rattle.bb8_runner.specs.Words.{Appends, Bad}
use Rattle.bb8_runner.proofs.Messages.{told}
use Rattle.bb8_runner.proofs.script.run_script.Goals as goal

pub returns-clause-explained : goal.returns-clause-explained
returns-clause-explained g c = λ e.
    let bad : c.in_ok-verdict.verdict ≡ Bad = cc in
    told (g.R.Source.remaining c.args.reader.now) c.in_ok-input.input.items c.as_slice.result.now _ c.as_bytes-2.result.now
    (λ x. Appends (g.E.Sink.contents c.args.errors.now) (g.E.Sink.contents c.explain.new.errors) x ⊎ g.E.Sink.write_fails c.args.errors.now x c.explain.new.errors)
    c.in_ok-input.ensures.bytes c.as_slice.ensures.value c.as_bytes-2.ensures.value (c.in_ok-verdict.ensures.error bad) (c.explain.ensures.bad bad)
