use Rattle.bb8_runner.proofs.Speech.{ℕ, List, map, subst, ap, ◌∙◌, figures_of, Event, Spells, output_of, settings_of, IsRun, opening}
use Rattle.bb8_runner.proofs.script.answer.Goals as goal

pub returns-in-Ok-clause-reported : goal.returns-in-Ok-clause-reported
returns-in-Ok-clause-reported c =
    let script = c.in-Ok.script in
    let answers = c.in_ok-answers-in-Ok.answers.items in
    let ran = c.in_ok-answers-in-Ok.ensures.run in
    let P : List (List ℕ) → Type 0 = λ lines. Spells lines (settings_of script.config) script.events.items in
    let Q : List Event → Type 0 = λ events. IsRun (opening script.config 0 0) events answers ran.0 in (
      settings_of script.config,
      script.events.items,
      subst P (ap (map (λ x. x.now)) c.as_slice.ensures.value ∙ c.in_ok-lines.ensures) c.in-Ok.ensures.read,
      record {
        answers = answers;
        last = ran.0;
        allowed = subst Q c.as_slice-in-Ok.ensures.value ran.1;
        reported = c.in_ok-text-in-Ok.ensures ∙ ap (λ given. output_of given (figures_of c.state.result)) c.as_slice-in-Ok-2.ensures.value ∙ ap (output_of answers) (c.state.ensures.figures ran.0 ran.2);
      },
    )
