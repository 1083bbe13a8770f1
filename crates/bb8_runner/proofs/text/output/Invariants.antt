use Rattle.bb8_runner.proofs.Speech.{◌≡◌, take, answer_text, line}
use Rattle.std.specs.Prelude.{string_bytes, flat_map}
use Rattle.bb8_runner.proofs.text.output.Given as goal

abbrev pub invariant-loop-answer : goal.invariant-loop-answer
invariant-loop-answer l = string_bytes l.text ≡ flat_map (λ a. line (answer_text a)) (take l.answer-index l.answers)
