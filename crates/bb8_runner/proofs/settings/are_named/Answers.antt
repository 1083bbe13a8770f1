use Rattle.bb8_runner.proofs.Speech.{◌∙◌, rules, tests}
use Rattle.std.proofs.lemmas.Iterator.{YieldsList-from_slice}
use Rattle.std.proofs.lemmas.Iterator.Search.{any_from_yields_List}
use Rattle.bb8_runner.specs.Opening.{is_named}
use Rattle.bb8_runner.proofs.FirstLine.{any_of}
use Rattle.bb8_runner.proofs.settings.are_named.Goals as goal

pub returns : goal.returns
returns c =
    any_from_yields_List (λ f. is_named c.args.name.now f.now) _ _ _ c.any.ensures.ran (YieldsList-from_slice c.args.fields.now cc) (λ x b q k. search (rules, tests))
    ∙ any_of (is_named c.args.name.now) (λ f. f.now) c.args.fields.now
