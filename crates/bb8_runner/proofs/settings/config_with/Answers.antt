use Rattle.bb8_runner.proofs.Speech.{◌∙◌, sym, arith, settings_of}
use Rattle.bb8_runner.proofs.FirstLine.{stops, goes, ends}
use Rattle.bb8_runner.proofs.settings.config_with.Goals as goal

pub returns-in-Err-clause-read : goal.returns-in-Err-clause-read
returns-in-Err-clause-read c = stops c.args.fields.now c.loop-i.i _ (settings_of c.loop-i.config) _ c.loop-i-test.true c.in-Err.ensures ∙ c.loop-i.invariant

pub loop-i-preserved : goal.loop-i-preserved
loop-i-preserved c =
    goes c.args.fields.now c.loop-i.i _ (settings_of c.loop-i.config) (settings_of c.in-Ok.more) c.loop-i-test.true c.in-Ok.ensures ∙ c.loop-i.invariant

pub returns-clause-read : goal.returns-clause-read
returns-clause-read c = c.if_lawful.ensures.read ∙ sym (ends c.args.fields.now c.loop-i.i (settings_of c.loop-i.config) (omega arith)) ∙ c.loop-i.invariant
