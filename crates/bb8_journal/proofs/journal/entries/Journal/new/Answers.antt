use Rattle.bb8_journal.proofs.Words.{List, sym, subst, ap, ◌∙◌, arith, endings_of, Entry, Settings, is_lawful, Replays}
use Rattle.bb8_types.specs.Settings.{settings_of}
use Rattle.bb8_journal.proofs.Histories.{replays_none}
use Rattle.bb8_journal.proofs.journal.entries.Journal.new.Goals as goal

pub invariant_of-result : goal.invariant_of-result
invariant_of-result g c =
    let few = ap endings_of c.new.ensures in
    record {
      lawful = ap is_lawful (sym c.requires.config) ∙ c.requires.lawful;
      replays = subst (λ (s : Settings). Replays s c.in_ok-history.history.items c.new.result) c.requires.config
          (subst (λ (xs : List Entry). Replays (settings_of c.args.config) xs c.new.result) (sym c.in_ok-history.ensures.empty)
          (replays_none (settings_of c.args.config) c.new.result c.new.ensures));
      counted = omega (arith, c.in_ok-history.ensures.len, c.requires.none);
      roomy = omega (arith, few, c.in_ok-history.ensures.len, c.in_ok-history.ensures.room);
      no_part = c.requires.no_part;
      no_amount = c.requires.no_amount;
    }

pub returns : goal.returns
returns g c = (c.in_ok-history.ensures.empty, c.new.ensures)
