use Rattle.bb8_tables.proofs.Words.{◌≡◌, ℕ, false, Option, Some, None, refl, sym, ap, ◌∙◌, Waiting, get_in_wait, first_or}
use Rattle.std.specs.Option.{unwrap_or}
use Rattle.bb8_tables.proofs.Tables
use Rattle.bb8_tables.proofs.table.Table+Getting.wait.Goals as goal

same_first : (now : ℕ) (o : Option ℕ) → first_or now o ≡ unwrap_or o now
same_first now None = refl
same_first now (Some t) = refl

pub invariant_of-self : goal.invariant_of-self
invariant_of-self c = Tables.restood_good c.self.inside c.self.invariant c.args.self.now c.self.view_is c.args.at c.requires.stands _

pub returns-clause-changed : goal.returns-clause-changed
returns-clause-changed c = Tables.restood_view c.self.inside c.self.invariant c.args.self.now c.self.view_is c.args.at c.requires.stands c.index_mut.result.now
    (record { place = Waiting false; first_wait = Some c.unwrap_or.result }) (λ s. get_in_wait c.args.now s) c.index_mut.ensures.value
    (ap (λ (n : ℕ). record { place = Waiting false; first_wait = Some n }) (c.unwrap_or.ensures ∙ sym (same_first c.args.now c.index_mut.result.now.standing.first_wait)))
