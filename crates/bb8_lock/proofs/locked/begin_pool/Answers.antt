use Rattle.bb8_lock.proofs.Words.{◌≡◌, sym, ap, ◌∙◌, arith, Settings, settings_of, opening_with, out_of}
use Rattle.bb8_core.specs.StateView.{StateView}
use Rattle.bb8_lock.proofs.CriticalSections.{first_numbers}
use Rattle.bb8_lock.proofs.locked.begin_pool.Goals as goal

pub lay_out_permits-total-requires-clause-parts : goal.lay_out_permits-total-requires-clause-parts
lay_out_permits-total-requires-clause-parts g c = rw (c.fill-grant.ensures.bounds.config ∙ ap (λ (s : StateView _). s.config) (sym c.new-core.ensures)) c.requires.parts

pub lay_out_permits-total-requires-clause-same : goal.lay_out_permits-total-requires-clause-same
lay_out_permits-total-requires-clause-same g c = ap (λ (s : Settings). s.max_size) (c.fill-grant.ensures.bounds.config ∙ ap (λ (s : StateView _). s.config) (sym c.new-core.ensures))

pub lay_out_permits-total-requires-clause-none_out : goal.lay_out_permits-total-requires-clause-none_out
lay_out_permits-total-requires-clause-none_out g c = let none : out_of c.new-core.result ≡ 0 = ap out_of (sym c.new-core.ensures) in omega arith

pub returns-clause-first : goal.returns-clause-first
returns-clause-first g c =
    let step = c.fill-grant.ensures.step.1 (opening_with (settings_of c.args.config) 0 0) c.requires.lawful c.new-core.ensures in
    (omega arith, step.0, rw c.lay_out_permits-total.ensures.state step.1)

pub returns-clause-numbers : goal.returns-clause-numbers
returns-clause-numbers g c =
    let step = c.fill-grant.ensures.step.1 (opening_with (settings_of c.args.config) 0 0) c.requires.lawful c.new-core.ensures in
    first_numbers {C = g.row.C.Denot} c.args.config c.args.at.0 c.args.claimed c.fill-grant.result step.0
