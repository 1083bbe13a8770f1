use Rattle.bb8_core.proofs.Words.{ℕ, take, ◌+◌, sym, refl, subst, List, [], ◌∷◌, ◌++◌, get_or, ◌<◌, ◌≤◌, length, arith, Ledger, Later, KeepsLimits, KeepsLaws, KeepsPromises, IsRun, answer_of, opening, keeps_limits, keeps_laws, keeps_promises, Event, act_of, nat_tests}
use Rattle.bb8_ledger.specs.Handed.{IsOrderly}
use Rattle.bb8_ledger.proofs.Handed.{keeps_order}
use Rattle.std.proofs.lemmas.List.{take_all, take_more}
use Rattle.bb8_core.specs.declared.replay.events.Act.TheVariants as acts
use Rattle.bb8_core.specs.declared.replay.events.Answer.{Answer}
use Rattle.bb8_core.proofs.Runs.{run_more, run_legal, run_after, run_length}
use Rattle.bb8_core.proofs.replay.replay_from.Goals as goal

pub loop-event-init : goal.loop-event-init
loop-event-init c =
    let first : Ledger ℕ = opening c.args.config c.args.first_number c.args.first_get in
    (first, subst (λ (xs : List Answer). IsRun first [] xs first) (sym c.new-answers.ensures.items) refl, c.starting_at-pool.ensures)

pub loop-event-preserved : goal.loop-event-preserved
loop-event-preserved c =
    let first : Ledger ℕ = opening c.args.config c.args.first_number c.args.first_get in
    let i : ℕ = c.loop-event.event-index in
    let e : Event = get_or c.args.events.now i (record { at = record { 0 = 0 }; act = acts.Begin }) in
    let a : Answer = c.apply.result in
    let before = c.loop-event.invariant in
    let step = c.apply.ensures before.0 (run_legal first before.0 (take i c.args.events.now) c.loop-event.answers.items c.requires before.1) before.2 in
    let next : Ledger ℕ = Later before.0 e.at.0 (act_of before.0 e.act) (answer_of a) in
    let inside : i < length c.args.events.now = omega arith in
    let run : IsRun first (take i c.args.events.now ++ e ∷ []) (c.loop-event.answers.items ++ a ∷ []) next =
    run_more first before.0 (take i c.args.events.now) c.loop-event.answers.items e a before.1 step.0 in
    let grown : IsRun first (take (i + 1) c.args.events.now) (c.loop-event.answers.items ++ a ∷ []) next =
    subst (λ (xs : List Event). IsRun first xs (c.loop-event.answers.items ++ a ∷ []) next)
    (sym (take_more c.args.events.now i (record { at = record { 0 = 0 }; act = acts.Begin }) inside)) run in
    (next, subst (λ (xs : List Answer). IsRun first (take (i + 1) c.args.events.now) xs next) (sym c.in_ok-push.ensures.items) grown, step.1)

pub returns-clause-run : goal.returns-clause-run
returns-clause-run c =
    let first : Ledger ℕ = opening c.args.config c.args.first_number c.args.first_get in
    let last = c.loop-event.invariant in
    let past : length c.args.events.now ≤ c.loop-event.event-index = omega arith in
    (last.0, subst (λ (xs : List Event). IsRun first xs c.loop-event.answers.items last.0) (take_all c.loop-event.event-index c.args.events.now past) last.1, last.2)

pub returns-clause-answers : goal.returns-clause-answers
returns-clause-answers c = grind (arith, nat_tests, returns-clause-run c, run_length (opening c.args.config c.args.first_number c.args.first_get))

pub returns-clause-limits : goal.returns-clause-limits
returns-clause-limits c =
    let r = returns-clause-run c in
    run_after KeepsLimits keeps_limits (opening c.args.config c.args.first_number c.args.first_get) r.0 c.args.events.now c.loop-event.answers.items c.requires r.1

pub returns-clause-laws : goal.returns-clause-laws
returns-clause-laws c =
    let r = returns-clause-run c in
    run_after KeepsLaws keeps_laws (opening c.args.config c.args.first_number c.args.first_get) r.0 c.args.events.now c.loop-event.answers.items c.requires r.1

pub returns-clause-promises : goal.returns-clause-promises
returns-clause-promises c =
    let r = returns-clause-run c in
    run_after KeepsPromises keeps_promises (opening c.args.config c.args.first_number c.args.first_get) r.0 c.args.events.now c.loop-event.answers.items c.requires r.1

pub returns-clause-order : goal.returns-clause-order
returns-clause-order c =
    let r = returns-clause-run c in
    run_after IsOrderly keeps_order (opening c.args.config c.args.first_number c.args.first_get) r.0 c.args.events.now c.loop-event.answers.items c.requires r.1
