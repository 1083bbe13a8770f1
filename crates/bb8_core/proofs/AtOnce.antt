-- A begin and a try in one step.
use Rattle.bb8_core.proofs.Words.{arith, refl, sym, ◌∙◌, ap, ℕ, ◌≡◌, ◌+◌, subst, Some, true, Bool, Option, None, ◌<◌, cond, max, gets_stand, Getting, end_of_numbers, Begin, Active, Try, first_of, Begun, is_trying, inr, inl, get, get_inserted, eqb_self, same_gets, GetsView, StateView, HasLedger, IsFitting, Steps}
use Rattle.bb8_tables.specs.Machine as machine
use Rattle.bb8_core.specs.Decided as decided
use Rattle.bb8_core.specs.declared.answers.TryAnswer.{TryAnswer}
use Rattle.bb8_core.specs.StepAnswers.{answer_of_try, HandsOut, NotAtOnce}
use Rattle.bb8_core.proofs.Fitting.{unexamined}
use Rattle.bb8_core.proofs.Runs.{shown_try}
use Rattle.bb8_core.proofs.Meets.{Meets, Tries, meets_begun}
use Rattle.bb8_core.proofs.Steps.{led}
use Rattle.bb8_core.proofs.Rows.{at_view}

-- a get that has begun
abbrev pub fresh : Getting
fresh = record { place = Active; first_wait = None }

-- memory was reserved for one more get, which changes no begin
roomy : (s : GetsView) → machine.after_begin (record s { peak = max s.peak (s.alive + 1) }) ≡ machine.after_begin s
roomy s = same_gets _ _ refl refl refl refl (omega arith)

-- a get that was born in its present state was begun in the state between
pub begun_at : (s : GetsView) {room gs : GetsView} (f : ℕ → GetsView → GetsView) → room ≡ record s { peak = max s.peak (s.alive + 1) }
    → gs ≡ f room.next (machine.after_begin room) → gs ≡ f s.next (machine.after_begin s)
begun_at s f room_is gs_is = gs_is ∙ ap (λ (x : GetsView). f x.next (machine.after_begin x)) room_is ∙ ap (f s.next) (roomy s)

module _ {C : Type 0} where
  -- the one that is first is checked, or none is first
  pub first_checked : (s : StateView C) (at : ℕ) → ((k : ℕ) → first_of s.config.queue_strategy s.records.idle ≡ Some k → decided.asks_check s at k ≡ true) → NotAtOnce s at
  first_checked s at checked = go (first_of s.config.queue_strategy s.records.idle) refl
    where
      go : (o : Option ℕ) → first_of s.config.queue_strategy s.records.idle ≡ o → NotAtOnce s at
      go None e = inr (inl e)
      go (Some k) e = inl (k, e, checked k e)

  -- the state between the begin and the try
  abbrev pub between : StateView C → ℕ → StateView C
  between s now = record s { latest = now; gets = machine.after_begin s.gets; counts = record s.counts { started = s.counts.started + 1 } }

  stands_new : (s : StateView C) (now : ℕ) → get (between s now).gets.places s.gets.next ≡ Some fresh
  stands_new s now = get_inserted s.gets.places s.gets.next fresh s.gets.next ∙ ap (λ (b : Bool). cond b (Some fresh) (get s.gets.places s.gets.next)) (eqb_self s.gets.next)

  pub tries_new : (s : StateView C) (now : ℕ) → Tries (between s now) s.gets.next (Some fresh)
  tries_new s now = record { fit = λ l legal means. shown_try l (between s now) s.gets.next means ∙ ap (gets_stand is_trying) (stands_new s now); get_is = sym (stands_new s now) }

  -- The begin, and the try from the state between on.
  pub both : {s t new : StateView C} {at now n : ℕ} (outcome : TryAnswer C) → s ≡ t → HasLedger s → now ≡ max s.latest at → IsFitting s Begin → s.gets.next < end_of_numbers → n ≡ s.gets.next
      → Meets (between s now) at now (Try s.gets.next) (answer_of_try outcome) (unexamined new) → HandsOut (between s now) outcome
      → (b : StateView C) × Steps t at Begin (Begun n) b × Steps b at (Try n) (answer_of_try outcome) new × HandsOut b outcome
  both {s} {t} {new} {at} {now} {n} outcome is h now_is fit few n_is m hands =
      let begins : Steps t at Begin (Begun n) (between s now) = at_view is h now_is (meets_begun fit few refl n_is) in (
        between s now,
        begins,
        subst (λ (k : ℕ). Steps (between s now) at (Try k) (answer_of_try outcome) new) (sym n_is) (at_view refl (led (between s now) at Begin (Begun n) begins) (omega (arith, now_is)) m),
        hands,
      )
