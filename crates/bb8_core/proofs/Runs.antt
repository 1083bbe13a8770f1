-- Runs: what a state says of its ledger's numbers, an event that does not fit, and lists of events.
use Rattle.bb8_core.proofs.Words.{◌≡◌, ℕ, zero, suc, true, false, List, [], ◌∷◌, ◌++◌, take, length, Option, Some, None, IsSome, IfSome, IfNone, refl, sym, ap, ◌∙◌, subst, get, Key, Event, Act, Try, Unfit, Ledger, Later, gets_stand, is_trying, fits, Allowed, IsLegal, StateView, Represents, IsRecordIn, IsNoRecordIn, IsGetIn, IsNoGetIn, act_of, answer_of, IsRun, AfterEach, RecordsView, GetsView, AccessCount, arith, nat_tests}
use Rattle.bb8_tables.specs.declared.keys.GetKey.{GetKey}
use Rattle.bb8_core.specs.declared.replay.events.Answer.{Answer as ReplayAnswer}
use Rattle.bb8_core.specs.StateView.{IsAsBefore, IsFitting, HasLedger, Steps, ReportsFitting}
use Rattle.bb8_core.proofs.Fitting.{shown, bare, beside, as_shown, shown_record, shown_get}
use Rattle.bb8_core.proofs.Steps.{unfitting, within, same_shown, records_kept, gets_kept}

module _ {C : Type 0} where
  -- ---- what a look-up says of the ledger

  pub found : (s t : StateView C) (n : ℕ) (o : Option Key) → s ≡ t → IfSome o (λ k. (k.number ≡ n) × IsSome (get s.records.places n)) → IfSome o (λ k. (k.number ≡ n) × IsRecordIn t n)
  found s t n o is h = grind (arith, nat_tests, shown_record, as_shown)

  pub absent : (s t : StateView C) (n : ℕ) (o : Option Key) → s ≡ t → IfNone o (get s.records.places n ≡ None) → IfNone o (IsNoRecordIn t n)
  absent s t n o is h = grind (arith, nat_tests, shown_record, as_shown)

  pub get_found : (s t : StateView C) (n : ℕ) (o : Option GetKey) → s ≡ t → IfSome o (λ g. (g.number ≡ n) × IsSome (get s.gets.places n)) → IfSome o (λ g. (g.number ≡ n) × IsGetIn t n)
  get_found s t n o is h = grind (arith, nat_tests, shown_get, as_shown)

  pub get_absent : (s t : StateView C) (n : ℕ) (o : Option GetKey) → s ≡ t → IfNone o (get s.gets.places n ≡ None) → IfNone o (IsNoGetIn t n)
  get_absent s t n None is h = λ l legal means. shown_get l s (as_shown l (sym is) means) n ∙ h
  get_absent s t n (Some g) is h = tt

  -- which tries fit, by what is shown
  pub shown_try : (l : Ledger C) (s : StateView C) (g : ℕ) → Represents l s → fits l (Try g) ≡ gets_stand is_trying (get s.gets.places g)
  shown_try l s g means = ap (gets_stand is_trying) (shown_get l s means g)

  -- ---- an event that does not fit changes nothing

  unfit_shown : (l : Ledger C) (at : ℕ) (e : Act C) → shown (Later l at e Unfit) ≡ shown l
  unfit_shown l at e = same_shown _ _ refl refl refl refl refl (records_kept l) (gets_kept l) refl

  pub unfit_now : (l : Ledger C) (s : StateView C) (at : ℕ) (e : Act C) → fits l e ≡ false → Represents l s → Allowed l at e Unfit × Represents (Later l at e Unfit) s
  unfit_now l s at e misfit means = (unfitting (fits l e) _ _ misfit refl, beside (Later l at e Unfit) (unfit_shown l at e ∙ bare l means))

  -- so it is a step that changes nothing but the count of accesses
  pub unfit_step : {s t : StateView C} {reads : AccessCount} (at : ℕ) (e : Act C) → s ≡ t → HasLedger s → ReportsFitting t e false
      → Steps t at e Unfit (record s { reads = reads }) × IsAsBefore t (record s { reads = reads })
  unfit_step {s} {t} {reads} at e is h reports = (
    (within is h, λ l legal means. unfit_now l (record s { reads = reads }) at e (sym (reports l legal means)) (ap (λ (x : StateView C). record x { reads = reads }) (as_shown l (sym is) means))),
    ap (λ (x : StateView C). record x { reads = reads }) is,
  )

  -- it leaves what it read, if that is known to be as it was
  pub unfit_records : {s t : StateView C} {rs : RecordsView C} {reads : AccessCount} (at : ℕ) (e : Act C) → s ≡ t → HasLedger s → ReportsFitting s e false → rs ≡ s.records
      → Steps t at e Unfit (record s { records = rs; reads = reads }) × IsAsBefore t (record s { records = rs; reads = reads })
  unfit_records {s} {t} {reads = reads} at e is h reports same = unfit_step {reads = reads} at e (ap (λ (y : RecordsView C). record s { records = y }) same ∙ is)
      (subst (λ (y : RecordsView C). HasLedger (record s { records = y })) (sym same) h)
      (subst (λ (x : StateView C). ReportsFitting x e false) is reports)

  pub unfit_gets : {s t : StateView C} {gs : GetsView} {reads : AccessCount} (at : ℕ) (e : Act C) → s ≡ t → HasLedger s → ReportsFitting s e false → gs ≡ s.gets
      → Steps t at e Unfit (record s { gets = gs; reads = reads }) × IsAsBefore t (record s { gets = gs; reads = reads })
  unfit_gets {s} {t} {reads = reads} at e is h reports same = unfit_step {reads = reads} at e (ap (λ (y : GetsView). record s { gets = y }) same ∙ is)
      (subst (λ (y : GetsView). HasLedger (record s { gets = y })) (sym same) h)
      (subst (λ (x : StateView C). ReportsFitting x e false) is reports)

  -- and one that fits may be made
  pub fitting : {s : StateView C} (e : Act C) → ReportsFitting s e true → IsFitting s e
  fitting e reports = λ l legal means. sym (reports l legal means)

-- ---- lists of events

-- a run is made longer at its end
pub run_more : (l m : Ledger ℕ) (events : List Event) (answers : List ReplayAnswer) (e : Event) (a : ReplayAnswer) → IsRun l events answers m
    → Allowed m e.at.0 (act_of m e.act) (answer_of a)
    → IsRun l (events ++ e ∷ []) (answers ++ a ∷ []) (Later m e.at.0 (act_of m e.act) (answer_of a))
run_more l m [] [] e a r h = (subst (λ (x : Ledger ℕ). Allowed x e.at.0 (act_of x e.act) (answer_of a)) (sym r) h, ap (λ (x : Ledger ℕ). Later x e.at.0 (act_of x e.act) (answer_of a)) r)
run_more l m (x ∷ events) (b ∷ answers) e a r h = (r.0, run_more (Later l x.at.0 (act_of l x.act) (answer_of b)) m events answers e a r.1 h)
run_more l m _ _ e a r h = absurd r

-- a run of allowed results leads to a legal ledger
pub run_legal : (l last : Ledger ℕ) (events : List Event) (answers : List ReplayAnswer) → IsLegal l → IsRun l events answers last → IsLegal last
run_legal l last [] [] legal r = subst (λ (x : Ledger ℕ). IsLegal x) r legal
run_legal l last (x ∷ events) (b ∷ answers) legal r = run_legal (Later l x.at.0 (act_of l x.act) (answer_of b)) last events answers (legal, r.0) r.1
run_legal l last _ _ legal r = absurd r

-- each beginning of a run is one
run_take : (l last : Ledger ℕ) (events : List Event) (answers : List ReplayAnswer) → IsRun l events answers last → (i : ℕ) → (m : Ledger ℕ) × IsRun l (take i events) (take i answers) m
run_take l last events answers r zero = (l, refl)
run_take l last [] [] r (suc i) = (l, refl)
run_take l last (x ∷ events) (b ∷ answers) r (suc i) = let rest = run_take (Later l x.at.0 (act_of l x.act) (answer_of b)) last events answers r.1 i in (rest.0, (r.0, rest.1))
run_take l last _ _ r (suc i) = absurd r

-- so what holds of every legal ledger holds after each beginning
pub run_after : (Holds : Ledger ℕ → Type 0) → ((m : Ledger ℕ) → IsLegal m → Holds m)
    → (l last : Ledger ℕ) (events : List Event) (answers : List ReplayAnswer) → IsLegal l → IsRun l events answers last
    → AfterEach Holds l events answers
run_after Holds of_legal l last events answers legal r i = let m = run_take l last events answers r i in (m.0, m.1, of_legal m.0 (run_legal l m.0 (take i events) (take i answers) legal m.1))

-- one answer an event
pub run_length : (l last : Ledger ℕ) (events : List Event) (answers : List ReplayAnswer) → IsRun l events answers last → length answers ≡ length events
run_length l last [] [] r = refl
run_length l last (x ∷ events) (b ∷ answers) r = ap suc (run_length (Later l x.at.0 (act_of l x.act) (answer_of b)) last events answers r.1)
run_length l last _ _ r = absurd r
