-- Idle connections that end.
use Rattle.bb8_tables.proofs.Words.{◌≡◌, ℕ, ◌+◌, ◌-◌, ◌≤◌, Bool, true, false, List, length, Option, Some, None, slice_get, refl, sym, ap, ◌∙◌, arith, subst, append-nil, drop-map, length-map, get, Buffer, Settings, is_idle, is_unclaimed, is_conn, is_approval, lives_out, Standing, Slot, Closed, offered_all, closed_in, Ends, TableView, slot_at, freed, without, after_reaped, number_in, numbers_at, view_of_records, AreGoodRecords, RecordsView, Inside, idle_is, Place, Idle, nat_tests, [], ◌∷◌}
use Rattle.std.specs.Option.{IfSome}
use Rattle.bb8_tables.specs.Machine as machine
use Rattle.bb8_tables.proofs.Lines.{other_line, without_first, one_shorter}
use Rattle.bb8_tables.proofs.Orders.{found_in}
use Rattle.bb8_tables.proofs.RecordPlaces.{shown_at, conn_counted, ended_good}
use Rattle.bb8_tables.proofs.TablePlaces.{numbered, number_at, no_number_at, line_without, cleared_shown, cleared_line}
use Rattle.bb8_tables.proofs.Views.{same_records}

module _ {C : Type 0} where
  -- what lives too long is idle
  pub lives_idle : (config : Settings) (now : ℕ) (s : Standing C) → lives_out config now (Some s) ≡ true → is_idle s.place ≡ true
  lives_idle config now s h = grind arith

  -- an idle connection ends, wherever it is in the queue
  module _ {a : Inside C} (place : ℕ) {x : Slot (Standing C)} {slots : TableView (Slot (Standing C))} (good : AreGoodRecords a)
      (at_place : slot_at a.slots place ≡ Some x) (was : is_idle x.standing.place ≡ true) (gone : slots ≡ freed place a.slots) where
    pub freed_births : slots.births ≡ without place a.slots.births
    freed_births = ap (λ (t : TableView (Slot (Standing C))). t.births) gone

    pub freed_counted : 1 ≤ a.conns
    freed_counted = conn_counted place true good at_place (ap is_conn (idle_is x.standing.place was).1)

    pub freed_good : AreGoodRecords (record a { slots = slots; conns = a.conns - 1 })
    freed_good =
        let some : 1 ≤ a.conns = freed_counted in
        let idle = (idle_is x.standing.place was).1 in
        ended_good true false good at_place gone (ap is_conn idle) (omega arith) (ap is_approval idle) (omega arith) refl refl (λ u. other_line good.unclaimed at_place (ap is_unclaimed idle) u)

    pub freed_view : view_of_records (record a { slots = slots; conns = a.conns - 1 }) ≡ after_reaped x.number (view_of_records a)
    freed_view =
        grind (arith, nat_tests, same_records, cleared_shown x.number place good.table at_place, cleared_line x.number place good.table at_place, line_without x.number place good.table at_place)

    -- its connection is handed out
    pub freed_handed : {k : ℕ} {old : RecordsView C} {given : Slot (Standing C)} (o : Option C) → view_of_records a ≡ old → x.number ≡ k → given ≡ x
        → IfSome o (λ conn. given.standing.place ≡ Idle conn)
        → IfSome o (λ conn. ((birth entered : ℕ) × (get old.places k ≡ Some (record { place = Idle conn; birth = birth; entered = entered })))
        × (view_of_records (record a { slots = slots; conns = a.conns - 1 }) ≡ after_reaped k old))
    freed_handed None shows number same h = tt
    freed_handed {k} (Some conn) shows number same h = (
      (
        x.standing.birth,
        x.standing.entered,
        ap (λ (s : RecordsView C). get s.places k) (sym shows) ∙ shown_at place good at_place number
            ∙ ap (λ (p : Place C). Some (record x.standing { place = p })) (ap (λ (y : Slot (Standing C)). y.standing.place) (sym same) ∙ h),
      ),
      freed_view ∙ ap (λ (n : ℕ). after_reaped n (view_of_records a)) number ∙ ap (after_reaped k) shows,
    )

    -- the line is shorter by one
    freed_shorter : length slots.line + 1 ≡ length a.slots.line
    freed_shorter = grind (arith, found_in good.idle place x at_place was, one_shorter)

    -- it ends because it was due
    pub freed_due : (test : Option (Standing C) → Bool) {old : RecordsView C} {list offered : Buffer (Closed C)} → view_of_records a ≡ old → test (Some x.standing) ≡ true
        → offered ≡ offered_all (closed_in x.number (Some x.standing)) list → Ends test old (x.number ∷ []) (view_of_records (record a { slots = slots; conns = a.conns - 1 })) 1 list offered
    freed_due test {old} {list} {offered} shows is listed = subst
        (λ (s : RecordsView C). Ends test s (x.number ∷ []) (view_of_records (record a { slots = slots; conns = a.conns - 1 })) 1 list offered) shows (record {
          each = (ap test (shown_at place good at_place refl) ∙ is, tt);
          state = freed_view;
          closed = refl;
          conns = omega (arith, freed_counted);
          idle = ap (λ (n : ℕ). n + 1) (length-map slots.line (λ (i : ℕ). number_in numbered (slot_at slots i))) ∙ freed_shorter ∙ sym
              (length-map a.slots.line (λ (i : ℕ). number_in numbered (slot_at a.slots i)));
          listed = listed
              ∙ ap (λ (xs : List (Closed C)). offered_all xs list)
              (ap (closed_in x.number) (sym (shown_at place good at_place refl)) ∙ sym (append-nil (closed_in x.number (get (view_of_records a).places x.number))));
        })

  -- none ends where none is idle
  pub end_idle_none : (a : Inside C) → slice_get a.slots.line 0 ≡ None → slice_get (view_of_records a).idle 0 ≡ None
  end_idle_none a empty = no_number_at a.slots.slots a.slots.line 0 empty

  -- the idle connection that is first ends
  module _ {a : Inside C} {place number : ℕ} {slots : TableView (Slot (Standing C))} (good : AreGoodRecords a)
      (first : Some place ≡ slice_get a.slots.line 0) (number_is : (x : Slot (Standing C)) → slot_at a.slots place ≡ Some x → number ≡ x.number)
      (gone : slots ≡ freed place a.slots) where
    ended : (x : Slot (Standing C)) × (slot_at a.slots place ≡ Some x) × (x.number ≡ number) × (is_idle x.standing.place ≡ true)
    ended = let x = good.idle.are.each 0 place (sym first) in (x.0, x.1, sym (number_is x.0 x.1), x.3)

    pub idle_end_counted : 1 ≤ a.conns
    idle_end_counted = freed_counted place good ended.1 ended.3 gone

    pub idle_end_good : AreGoodRecords (record a { slots = slots; conns = a.conns - 1 })
    idle_end_good = freed_good place good ended.1 ended.3 gone

    pub idle_end_view : view_of_records (record a { slots = slots; conns = a.conns - 1 }) ≡ machine.after_idle_end number (view_of_records a)
    idle_end_view = rw gone (same_records _ _ refl
        (cleared_shown number place good.table ended.1 ended.2)
        (cleared_line number place good.table ended.1 ended.2 a.slots.line ∙ ap (numbers_at numbered a.slots.slots) (without_first a.slots.slots a.slots.line place good.idle.are (sym first))
        ∙ sym (drop-map (λ (i : ℕ). number_in numbered (slot_at a.slots i)) 1 a.slots.line))
        refl refl refl refl)

    pub idle_end_first : slice_get (view_of_records a).idle 0 ≡ Some number
    idle_end_first = number_at a.slots.slots a.slots.line 0 (sym first) ended.1 ∙ ap (λ (q : ℕ). Some q) ended.2

    pub idle_end_listed : {list offered : Buffer (Closed C)}
        → ((x : Slot (Standing C)) → slot_at a.slots place ≡ Some x → offered ≡ offered_all (closed_in x.number (Some x.standing)) list)
        → offered ≡ offered_all (closed_in number (get (view_of_records a).places number)) list
    idle_end_listed {list} put = grind (arith, nat_tests, shown_at place good ended.1 ended.2)
