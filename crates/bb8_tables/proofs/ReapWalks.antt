-- The two walks of a reap.
use Rattle.bb8_tables.proofs.Words.{slice_get_within, append_assoc, ◌≡◌, ◌⊎◌, inl, inr, ℕ, zero, suc, ◌+◌, ◌-◌, ◌<◌, ◌≤◌, Bool, true, false, ◌&&◌, List, [], ◌∷◌, ◌++◌, length, Option, Some, None, slice_get, refl, sym, ap, ◌∙◌, arith, subst, length-append, eq-eqb, ne_eqb, length-map, leb-false, lt-leb, get, most_records, Settings, one, tally, is_idle, is_conn, is_out, is_past, is_expired, idles_out, lives_out, Place, Standing, Slot, Young, Out, Aged, Buffer, Closed, offered_all, closed_in, closed_of, Ends, EndsIdle, Passes, AccessCount, AddsReads, TableView, slot_at, freed, without, AreFirst, Reaps, ArePlaces, IsRising, numbers_at, Absent, view_of_records, AreGoodRecords, passes, RecordsView, Inside, idle_from, nat_tests}
use Rattle.bb8_tables.proofs.AccessCount.{adds_none, adds_more, adds_within}
use Rattle.bb8_tables.proofs.Lines.{get_absent}
use Rattle.bb8_tables.proofs.Orders.{found_in, no_earlier}
use Rattle.bb8_tables.proofs.RecordPlaces.{idle_conn}
use Rattle.bb8_tables.proofs.ReapPlaces.{lives_idle, freed_good, freed_births, freed_due}
use Rattle.bb8_tables.proofs.Reaps.{listed_both, none_ended, first_more, ends_more}
use Rattle.bb8_tables.proofs.Slots.{Updates, held_found, line_length, get-push, set_at}
use Rattle.bb8_tables.proofs.Spelled.{absent_get, without_absent}

-- ---- limits

and_right : (a b : Bool) → b ≡ false → (a && b) ≡ false
and_right true b e = e
and_right false b e = refl

-- a limit that a longer span does not reach, a shorter one does not
shorter_span : (limit : Option ℕ) (long short : ℕ) → is_past limit long ≡ false → short ≤ long → is_past limit short ≡ false
shorter_span None long short e l = refl
shorter_span (Some limit) long short e l = let no : long < limit = leb-false limit long e in lt-leb limit short (omega arith)

-- ---- lists

head_split : (p : ℕ) (ys : List ℕ) → slice_get ys 0 ≡ Some p → (zs : List ℕ) × (ys ≡ p ∷ zs)
head_split p [] e = cc
head_split p (y ∷ ys) e = (ys, (let both : Some y ≡ Some p = e in let is : y ≡ p = cc in ap (λ (q : ℕ). q ∷ ys) is))

none_at : (xs : List ℕ) (j k : ℕ) → slice_get xs 0 ≡ None → slice_get xs j ≡ Some k → ⊥
none_at [] j k e f = cc
none_at (x ∷ xs) j k e f = cc

get_front : (xs ys : List ℕ) (j k : ℕ) → slice_get xs j ≡ Some k → slice_get (xs ++ ys) j ≡ Some k
get_front [] ys j k e = cc
get_front (x ∷ xs) ys zero k e = e
get_front (x ∷ xs) ys (suc j) k e = get_front xs ys j k e

get_back : (xs ys : List ℕ) (i j : ℕ) → i ≡ length xs + j → slice_get (xs ++ ys) i ≡ slice_get ys j
get_back [] ys i j e = ap (slice_get ys) (let same : i ≡ j = omega arith in same)
get_back (x ∷ xs) ys zero j e = absurd (omega arith)
get_back (x ∷ xs) ys (suc i) j e = get_back xs ys i j (omega arith)

get_joined : (xs ys : List ℕ) (j k : ℕ) → slice_get (xs ++ ys) j ≡ Some k → (slice_get xs j ≡ Some k) ⊎ ((i : ℕ) × (slice_get ys i ≡ Some k))
get_joined [] ys j k e = inr (j, e)
get_joined (x ∷ xs) ys zero k e = inl e
get_joined (x ∷ xs) ys (suc j) k e = get_joined xs ys j k e

without_between : (p : ℕ) (xs ys : List ℕ) → Absent p xs → Absent p ys → without p (xs ++ p ∷ ys) ≡ xs ++ ys
without_between p [] ys a b = rw (eq-eqb p p refl) (without_absent p ys b)
without_between p (x ∷ xs) ys a b = rw (ne_eqb x p a.0) (ap (λ (r : List ℕ). x ∷ r) (without_between p xs ys a.1 b))

module _ {C : Type 0} where
  -- ---- places by their tests

  out_conn : (p : Place C) → is_conn p ≡ true → is_idle p ≡ false → is_out p ≡ true
  out_conn p c i = grind (arith, nat_tests)

  out_busy : (p : Place C) → is_out p ≡ true → is_idle p ≡ true → ⊥
  out_busy p o i = let clash : true ≡ false = sym i ∙ idle_from false p o in cc

  -- a connection is idle or out
  idle_or_out : (p : Place C) → one (is_idle p) + one (is_out p) ≡ one (is_conn p)
  idle_or_out p = grind (arith, nat_tests)

  tally_split : (xs : List (Option (Slot (Standing C)))) → tally (passes is_idle) xs + tally (passes is_out) xs ≡ tally (passes is_conn) xs
  tally_split [] = refl
  tally_split (None ∷ xs) = omega (arith, tally_split xs)
  tally_split (Some x ∷ xs) = omega (arith, tally_split xs, idle_or_out x.standing.place)

  -- ---- the walk along the line of the idle

  -- no record passes a test where none that is idle does
  unless_idle : (test : Option (Standing C) → Bool) → test None ≡ false → ((s : Standing C) → is_idle s.place ≡ false → test (Some s) ≡ false)
      → (a : Inside C) → AreGoodRecords a
      → ((i : ℕ) (x : Slot (Standing C)) → slot_at a.slots i ≡ Some x → is_idle x.standing.place ≡ true → test (Some x.standing) ≡ false)
      → (k : ℕ) → test (get (view_of_records a).places k) ≡ false
  unless_idle test nothing busy a good idle k = grind (arith, nat_tests, held_found)

  -- the first in line is idle
  pub first_idle : {a : Inside C} {place : ℕ} {x : Slot (Standing C)} → AreGoodRecords a → slice_get a.slots.line 0 ≡ Some place → slot_at a.slots place ≡ Some x → is_idle x.standing.place ≡ true
  first_idle good first at_place = grind arith

  -- where the first in line is not idle too long, none is
  pub first_not_due : (config : Settings) (now : ℕ) (a : Inside C) (place : ℕ) (x : Slot (Standing C)) → AreGoodRecords a → slice_get a.slots.line 0 ≡ Some place → slot_at a.slots place ≡ Some x
      → idles_out config now (Some x.standing) ≡ false → (k : ℕ) → idles_out config now (get (view_of_records a).places k) ≡ false
  first_not_due config now a place x good first at_place young = unless_idle (idles_out config now) refl (λ s e. rw e refl) a good
      (λ i y e idle. and_right (is_idle y.standing.place) _ (shorter_span config.idle_timeout (now - x.standing.entered) (now - y.standing.entered) first_past
      (omega (arith, entered_later i y e idle))))
    where
      line : (rest : List ℕ) × (a.slots.line ≡ place ∷ rest)
      line = head_split place a.slots.line first

      first_past : is_past config.idle_timeout (now - x.standing.entered) ≡ false
      first_past = grind (arith, nat_tests)

      entered_later : (i : ℕ) (y : Slot (Standing C)) → slot_at a.slots i ≡ Some y → is_idle y.standing.place ≡ true → x.standing.entered ≤ y.standing.entered
      entered_later i y e idle =
          let there = found_in good.idle i y e idle in
          no_earlier (λ (z : Slot (Standing C)). z.standing.entered) a.slots.slots [] line.0 place i there.0 x y
          (subst (λ (ks : List ℕ). IsRising (numbers_at (λ (z : Slot (Standing C)). z.standing.entered) a.slots.slots ks)) line.1 good.idle.rises) at_place
          (ap (λ (ks : List ℕ). slice_get ks there.0) (sym line.1) ∙ there.1) e

  -- where nothing is in line, none is idle
  pub none_in_line : (config : Settings) (now : ℕ) (a : Inside C) → AreGoodRecords a → slice_get a.slots.line 0 ≡ None → (k : ℕ) → idles_out config now (get (view_of_records a).places k) ≡ false
  none_in_line config now a good empty = grind (arith, nat_tests, unless_idle (idles_out config now), found_in good.idle, none_at a.slots.line)

  -- how far the walk has come
  pub record InIdle (config : Settings) (now : ℕ) (old new : RecordsView C) (outcome : ℕ) (list listed : Buffer (Closed C)) (reads reads_now : AccessCount) : Type 0 where
    pub ks : List ℕ
    pub first : AreFirst (idles_out config now) ks old
    pub ends : Ends (idles_out config now) old ks new outcome list listed
    pub accesses : AddsReads outcome 0 reads reads_now

  pub idle_more : {config : Settings} {now : ℕ} {old mid new : RecordsView C} {outcome : ℕ} {list listed offered : Buffer (Closed C)} {reads mid_reads new_reads : AccessCount}
      → InIdle config now old mid outcome list listed reads mid_reads
      → (k : ℕ) × (slice_get mid.idle 0 ≡ Some k) × Ends (idles_out config now) mid (k ∷ []) new 1 listed offered → AddsReads 1 0 mid_reads new_reads
      → InIdle config now old new (outcome + 1) list offered reads new_reads
  idle_more {config} {now} {old} {mid} {new} {outcome} {list} {listed} {offered} {reads} {mid_reads} {new_reads} i e l = record {
    ks = i.ks ++ e.0 ∷ [];
    first = first_more (idles_out config now) i.ks e.0 old i.first (ap (λ (s : RecordsView C). slice_get s.idle 0) (sym i.ends.state) ∙ e.1)
        (ap (λ (s : RecordsView C). idles_out config now (get s.places e.0)) (sym i.ends.state) ∙ e.2.each.0);
    ends = ends_more (idles_out config now) i.ends e.2 refl;
    accesses = adds_more outcome 1 reads mid_reads new_reads i.accesses l;
  }

  -- ---- the walk along the order of births

  -- at each of the places is a checked-out connection
  abbrev pub AreOut : TableView (Slot (Standing C)) → List ℕ → Type 0
  AreOut t ks = (j k : ℕ) → slice_get ks j ≡ Some k → (x : Slot (Standing C)) × (slot_at t k ≡ Some x) × (is_out x.standing.place ≡ true)

  -- how far the walk has come: it has passed those that are out, and ended the others
  pub record InBirths (config : Settings) (now : ℕ) (old : RecordsView C) (list : Buffer (Closed C)) (reads : AccessCount) (many : ℕ) (a : Inside C) (outcome : ℕ) (at : Option ℕ)
      (listed : Buffer (Closed C)) (reads_now : AccessCount) (counter : ℕ) : Type 0 where
    pub good : AreGoodRecords a
    pub ks : List ℕ
    pub ends : Ends (lives_out config now) old ks (view_of_records a) outcome list listed
    pub passed : List ℕ
    pub rest : List ℕ
    pub births : a.slots.births ≡ passed ++ rest
    pub at_is : at ≡ slice_get rest 0
    pub outs : AreOut a.slots passed
    pub steps : outcome + length passed ≡ counter
    pub accesses : AddsReads counter 0 reads reads_now
    pub left : counter + length rest ≡ many
    pub few : old.conns ≤ most_records
    pub many_few : many ≤ old.conns

  out_push : (t : TableView (Slot (Standing C))) (ks : List ℕ) (k : ℕ) (x : Slot (Standing C)) → AreOut t ks → slot_at t k ≡ Some x → is_out x.standing.place ≡ true → AreOut t (ks ++ k ∷ [])
  out_push t ks k x o e is j q f = grind (arith, get-push ks k q j f)

  -- no place is twice in a line that is cut at one
  module _ (slots : List (Option (Slot (Standing C)))) (passed rest : List ℕ) (place : ℕ) (are : ArePlaces (λ (x : Slot (Standing C)). is_conn x.standing.place) slots (passed ++ place ∷ rest)) where
    middle : slice_get (passed ++ place ∷ rest) (length passed) ≡ Some place
    middle = get_back passed (place ∷ rest) (length passed) 0 (omega arith)

    absent_front : Absent place passed
    absent_front = get_absent place passed (λ j k e s.
        omega (arith, slice_get_within passed j k e, are.once j (length passed) k place (get_front passed (place ∷ rest) j k e) middle s))

    absent_back : Absent place rest
    absent_back = get_absent place rest (λ j k e s.
        omega (arith, are.once (length passed + suc j) (length passed) k place (get_back passed (place ∷ rest) (length passed + suc j) (suc j) refl ∙ e) middle s))

  pub conns_few : (a : Inside C) (s : RecordsView C) → AreGoodRecords a → view_of_records a ≡ s → s.conns ≤ most_records
  conns_few a s good shows = omega (arith, ap (λ (t : RecordsView C). t.conns) shows, good.sizes.peak_holds, good.sizes.peak_few)

  module _ {config : Settings} {now : ℕ} {old : RecordsView C} {list : Buffer (Closed C)} {reads : AccessCount} {many : ℕ} where
    -- it begins at the one that was born first
    pub births_start : (a : Inside C) (outcome : ℕ) (at : Option ℕ) → AreGoodRecords a → view_of_records a ≡ old → outcome ≡ 0
        → at ≡ slice_get a.slots.births 0 → many ≡ length a.slots.births → InBirths config now old list reads many a outcome at list reads 0
    births_start a outcome at good shows zero_told at_is all = record {
      good = good;
      ks = [];
      ends = subst (λ (s : RecordsView C). Ends (lives_out config now) s [] (view_of_records a) outcome list list) shows (none_ended (lives_out config now) (view_of_records a) outcome list zero_told);
      passed = [];
      rest = a.slots.births;
      births = refl;
      at_is = at_is;
      outs = λ j k e. cc;
      steps = omega arith;
      accesses = adds_none reads;
      left = omega arith;
      few = conns_few a old good shows;
      many_few =
          let l : length a.slots.births ≤ tally (passes is_conn) a.slots.slots = line_length _ _ _ _ (passes is_conn) refl (λ x h. h) a.slots.births a.slots.slots good.births.are in
          omega (arith, ap (λ (s : RecordsView C). s.conns) shows, good.conns_are);
    }

    module _ {a : Inside C} {outcome place : ℕ} {listed : Buffer (Closed C)} {reads_now : AccessCount} {counter : ℕ} (i : InBirths config now old list reads many a outcome (Some place) listed reads_now counter) where
      ahead : (rest : List ℕ) × (i.rest ≡ place ∷ rest)
      ahead = head_split place i.rest (sym i.at_is)

      cut : a.slots.births ≡ i.passed ++ place ∷ ahead.0
      cut = i.births ∙ ap (λ (ks : List ℕ). i.passed ++ ks) ahead.1

      more_left : suc (length ahead.0) ≡ length i.rest
      more_left = ap (λ (ks : List ℕ). length ks) (sym ahead.1)

      pub births_member : (j : ℕ) × (slice_get a.slots.births j ≡ Some place)
      births_member = (length i.passed, ap (λ (ks : List ℕ). slice_get ks (length i.passed)) cut ∙ get_back i.passed (place ∷ ahead.0) (length i.passed) 0 (omega arith))

      births_conn : (x : Slot (Standing C)) × (slot_at a.slots place ≡ Some x) × (is_conn x.standing.place ≡ true)
      births_conn = let st = i.good.births.are.each births_member.0 place births_member.1 in (st.0, st.1, st.3)

      pub births_stands : (x : Slot (Standing C)) × (slot_at a.slots place ≡ Some x)
      births_stands = (births_conn.0, births_conn.1)

      -- it passes one that is out
      pub births_out : {next : Option ℕ} {new_reads : AccessCount} → Passes config now a.slots place (Out next) → AddsReads 1 0 reads_now new_reads
          → InBirths config now old list reads many a outcome next listed new_reads (counter + 1)
      births_out {next} {new_reads} p l =
          let same : births_conn.0 ≡ p.0 = let both : Some births_conn.0 ≡ Some p.0 = sym births_conn.1 ∙ p.1 in cc in
          let conn : is_conn p.0.standing.place ≡ true = subst (λ (x : Slot (Standing C)). is_conn x.standing.place ≡ true) same births_conn.2 in
          let longer : length (i.passed ++ place ∷ []) ≡ length i.passed + 1 = length-append i.passed (place ∷ []) in
          record {
            good = i.good;
            ks = i.ks;
            ends = i.ends;
            passed = i.passed ++ place ∷ [];
            rest = ahead.0;
            births = cut ∙ sym (append_assoc i.passed (place ∷ []) ahead.0);
            at_is = p.3 i.passed ahead.0 cut;
            outs = out_push a.slots i.passed place p.0 i.outs p.1 (out_conn p.0.standing.place conn p.2);
            steps = omega (arith, i.steps);
            accesses = adds_more counter 1 reads reads_now new_reads i.accesses l;
            left = omega (arith, i.left, more_left);
            few = i.few;
            many_few = i.many_few;
          }

      -- it ends one that is idle
      module _ {slots : TableView (Slot (Standing C))} {next : Option ℕ} (p : Passes config now a.slots place (Aged next)) (gone : slots ≡ freed place a.slots) where
        aged_idle : is_idle p.0.standing.place ≡ true
        aged_idle = lives_idle config now p.0.standing p.2

        pub births_aged : {more : ℕ} {offered : Buffer (Closed C)} {new_reads : AccessCount} → more ≡ outcome + 1 → ((x : Slot (Standing C)) → slot_at a.slots place ≡ Some x
            → offered ≡ offered_all (closed_in x.number (Some x.standing)) listed) → AddsReads 1 0 reads_now new_reads
            → InBirths config now old list reads many (record a { slots = slots; conns = a.conns - 1 }) more next offered new_reads (counter + 1)
        births_aged {more} {offered} {new_reads} is put l =
            let are = subst (λ (ks : List ℕ). ArePlaces (λ (x : Slot (Standing C)). is_conn x.standing.place) a.slots.slots ks) cut i.good.births.are in
            let front : Absent place i.passed = absent_front a.slots.slots i.passed ahead.0 place are in
            record {
              good = freed_good place i.good p.1 aged_idle gone;
              ks = i.ks ++ p.0.number ∷ [];
              ends = ends_more (lives_out config now) i.ends (freed_due place i.good p.1 aged_idle gone (lives_out config now) refl p.2 (put p.0 p.1)) is;
              passed = i.passed;
              rest = ahead.0;
              births = freed_births place i.good p.1 aged_idle gone ∙ ap (without place) cut
                  ∙ without_between place i.passed ahead.0 front (absent_back a.slots.slots i.passed ahead.0 place are);
              at_is = p.3 i.passed ahead.0 cut;
              outs = λ j k e. let o = i.outs j k e in
                  let others = subst (λ (t : TableView (Slot (Standing C))). Updates a.slots.slots t.slots place None) (sym gone) (set_at a.slots.slots place p.0 None p.1) in
                  (o.0, others.others k (λ s. absent_get place j i.passed front (e ∙ ap (λ (q : ℕ). Some q) s)) ∙ o.1, o.2);
              steps = omega (arith, i.steps);
              accesses = adds_more counter 1 reads reads_now new_reads i.accesses l;
              left = omega (arith, i.left, more_left);
              few = i.few;
              many_few = i.many_few;
            }

    -- ---- where it ends

    module _ {a : Inside C} {outcome : ℕ} {at : Option ℕ} {listed : Buffer (Closed C)} {reads_now : AccessCount} {counter : ℕ} (i : InBirths config now old list reads many a outcome at listed reads_now counter) where
      -- none is left that lives too long, where none is ahead
      none_aged : ((j k : ℕ) (y : Slot (Standing C)) → slice_get i.rest j ≡ Some k → slot_at a.slots k ≡ Some y → is_expired config.max_lifetime now y.standing.birth ≡ false)
          → (k : ℕ) → lives_out config now (get (view_of_records a).places k) ≡ false
      none_aged young = unless_idle (lives_out config now) refl (λ s e. rw e refl) a i.good (λ p y e idle. and_right (is_idle y.standing.place) _ (here p y e idle))
        where
          here : (p : ℕ) (y : Slot (Standing C)) → slot_at a.slots p ≡ Some y → is_idle y.standing.place ≡ true → is_expired config.max_lifetime now y.standing.birth ≡ false
          here p y e idle = grind (arith, nat_tests, found_in i.good.births p y e, idle_conn y.standing.place idle, get_joined i.passed i.rest, out_busy y.standing.place)

      pub none_ahead : at ≡ None → (k : ℕ) → lives_out config now (get (view_of_records a).places k) ≡ false
      none_ahead over = none_aged (λ j k y e f. absurd (none_at i.rest j k (sym i.at_is ∙ over) e))

      pub none_more : many ≤ counter → (k : ℕ) → lives_out config now (get (view_of_records a).places k) ≡ false
      none_more over = none_aged (λ j k y e f. absurd (omega (arith, slice_get_within i.rest j k e, i.left)))

      -- no more were passed than are out
      few_passed : length i.passed + length old.idle ≤ old.conns
      few_passed =
          let outs : ArePlaces (λ (x : Slot (Standing C)). is_out x.standing.place) a.slots.slots i.passed = record {
            each = λ j k e. let o = i.outs j k e in (o.0, o.1, refl, o.2);
            once = λ j k p q e f s. i.good.births.are.once j k p q (in_births j p e) (in_births k q f) s;
          } in
          let few_out : length i.passed ≤ tally (passes is_out) a.slots.slots = line_length _ _ _ _ (passes is_out) refl (λ x h. h) i.passed a.slots.slots outs in
          let few_idle : length a.slots.line ≤ tally (passes is_idle) a.slots.slots = line_length _ _ _ _ (passes is_idle) refl (λ x h. h) a.slots.line a.slots.slots i.good.idle.are in
          let shown_idle : length (view_of_records a).idle ≡ length a.slots.line = length-map a.slots.line _ in
          omega (arith, tally_split a.slots.slots, i.good.conns_are, i.ends.conns, i.ends.idle)
        where
          in_births : (j k : ℕ) → slice_get i.passed j ≡ Some k → slice_get a.slots.births j ≡ Some k
          in_births j k e = ap (λ (ks : List ℕ). slice_get ks j) i.births ∙ get_front i.passed i.rest j k e

      pub reads_at_most : AddsReads (outcome + (old.conns - length old.idle)) 0 reads reads_now
      reads_at_most = adds_within counter (outcome + (old.conns - length old.idle)) reads reads_now i.accesses (omega (arith, i.steps, few_passed))

    -- it stops at the first that does not live too long
    pub none_after : {a : Inside C} {outcome place : ℕ} {listed : Buffer (Closed C)} {reads_now : AccessCount} {counter : ℕ} → InBirths config now old list reads many a outcome (Some place) listed reads_now counter
        → Passes config now a.slots place Young
        → (k : ℕ) → lives_out config now (get (view_of_records a).places k) ≡ false
    none_after {a} {place = place} i p = none_aged i (λ j k y e f. shorter_span config.max_lifetime (now - p.0.standing.birth) (now - y.standing.birth) p.2
        (let l : p.0.standing.birth ≤ y.standing.birth = no_earlier (λ (z : Slot (Standing C)). z.standing.birth) a.slots.slots i.passed (ahead i).0 place k j p.0 y
        (subst (λ (ks : List ℕ). IsRising (numbers_at (λ (z : Slot (Standing C)). z.standing.birth) a.slots.slots ks)) (cut i) i.good.births.rises) p.1
        (ap (λ (ks : List ℕ). slice_get ks j) (sym (ahead i).1) ∙ e) f in omega arith))

  -- ---- both walks

  pub reaps_both : {config : Settings} {now : ℕ} {old mid new : RecordsView C} {js ks : List ℕ} {aged idle : ℕ} {list listed offered : Buffer (Closed C)}
      → Ends (lives_out config now) old js mid aged list listed
      → ((k : ℕ) → lives_out config now (get mid.places k) ≡ false) → EndsIdle config now mid ks new idle listed offered
      → Reaps config now old js ks new (record { closed = aged + idle; by_idle = idle; by_life = aged }) × (offered ≡ offered_all (closed_of (js ++ ks) old.places) list)
  reaps_both {config} {now} {old} {mid} {new} {js} {ks} {aged} {idle} {list} {listed} {offered} a none b = grind (arith, listed_both)
