-- An event is read from the fields that spell it, and from no others.
use Rattle.bb8_runner.proofs.Speech.{◌≡◌, ℕ, ◌^◌, ◌<◌, Bool, true, false, cond, ◌&&◌, List, [], ◌∷◌, get_or, Option, Some, None, Result, Ok, unwrap_or, option_map, refl, sym, ap, subst, ◌∙◌, arith, rules, codes, decimal, bytes_eq, bytes_eq-Decides, Act, Event, ◌>>=◌, found, Message, plain_acts, worded_act, numbered_acts, flagged_acts, words_of, act_fields, args_of, flag, FitsAct, SpellsEvent, number_of, TimedOut, Cancelled}
use Rattle.std.specs.Option.{ok_or, option_and_then}
use Rattle.std.specs.Result.{result_ok}
use Rattle.bb8_core.specs.declared.replay.events.Act.TheVariants as kind
use Rattle.bb8_runner.specs.Grammar.{act_of, act_after, act_error, event_of_fields, expected_number}
use Rattle.bb8_runner.proofs.Choices.{both, pick, found_in}
use Rattle.bb8_runner.proofs.Numbers.{number_is, first_is_digit, number_read, number_spelled}

no_digit : (bs : List ℕ) → 57 < get_or bs 0 0 → number_of 64 bs ≡ None
no_digit bs h = sym (number_is bs None (λ n small w. omega (arith, first_is_digit n small, ap (λ x. get_or x 0 0) w)))

-- what is spelled so is read
alone : (verb : List ℕ) (n : ℕ) → n < 2 ^ 64 → act_of verb (decimal n ∷ []) ≡ found verb (numbered_acts n)
unfolding act_of
alone verb n h = rw (number_read 64 n h h) refl

with_flag : (verb : List ℕ) (n : ℕ) (b : Bool) → n < 2 ^ 64 → found verb (numbered_acts n) ≡ found verb (flagged_acts n false)
    → act_of verb (decimal n ∷ flag (codes "broken") b []) ≡ found verb (flagged_acts n b)
unfolding act_of
with_flag verb n false h same = alone verb n h ∙ same
with_flag verb n true h same = rw (number_read 64 n h h) refl

act_read : (a : Act) → FitsAct a → act_of (words_of a).verb (args_of (words_of a)) ≡ Some a
unfolding act_of
act_read (kind.Try n) h = alone (codes "try") n h
act_read (kind.CheckedOk n) h = alone (codes "ok") n h
act_read (kind.CheckedErr n b) h = with_flag (codes "err") n b h refl
act_read (kind.GiveUp n TimedOut b) h = with_flag (codes "timeout") n b h refl
act_read (kind.GiveUp n Cancelled b) h = with_flag (codes "cancel") n b h refl
act_read (kind.PutBack n b) h = with_flag (codes "return") n b h refl
act_read (kind.Detach n) h = alone (codes "detach") n h
act_read (kind.Evict n) h = alone (codes "evict") n h
act_read (kind.Opened n) h = alone (codes "open") n h
act_read (kind.Failed n) h = alone (codes "fail") n h
act_read (kind.Fill true) h = rw (no_digit (codes "claimed") (omega arith)) refl
act_read (kind.Add true) h = rw (no_digit (codes "broken") (omega arith)) refl
act_read _ h = refl

pub event_read : (fields : List (List ℕ)) (e : Event) → SpellsEvent fields e → result_ok (event_of_fields fields) ≡ Some e
unfolding event_of_fields act_after
event_read fields e h = rw (h.spelled, number_read 64 e.at.0 h.fits.moment h.fits.moment, act_read e.act h.fits.act) refl

-- the fields spell the act
abbrev SpellsAct : List (List ℕ) → Act → Type 0
SpellsAct fields a = (fields ≡ act_fields a) × FitsAct a

plain_spelled : (verb : List ℕ) (a : Act) → found verb plain_acts ≡ Some a → SpellsAct (verb ∷ []) a
plain_spelled verb a = found_in (λ v a. SpellsAct (v ∷ []) a) plain_acts verb a (search rules)

numbered_spelled : (verb : List ℕ) (n : ℕ) (a : Act) → n < 2 ^ 64 → found verb (numbered_acts n) ≡ Some a → SpellsAct (verb ∷ decimal n ∷ []) a
numbered_spelled verb n a small = found_in (λ v a. SpellsAct (v ∷ decimal n ∷ []) a) (numbered_acts n) verb a (search rules)

broken_spelled : (verb : List ℕ) (n : ℕ) (a : Act) → n < 2 ^ 64 → found verb (flagged_acts n true) ≡ Some a → SpellsAct (verb ∷ decimal n ∷ codes "broken" ∷ []) a
broken_spelled verb n a small = found_in (λ v a. SpellsAct (v ∷ decimal n ∷ codes "broken" ∷ []) a) (flagged_acts n true) verb a (search rules)

worded_spelled : (verb word : List ℕ) (a : Act) → worded_act verb word ≡ Some a → SpellsAct (verb ∷ word ∷ []) a
worded_spelled verb word a =
    let P : Act → Type 0 = SpellsAct (verb ∷ word ∷ []) in
    let same = λ (v w : List ℕ) (t : (bytes_eq verb v && bytes_eq word w) ≡ true). let h = both _ _ t in
    ap (λ x. x ∷ word ∷ []) ((bytes_eq-Decides verb v).0 h.0) ∙ ap (λ x. v ∷ x ∷ []) ((bytes_eq-Decides word w).0 h.1) in
    pick _ (kind.Fill true) _ a P (λ t. (same (codes "fill") (codes "claimed") t, tt)) (
    pick _ (kind.Add true) _ a P (λ t. (same (codes "add") (codes "broken") t, tt)) (λ w. cc))

act_spelled : (verb : List ℕ) (args : List (List ℕ)) (a : Act) → act_of verb args ≡ Some a → SpellsAct (verb ∷ args) a
unfolding act_of
act_spelled verb [] a e = plain_spelled verb a e
act_spelled verb (arg ∷ []) a e = by_number (number_of 64 arg) refl e
  where
    by_number : (o : Option ℕ) → number_of 64 arg ≡ o → unwrap_or (option_map (λ n. found verb (numbered_acts n)) o) (worded_act verb arg) ≡ Some a → SpellsAct (verb ∷ arg ∷ []) a
    by_number None s e = worded_spelled verb arg a e
    by_number (Some n) s e = let h = number_spelled 64 arg n s in rw h.1 (numbered_spelled verb n a h.0 e)
act_spelled verb (arg ∷ word ∷ []) a e = by_word (bytes_eq word (codes "broken")) (number_of 64 arg) refl refl e
  where
    by_word : (b : Bool) (o : Option ℕ) → bytes_eq word (codes "broken") ≡ b → number_of 64 arg ≡ o
        → cond b (option_and_then (λ n. found verb (flagged_acts n true)) o) None ≡ Some a → SpellsAct (verb ∷ arg ∷ word ∷ []) a
    by_word true (Some n) t s e = let h = number_spelled 64 arg n s in rw (h.1, (bytes_eq-Decides word (codes "broken")).0 t) (broken_spelled verb n a h.0 e)
    by_word _ _ t s e = cc
act_spelled verb (arg ∷ word ∷ more ∷ rest) a e = cc

after_spelled : (moment : List ℕ) (fields : List (List ℕ)) (a : Act) → act_after moment fields ≡ Ok a → SpellsAct fields a
unfolding act_after
after_spelled moment [] a e = cc
after_spelled moment (verb ∷ args) a e = act_spelled verb args a (is (act_of verb args) (act_error verb args) e)
  where
    is : (o : Option Act) (m : Message) → ok_or o m ≡ Ok a → o ≡ Some a
    is None m e = cc
    is (Some b) m e = cc

pub event_spelled : (fields : List (List ℕ)) (e : Event) → result_ok (event_of_fields fields) ≡ Some e → SpellsEvent fields e
unfolding event_of_fields
event_spelled [] e w = cc
event_spelled (moment ∷ fields) e w = by (number_of 64 moment) (act_after moment fields) refl refl w
  where
    by : (o : Option ℕ) (r : Result Act Message) → number_of 64 moment ≡ o → act_after moment fields ≡ r
        → result_ok (ok_or o (expected_number, moment) >>= λ at. r >>= λ act. Ok (record { at = record { 0 = at }; act = act })) ≡ Some e → SpellsEvent (moment ∷ fields) e
    by (Some n) (Ok a) s t w =
        let h = number_spelled 64 moment n s in
        let g = after_spelled moment fields a t in
        let same : (record { at = record { 0 = n }; act = a }) ≡ e = cc in
        subst (SpellsEvent (moment ∷ fields)) same (record { fits = record { moment = h.0; act = g.1 }; spelled = rw (h.1, g.0) refl })
    by _ _ s t w = cc
