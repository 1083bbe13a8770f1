-- The fields of good lines hold no space: a line of them is text, and is cut just between them.
use Rattle.bb8_runner.proofs.Speech.{◌≡◌, ℕ, ◌<◌, Bool, true, false, eqb, List, [], ◌∷◌, Option, Some, None, Result, Ok, Err, Message, refl, sym, ap, subst, ◌∙◌, arith, codes, decimal, All, join_with_byte, IsAscii, IsUtf8, Decides-eqb, All-weaker, ◌++◌, map, Act, TimedOut, Event, fields_of, event_of, words_of, act_fields, flag, event_fields, event_line, FitsEvent}
use Rattle.std.proofs.lemmas.List.Splits.{join_with_byte-slice_split, slice_split_at, slice_split_none}
use Rattle.std.proofs.lemmas.Str.{IsUtf8-from_ascii, IsAscii-append}
use Rattle.std.proofs.lemmas.Str.Ascii.{IsAscii-cons, IsAscii-nil, IsAscii-from_all}
use Rattle.std.specs.Option.{option_to_list}
use Rattle.std.specs.Result.{result_ok}
use Rattle.bb8_core.specs.declared.replay.events.Act.TheVariants as kind
use Rattle.bb8_runner.specs.Grammar.{event_of_fields}
use Rattle.bb8_runner.proofs.Bytes.{IsOver, AreOver, over, are_over, decimal_over}
use Rattle.bb8_runner.proofs.Spelled.{event_read, event_spelled}
use Rattle.bb8_runner.proofs.Texts.{not_true}

abbrev pub AreWords : List (List ℕ) → Type 0
AreWords [] = Unit {0}
AreWords (x ∷ xs) = AreOver 32 x × AreWords xs

no_space : (x : List ℕ) → AreOver 32 x → All (λ b. eqb b 32 ≡ false) x
no_space x h = All-weaker (IsOver 32) (λ b. eqb b 32 ≡ false) (λ b g. not_true (eqb b 32) (λ w. omega (arith, g.0, (Decides-eqb b 32).0 w))) x h

-- a line of words has those fields
pub fields_of_words : (x : List ℕ) (xs : List (List ℕ)) → AreWords (x ∷ xs) → fields_of (join_with_byte 32 (x ∷ xs)) ≡ x ∷ xs
fields_of_words x [] h = slice_split_none (λ b. eqb b 32) x (no_space x h.0)
fields_of_words x (y ∷ ys) h = slice_split_at (λ b. eqb b 32) x 32 (join_with_byte 32 (y ∷ ys)) (no_space x h.0) refl ∙ ap (λ r. x ∷ r) (fields_of_words y ys h.1)

word_ascii : (x : List ℕ) → AreOver 32 x → IsAscii x
word_ascii x h = IsAscii-from_all x (All-weaker (IsOver 32) (λ b. b < 128) (λ b g. g.1) x h)

line_ascii : (xs : List (List ℕ)) → AreWords xs → IsAscii (join_with_byte 32 xs)
line_ascii [] h = IsAscii-nil
line_ascii (x ∷ []) h = word_ascii x h.0
line_ascii (x ∷ y ∷ xs) h = IsAscii-append x (32 ∷ join_with_byte 32 (y ∷ xs)) (word_ascii x h.0) (IsAscii-cons 32 (join_with_byte 32 (y ∷ xs)) (omega arith) (line_ascii (y ∷ xs) h.1))

-- a line whose fields are words is text
pub words_are_text : (line : List ℕ) (xs : List (List ℕ)) → AreWords xs → fields_of line ≡ xs → IsUtf8 line
words_are_text line xs h e =
    let a : IsAscii (join_with_byte 32 (fields_of line)) = subst (λ fs. IsAscii (join_with_byte 32 fs)) (sym e) (line_ascii xs h) in
    IsUtf8-from_ascii line (subst IsAscii (join_with_byte-slice_split 32 line) a)

verb_word : (a : Act) → AreOver 32 (words_of a).verb
unfolding over
verb_word (kind.GiveUp g TimedOut b) = are_over 32 (codes "timeout") refl
verb_word a = are_over 32 (words_of a).verb refl

number_words : (o : Option ℕ) (rest : List (List ℕ)) → AreWords rest → AreWords (map decimal (option_to_list o) ++ rest)
number_words None rest h = h
number_words (Some n) rest h = (decimal_over 32 n (omega arith), h)

flag_words : (word : List ℕ) (b : Bool) (rest : List (List ℕ)) → AreOver 32 word → AreWords rest → AreWords (flag word b rest)
flag_words word true rest h more = (h, more)
flag_words word false rest h more = more

event_words : (e : Event) → AreWords (event_fields e)
unfolding over
event_words e =
    let w = words_of e.act in
    let claimed = flag_words (codes "claimed") w.claimed [] (are_over 32 (codes "claimed") refl) tt in
    (decimal_over 32 e.at.0 (omega arith), (verb_word e.act, number_words w.number _ (flag_words (codes "broken") w.broken _ (are_over 32 (codes "broken") refl) claimed)))

event_or : (line : List ℕ) (r : Result Event Message) → event_of_fields (fields_of line) ≡ r → (IsUtf8 line → ⊥) → None ≡ result_ok r
event_or line (Ok e) w h = absurd (h (words_are_text line (event_fields e) (event_words e) (event_spelled (fields_of line) e (ap result_ok w)).spelled))
event_or line (Err m) w h = refl

-- what is no text is no event
pub no_event : (line : List ℕ) → (IsUtf8 line → ⊥) → None ≡ event_of line
no_event line h = event_or line (event_of_fields (fields_of line)) refl h

-- an event's own line is read as that event
pub own_line : (e : Event) → FitsEvent e → event_of (event_line e) ≡ Some e
own_line e h = event_read (fields_of (event_line e)) e (record { fits = h; spelled = fields_of_words (decimal e.at.0) (act_fields e.act) (event_words e) })

pub same_event : (e f : Event) → FitsEvent e → FitsEvent f → event_line e ≡ event_line f → e ≡ f
same_event e f h g w = cc (own_line e h, ap event_of w, own_line f g)
