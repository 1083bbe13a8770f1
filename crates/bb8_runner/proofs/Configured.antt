-- A configuration is read from the fields that spell it, and from no others.
use Rattle.bb8_runner.proofs.Speech.{◌≡◌, ◌≢◌, ℕ, ◌+◌, ◌^◌, ◌<◌, Bool, true, false, cond, not, eqb, ◌||◌, List, [], ◌∷◌, ◌++◌, length, get_or, map, Option, Some, None, Result, Ok, Err, option_map, unwrap_or, refl, sym, ap, subst, ◌∙◌, arith, codes, length-append, decimal, position_or_len, before_first, after_first, list_any, bytes_eq, IsUtf8, false≢true, Decides-eqb, All-head, All-tail, bytes_eq-Decides, QueueStrategy, Fifo, Lifo, Settings, default_settings, is_lawful, ◌>>=◌, found, Message, fields_of, Setting, MaxSize, MinIdle, Check, TestAfter, Lifetime, Idle, Timeout, Reaper, Retry, Strategy, name_of, value_of, limit_text, switch_text, strategy_text, setting_field, FitsSetting, FitsLimit, AllFit, LacksName, AreDistinct, made, all_made, SpellsSettings, number_of, on_or_off, strategy_of, settings_of_line}
use Rattle.std.specs.Result.{result_ok}
use Rattle.std.specs.Option.{option_and_then}
use Rattle.bb8_runner.specs.Opening.{cut, limit_of, settings_by, with_setting, value_error, is_named, with_new, with_field, if_lawful, unlawful_error, with_fields, settings_of_fields}
use Rattle.std.proofs.Math.Seq.{take-append_seam, drop-append-add}
use Rattle.std.proofs.lemmas.List.{map-append}
use Rattle.std.proofs.lemmas.List.Sums.{split_at_first, passes_at_first, prefix_len-le-length}
use Rattle.bb8_runner.proofs.Bytes.{IsOver, AreOver, over, are_over, decimal_over, joined, lower}
use Rattle.bb8_runner.proofs.Choices.{also, found_in}
use Rattle.bb8_runner.proofs.Numbers.{first_is_digit, number_read, number_spelled}
use Rattle.bb8_runner.proofs.Texts.{not_true, differ}
use Rattle.bb8_runner.proofs.Words.{AreWords, words_are_text}

-- a field is cut at its first `=`
position_in : (name value : List ℕ) → AreOver 61 name → position_or_len (λ b. eqb b 61) (name ++ 61 ∷ value) ≡ length name
position_in [] value h = refl
position_in (b ∷ name) value h =
    let differs : eqb b 61 ≡ false = not_true (eqb b 61) (λ w. omega (arith, (All-head (IsOver 61) b name h).0, (Decides-eqb b 61).0 w)) in
    rw differs (ap (λ n. 1 + n) (position_in name value (All-tail (IsOver 61) b name h)) ∙ omega arith)

cut_at : (name value : List ℕ) → AreOver 61 name → cut (name ++ 61 ∷ value) ≡ Some (name, value)
unfolding cut
cut_at name value h =
    let p = position_in name value h in
    let inside : eqb (length name) (length (name ++ 61 ∷ value)) ≡ false =
    not_true _ (λ w. omega (arith, length-append name (61 ∷ value), (Decides-eqb (length name) (length (name ++ 61 ∷ value))).0 w)) in
    rw (p, inside, take-append_seam name (61 ∷ value), drop-append-add name (61 ∷ value) 1) refl

cut_pick : (b : Bool) (x p : List ℕ × List ℕ) → cond b None (Some x) ≡ Some p → (b ≡ false) × (x ≡ p)
cut_pick true x p e = cc
cut_pick false x p e = (refl, cc)

cut_spelled : (field : List ℕ) (p : List ℕ × List ℕ) → cut field ≡ Some p → field ≡ p.0 ++ 61 ∷ p.1
unfolding cut
cut_spelled field p e =
    let test = λ (b : ℕ). eqb b 61 in
    let h = cut_pick (eqb (position_or_len test field) (length field)) (before_first test field, after_first test field) p e in
    let apart : position_or_len test field ≢ length field = λ w. false≢true (sym h.0 ∙ (Decides-eqb (position_or_len test field) (length field)).1 w) in
    let inside : position_or_len test field < length field = omega (arith, apart, prefix_len-le-length (λ b. not (test b)) field) in
    let byte : get_or field (position_or_len test field) 0 ≡ 61 = (Decides-eqb (get_or field (position_or_len test field) 0) 61).0 (passes_at_first test field 0 inside) in
    let whole = split_at_first test field 0 inside in
    whole ∙ ap (λ b. before_first test field ++ b ∷ after_first test field) byte ∙ ap (λ q. q.0 ++ 61 ∷ q.1) h.1

no_word : (n : ℕ) → n < 2 ^ 64 → bytes_eq (decimal n) (codes "none") ≡ false
no_word n h = differ (decimal n) (codes "none") (λ w. omega (arith, first_is_digit n h, ap (λ x. get_or x 0 0) w))

-- what is spelled so is read
setting_read : (s : Settings) (x : Setting) → FitsSetting x → with_setting s (name_of x) (value_of x) ≡ Some (made s x)
unfolding with_setting limit_of
setting_read s (MaxSize n) h = rw (number_read 32 n h (omega (arith, h))) refl
setting_read s (MinIdle (Some n)) h = rw (no_word n (omega (arith, h)), number_read 32 n h (omega (arith, h))) refl
setting_read s (Lifetime (Some n)) h = rw (no_word n h, number_read 64 n h h) refl
setting_read s (Idle (Some n)) h = rw (no_word n h, number_read 64 n h h) refl
setting_read s (TestAfter n) h = rw (number_read 64 n h h) refl
setting_read s (Timeout n) h = rw (number_read 64 n h h) refl
setting_read s (Reaper n) h = rw (number_read 64 n h h) refl
setting_read s (Check true) h = refl
setting_read s (Retry true) h = refl
setting_read s (Strategy Fifo) h = refl
setting_read s _ h = refl

name_over : (x : Setting) → AreOver 61 (name_of x)
unfolding over
name_over (MaxSize n) = are_over 61 (codes "max_size") refl
name_over x = are_over 61 (name_of x) refl

-- the fields before lack a name if the settings do
lacks : (name : List ℕ) (xs : List Setting) → list_any (is_named name) (map setting_field xs) ≡ list_any (λ x. bytes_eq (name_of x) name) xs
lacks name [] = refl
lacks name (x ∷ xs) = rw (cut_at (name_of x) (value_of x) (name_over x)) (ap (λ b. bytes_eq (name_of x) name || b) (lacks name xs))

one_more : (before : List Setting) (x : Setting) → map setting_field before ++ setting_field x ∷ [] ≡ map setting_field (before ++ x ∷ [])
one_more before x = sym (map-append setting_field before (x ∷ []))

fields_read : (before : List Setting) (s : Settings) (xs : List Setting) → AllFit xs → AreDistinct before xs → with_fields (map setting_field before) s (map setting_field xs) ≡ if_lawful (all_made s xs)
unfolding with_fields with_field
fields_read before s [] h d = refl
fields_read before s (x ∷ xs) h d =
    rw (cut_at (name_of x) (value_of x) (name_over x), setting_read s x h.0, lacks (name_of x) before, d.0, one_more before x)
    (fields_read (before ++ x ∷ []) (made s x) xs h.1 d.1)

pub settings_read : (fields : List (List ℕ)) (s : Settings) → SpellsSettings fields s → result_ok (settings_of_fields fields) ≡ Some s
unfolding settings_of_fields if_lawful
settings_read fields s h = rw (h.spelled, fields_read [] default_settings h.chosen h.fit h.distinct, sym h.settings, h.lawful) refl

-- what is read is spelled so
limit_pick : (o : Option ℕ) (l : Option ℕ) → option_map Some o ≡ Some l → (n : ℕ) × (o ≡ Some n) × (l ≡ Some n)
limit_pick None l e = cc
limit_pick (Some n) l e = (n, refl, cc)

limit_spelled : (k : ℕ) (value : List ℕ) (l : Option ℕ) → limit_of k value ≡ Some l → FitsLimit k l × (value ≡ limit_text l)
unfolding limit_of
limit_spelled k value l e = by (bytes_eq value (codes "none")) refl e
  where
    by : (b : Bool) → bytes_eq value (codes "none") ≡ b → cond b (Some None) (option_map Some (number_of k value)) ≡ Some l → FitsLimit k l × (value ≡ limit_text l)
    by true t e = let same : None ≡ l = cc in subst (λ l. FitsLimit k l × (value ≡ limit_text l)) same (tt, (bytes_eq-Decides value (codes "none")).0 t)
    by false t e = let h = limit_pick (number_of k value) l e in rw h.2 (number_spelled k value h.0 h.1)

switch_spelled : (value : List ℕ) (b : Bool) → on_or_off value ≡ Some b → value ≡ switch_text b
switch_spelled value b = found_in (λ v b. v ≡ switch_text b) ((codes "on", true) ∷ (codes "off", false) ∷ []) value b (refl, (refl, tt))

strategy_spelled : (value : List ℕ) (s : QueueStrategy) → strategy_of value ≡ Some s → value ≡ strategy_text s
strategy_spelled value s = found_in (λ v s. v ≡ strategy_text s) ((codes "fifo", Fifo) ∷ (codes "lifo", Lifo) ∷ []) value s (refl, (refl, tt))

-- the setting has this name and this value
abbrev IsSpelled : List ℕ → List ℕ → Setting → Type 0
IsSpelled name value x = (name ≡ name_of x) × (FitsSetting x × (value ≡ value_of x))

-- so has each that the value makes
by : {A : Type 0} (make : A → Setting) (name value : List ℕ) (o : Option A) → ((v : A) → o ≡ Some v → IsSpelled name value (make v)) → (x : Setting) → option_map make o ≡ Some x → IsSpelled name value x
by make name value None each x e = cc
by make name value (Some v) each x e = let same : make v ≡ x = cc in subst (IsSpelled name value) same (each v refl)

setting_spelled : (name value : List ℕ) (o : Option Setting) → found name (settings_by value) ≡ Some o → (x : Setting) → o ≡ Some x → IsSpelled name value x
setting_spelled name value o =
    found_in (λ w o. (x : Setting) → o ≡ Some x → IsSpelled w value x) (settings_by value) name o (
    also (by MaxSize _ value _ (λ v e. (refl, number_spelled 32 value v e))) (
    also (by MinIdle _ value _ (λ v e. (refl, limit_spelled 32 value v e))) (
    also (by Check _ value _ (λ v e. (refl, (tt, switch_spelled value v e)))) (
    also (by TestAfter _ value _ (λ v e. (refl, number_spelled 64 value v e))) (
    also (by Lifetime _ value _ (λ v e. (refl, limit_spelled 64 value v e))) (
    also (by Idle _ value _ (λ v e. (refl, limit_spelled 64 value v e))) (
    also (by Timeout _ value _ (λ v e. (refl, number_spelled 64 value v e))) (
    also (by Reaper _ value _ (λ v e. (refl, number_spelled 64 value v e))) (
    also (by Retry _ value _ (λ v e. (refl, (tt, switch_spelled value v e)))) (
    also (by Strategy _ value _ (λ v e. (refl, (tt, strategy_spelled value v e)))) (
    tt)))))))))))

-- the field is that of a new setting, which makes t of s
record IsField (before : List Setting) (s : Settings) (field : List ℕ) (t : Settings) : Type 0 where
  setting : Setting
  fits : FitsSetting setting
  new : LacksName (name_of setting) before
  spelled : field ≡ setting_field setting
  then : t ≡ made s setting

field_spelled : (before : List Setting) (s t : Settings) (field : List ℕ) → with_field (map setting_field before) s field ≡ Ok t → IsField before s field t
unfolding with_field with_setting
field_spelled before s t field e = by_cut (cut field) refl e
  where
    fields : List (List ℕ)
    fields = map setting_field before

    by_setting : (name value : List ℕ) (o : Option (Option Setting)) (b : Bool) → field ≡ name ++ 61 ∷ value → found name (settings_by value) ≡ o → list_any (is_named name) fields ≡ b
        → unwrap_or (option_map (λ t. cond b (Err (codes "repeated setting", name)) (Ok t)) (option_and_then (λ o. option_map (made s) o) o)) (Err (value_error name value)) ≡ Ok t → IsField before s field t
    by_setting name value (Some (Some x)) false c f n e =
        let h = setting_spelled name value (Some x) f x refl in
        record {
          setting = x;
          fits = h.1.0;
          new = rw (← h.0) (sym (lacks name before) ∙ n);
          spelled = rw (c, h.0, h.1.1) refl;
          then = cc;
        }
    by_setting name value _ _ c f n e = cc

    by_cut : (r : Option (List ℕ × List ℕ)) → cut field ≡ r
        → unwrap_or (option_map (λ p. with_new fields s p.0 p.1) r) (Err (codes "expected \"=\" and a value after", field)) ≡ Ok t → IsField before s field t
    by_cut (Some p) c e = by_setting p.0 p.1 (found p.0 (settings_by p.1)) (list_any (is_named p.0) fields) (cut_spelled field p c) refl refl e
    by_cut None c e = cc

-- the fields are those of settings, which make t of s
record AreFields (before : List Setting) (s : Settings) (fields : List (List ℕ)) (t : Settings) : Type 0 where
  settings : List Setting
  fit : AllFit settings
  distinct : AreDistinct before settings
  spelled : fields ≡ map setting_field settings
  then : t ≡ all_made s settings
  lawful : is_lawful t ≡ true

none : (before : List Setting) (s t : Settings) (b : Bool) → is_lawful s ≡ b → cond b (Ok s) (Err (unlawful_error s)) ≡ Ok t → AreFields before s [] t
none before s t true l e = let same : s ≡ t = cc in record { settings = []; fit = tt; distinct = tt; spelled = refl; then = sym same; lawful = subst (λ s. is_lawful s ≡ true) same l }
none before s t false l e = cc

fields_spelled : (before : List Setting) (s t : Settings) (fields : List (List ℕ)) → with_fields (map setting_field before) s fields ≡ Ok t → AreFields before s fields t
unfolding with_fields if_lawful
fields_spelled before s t [] e = none before s t (is_lawful s) refl e
fields_spelled before s t (field ∷ fields) e = by_field (with_field (map setting_field before) s field) (λ x u. fields_spelled (before ++ x ∷ []) u t fields) refl e
  where
    by_field : (r : Result Settings Message)
        → ((x : Setting) (u : Settings) → with_fields (map setting_field (before ++ x ∷ [])) u fields ≡ Ok t → AreFields (before ++ x ∷ []) u fields t) → with_field (map setting_field before) s field ≡ r
        → (r >>= λ u. with_fields (map setting_field before ++ field ∷ []) u fields) ≡ Ok t → AreFields before s (field ∷ fields) t
    by_field (Ok u) more f e =
        let one = field_spelled before s u field f in
        let x = one.setting in
        let all = more x u (rw (one.spelled, one_more before x) at e) in
        record {
          settings = x ∷ all.settings;
          fit = (one.fits, all.fit);
          distinct = (one.new, all.distinct);
          spelled = ap (λ y. y ∷ fields) one.spelled ∙ ap (λ ys. setting_field x ∷ ys) all.spelled;
          then = all.then ∙ ap (λ u. all_made u all.settings) one.then;
          lawful = all.lawful;
        }
    by_field (Err m) more f e = cc

config_spelled : (word : List ℕ) (fields : List (List ℕ)) (s : Settings) → word ≡ codes "config" → AreFields [] default_settings fields s → SpellsSettings (word ∷ fields) s
config_spelled word fields s is all = record {
  chosen = all.settings;
  fit = all.fit;
  distinct = all.distinct;
  spelled = rw (is, all.spelled) refl;
  settings = all.then;
  lawful = all.lawful;
}

pub settings_spelled : (fields : List (List ℕ)) (s : Settings) → result_ok (settings_of_fields fields) ≡ Some s → SpellsSettings fields s
unfolding settings_of_fields
settings_spelled [] s e = cc
settings_spelled (word ∷ fields) s e = by_word (bytes_eq word (codes "config")) (with_fields [] default_settings fields) refl refl e
  where
    by_word : (b : Bool) (r : Result Settings Message) → bytes_eq word (codes "config") ≡ b → with_fields [] default_settings fields ≡ r
        → result_ok (cond b r (Err (codes "expected \"config\", found", word))) ≡ Some s → SpellsSettings (word ∷ fields) s
    by_word true (Ok t) w f e =
        let same : t ≡ s = cc in
        config_spelled word fields s ((bytes_eq-Decides word (codes "config")).0 w) (fields_spelled [] default_settings s fields (f ∙ ap Ok same))
    by_word _ _ w f e = cc

-- the fields of a configuration are words
value_word : (x : Setting) → AreOver 32 (value_of x)
unfolding over
value_word (MaxSize n) = decimal_over 32 n (omega arith)
value_word (MinIdle (Some n)) = decimal_over 32 n (omega arith)
value_word (Lifetime (Some n)) = decimal_over 32 n (omega arith)
value_word (Idle (Some n)) = decimal_over 32 n (omega arith)
value_word (TestAfter n) = decimal_over 32 n (omega arith)
value_word (Timeout n) = decimal_over 32 n (omega arith)
value_word (Reaper n) = decimal_over 32 n (omega arith)
value_word (Check true) = are_over 32 (codes "on") refl
value_word (Retry true) = are_over 32 (codes "on") refl
value_word (Strategy Fifo) = are_over 32 (codes "fifo") refl
value_word x = are_over 32 (value_of x) refl

setting_word : (x : Setting) → AreOver 32 (setting_field x)
unfolding over
setting_word x = joined 32 (name_of x) (61 ∷ value_of x) (lower 32 61 (name_of x) (omega arith) (name_over x)) (joined 32 (61 ∷ []) (value_of x) (are_over 32 (61 ∷ []) refl) (value_word x))

all_words : (xs : List Setting) → AreWords (map setting_field xs)
all_words [] = tt
all_words (x ∷ xs) = (setting_word x, all_words xs)

-- what is no text is no configuration
pub no_settings : (line : List ℕ) → (IsUtf8 line → ⊥) → None ≡ settings_of_line line
unfolding over
no_settings line h = by_result (settings_of_fields (fields_of line)) refl
  where
    by_result : (r : Result Settings Message) → settings_of_fields (fields_of line) ≡ r → None ≡ result_ok r
    by_result (Ok s) w =
        let g = settings_spelled (fields_of line) s (ap result_ok w) in
        absurd (h (words_are_text line (codes "config" ∷ map setting_field g.chosen) (are_over 32 (codes "config") refl, all_words g.chosen) g.spelled))
    by_result (Err m) w = refl
