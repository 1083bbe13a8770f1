-- What `parse` says of a field that begins with neither `+` nor `0`, and of one that does.
use Rattle.bb8_runner.proofs.Speech.{◌≡◌, ◌≢◌, ℕ, zero, suc, ◌+◌, ◌^◌, ◌<◌, Bool, true, false, cond, eqb, ltb, ◌&&◌, List, [], ◌∷◌, length, get_or, Option, Some, None, Result, Ok, Err, refl, sym, ap, ◌∙◌, arith, decimal, bytes_eq, then_some, nat_tests, Decides-ltb, bytes_eq-Decides}
use Rattle.bb8_runner.specs.Grammar.{number_of}
use Rattle.std.specs.Int.{IsInRange}
use Rattle.std.specs.Result.{result_ok, OkIff}
use Rattle.std.specs.Str.Parse.{ParsesUnsigned, AllDigits, digits_value}
use Rattle.std.proofs.lemmas.Fmt.{decimal_is_IsNumeral, decimal_nonempty, decimal_digit, first_decimal, parse-decimal, decimal-digits_value}
use Rattle.std.proofs.lemmas.Str.Parse.{IsNumeralModel, numerals_by_value, tells_digits, parse_plain, digit_at}

-- The field is a number below 2 ^ k, or None: it is no such number.
abbrev pub IsNumber : ℕ → List ℕ → Option ℕ → Type 0
IsNumber k field None = (n : ℕ) → n < 2 ^ k → field ≢ decimal n
IsNumber k field (Some n) = (n < 2 ^ k) × (field ≡ decimal n)

none_where : (a b : Bool) (v : ℕ) → (a ≡ true → b ≡ true → ⊥) → ◌≡◌ {A = Option ℕ} (cond (a && b) (Some v) None) None
none_where true true v h = absurd (h refl refl)
none_where _ _ v h = refl

-- there is one such answer
number_is_within : (k : ℕ) → ((n : ℕ) → n < 2 ^ k → n < 2 ^ 64) → (f : List ℕ) (o : Option ℕ) → IsNumber k f o → o ≡ number_of k f
unfolding number_of
number_is_within k wide f (Some n) h =
    let v : digits_value 10 f ≡ n = ap (digits_value 10) h.1 ∙ (decimal_is_IsNumeral n (wide n h.0)).1 in
    rw v (rw ((bytes_eq-Decides f (decimal n)).1 h.1, (Decides-ltb n (2 ^ k)).1 h.0) refl)
number_is_within k wide f None h = sym (none_where _ _ _ (λ a b. h (digits_value 10 f) ((Decides-ltb _ _).0 b) ((bytes_eq-Decides _ _).0 a)))

pub number_is : (f : List ℕ) (o : Option ℕ) → IsNumber 64 f o → o ≡ number_of 64 f
number_is f o h = number_is_within 64 (λ n small. small) f o h

own : IsNumeralModel (AllDigits 10) (digits_value 10)
own = numerals_by_value (AllDigits 10) tells_digits

pub first_is_digit : (n : ℕ) → n < 2 ^ 64 → IsInRange 48 57 (get_or (decimal n) 0 0)
first_is_digit n h = digit_at (decimal n) 0 (decimal_is_IsNumeral n h).0.1 (decimal_nonempty n h)

zero_is_alone : (n : ℕ) → n < 2 ^ 64 → get_or (decimal n) 0 0 ≡ 48 → length (decimal n) ≡ 1
zero_is_alone zero h z = ap length (decimal_digit 0 (omega arith))
zero_is_alone (suc n) h z = absurd (omega (arith, first_decimal (suc n) (omega arith) h))

-- neither `+` nor `0` in front
pub reads_plain : {E : Type 0} (bs : List ℕ) (r : Result ℕ E) → ParsesUnsigned 64 10 bs r → get_or bs 0 0 ≢ 43 → get_or bs 0 0 ≢ 48 → IsNumber 64 bs (result_ok r)
reads_plain {E} bs (Ok n) h p z =
    let g = parse_plain own {E = E} 64 bs (Ok n) h p in
    let small : n < 2 ^ 64 = omega (arith, g.0.2, g.1) in
    let e : decimal n ≡ bs = ap decimal g.1 ∙ decimal-digits_value own bs g.0.0 g.0.1 (λ w. absurd (z w)) g.0.2 in
    (small, sym e)
reads_plain {E} bs (Err e) h p z = λ n small w.
    let k : ◌≡◌ {A = Result ℕ E} (Err e) (Ok n) = parse-decimal 64 n bs (Err e) small small w h in
    cc

-- a sign in front
pub no_sign : (bs : List ℕ) → get_or bs 0 0 ≡ 43 → IsNumber 64 bs None
no_sign bs p = λ n small w. omega (arith, first_is_digit n small, ap (λ x. get_or x 0 0) w)

pub nothing : (bs : List ℕ) → length bs < 1 → IsNumber 64 bs None
nothing bs p = λ n small w. omega (arith, decimal_nonempty n small, ap length w)

-- a zero in front
pub zero_first : (bs rest : List ℕ) (alone : Bool) → alone ≡ eqb (length rest) 0 → length rest + 1 ≡ length bs → get_or bs 0 0 ≡ 48 → IsNumber 64 bs (then_some alone 0)
zero_first [] rest alone e l z = absurd (omega arith)
zero_first (b ∷ []) rest true e l z = (omega arith, ap (λ x. x ∷ []) z ∙ sym (decimal_digit 0 (omega arith)))
zero_first (b ∷ []) rest false e l z = absurd (grind (arith, nat_tests))
zero_first (b ∷ x ∷ bs) rest true e l z = absurd (grind (arith, nat_tests))
zero_first (b ∷ x ∷ bs) rest false e l z = λ n small w.
    omega (arith, zero_is_alone n small (sym (ap (λ y. get_or y 0 0) w) ∙ z), ap length w)

-- a number is read from what it prints as, and from nothing else
pub number_read : (k n : ℕ) → n < 2 ^ k → n < 2 ^ 64 → number_of k (decimal n) ≡ Some n
unfolding number_of
number_read k n h small =
    let v : digits_value 10 (decimal n) ≡ n = (decimal_is_IsNumeral n small).1 in
    rw v (rw ((bytes_eq-Decides (decimal n) (decimal n)).1 refl, (Decides-ltb n (2 ^ k)).1 h) refl)

number_pick : (a b : Bool) (v n : ℕ) → cond (a && b) (Some v) None ≡ Some n → (a ≡ true) × (b ≡ true) × (v ≡ n)
number_pick true true v n e = (refl, refl, cc)
number_pick _ _ v n e = cc

pub number_spelled : (k : ℕ) (f : List ℕ) (n : ℕ) → number_of k f ≡ Some n → (n < 2 ^ k) × (f ≡ decimal n)
unfolding number_of
number_spelled k f n e =
    let h = number_pick (bytes_eq f (decimal (digits_value 10 f))) (ltb (digits_value 10 f) (2 ^ k)) (digits_value 10 f) n e in
    let small = (Decides-ltb (digits_value 10 f) (2 ^ k)).0 h.1 in
    (omega (arith, small, h.2), (bytes_eq-Decides f (decimal (digits_value 10 f))).0 h.0 ∙ ap decimal h.2)

-- the smaller numbers are among the greater
small_is : (f : List ℕ) (o : Option ℕ) → IsNumber 32 f o → o ≡ number_of 32 f
small_is f o h = number_is_within 32 (λ n small. omega (arith, small)) f o h

pub small_none : (f : List ℕ) → None ≡ number_of 64 f → None ≡ number_of 32 f
small_none f e = small_is f None (λ n small w. let r = number_read 64 n (omega (arith, small)) (omega (arith, small)) in absurd (cc (e, ap (number_of 64) w, r)))

pub small_some : {E : Type 0} (f : List ℕ) (n : ℕ) (r : Result ℕ E) → Some n ≡ number_of 64 f → OkIff r (n < 2 ^ 32) n → result_ok r ≡ number_of 32 f
small_some f n (Ok x) e h = small_is f (Some x) (omega (arith, h.0, h.1), (number_spelled 64 f n (sym e)).1 ∙ ap decimal (sym h.1))
small_some f n (Err x) e h = small_is f None (λ m small w.
    let r = number_read 64 m (omega (arith, small)) (omega (arith, small)) in
    let same : n ≡ m = cc (e, ap (number_of 64) w, r) in
    h (omega (arith, small, same)))
