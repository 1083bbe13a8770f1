-- Texts whose bytes lie above a bound and below 128.
use Rattle.bb8_runner.proofs.Speech.{◌≡◌, ℕ, zero, suc, ◌+◌, ◌/◌, ◌%◌, ◌<◌, ◌≤◌, Bool, true, false, cond, eqb, ltb, ◌&&◌, List, [], ◌∷◌, ◌++◌, refl, arith, decimal, digits_onto, digit_glyph, All, Decides-ltb, All-nil, All-cons, All-append, All-weaker}
use Rattle.std.specs.Fmt.{digits}
use Rattle.bb8_runner.proofs.Choices.{both}

-- the byte is above the bound, and ASCII
abbrev pub IsOver : ℕ → ℕ → Type 0
IsOver low b = (low < b) × (b < 128)

abbrev pub AreOver : ℕ → List ℕ → Type 0
AreOver low bs = All (IsOver low) bs

unfoldable pub over : ℕ → List ℕ → Bool
over low [] = true
over low (b ∷ bs) = (ltb low b && ltb b 128) && over low bs

-- a text whose bytes are known
pub are_over : (low : ℕ) (bs : List ℕ) → over low bs ≡ true → AreOver low bs
unfolding over
are_over low [] e = All-nil (IsOver low)
are_over low (b ∷ bs) e =
    let h = both (ltb low b && ltb b 128) (over low bs) e in
    let g = both (ltb low b) (ltb b 128) h.0 in
    All-cons (IsOver low) b bs ((Decides-ltb low b).0 g.0, (Decides-ltb b 128).0 g.1) (are_over low bs h.1)

pub joined : (low : ℕ) (xs ys : List ℕ) → AreOver low xs → AreOver low ys → AreOver low (xs ++ ys)
joined low xs ys h g = All-append (IsOver low) xs ys h g

glyph : (n : ℕ) → digit_glyph false (n % 10) ≡ 48 + n % 10
glyph n = rw ((Decides-ltb (n % 10) 10).1 (omega arith)) refl

chosen : (b : Bool) (low : ℕ) (xs ys : List ℕ) → AreOver low xs → AreOver low ys → AreOver low (cond b xs ys)
chosen true low xs ys h g = h
chosen false low xs ys h g = g

onto : (low k n : ℕ) (acc : List ℕ) → low < 48 → AreOver low acc → AreOver low (digits_onto k 10 false n acc)
onto low zero n acc small h = h
onto low (suc k) n acc small h =
    let d : IsOver low (digit_glyph false (n % 10)) = rw (glyph n) (omega arith, omega arith) in
    let more = All-cons (IsOver low) (digit_glyph false (n % 10)) acc d h in
    chosen (eqb (n / 10) 0) low _ _ more (onto low k (n / 10) (digit_glyph false (n % 10) ∷ acc) small more)

-- the digits of a number
pub decimal_over : (low n : ℕ) → low < 48 → AreOver low (decimal n)
unfolding digits
decimal_over low n small = onto low 64 n [] small (All-nil (IsOver low))

-- what lies above a bound lies above each lower one
pub lower : (low high : ℕ) (bs : List ℕ) → low ≤ high → AreOver high bs → AreOver low bs
lower low high bs less h = All-weaker (IsOver high) (IsOver low) (λ b g. (omega (arith, less, g.0), g.1)) bs h
