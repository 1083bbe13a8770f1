-- Messages about bad lines: those of printable bytes.
use Rattle.bb8_runner.proofs.Speech.{◌≡◌, ℕ, ◌<◌, true, cond, eqb, List, [], ◌∷◌, Option, Some, None, refl, sym, subst, ◌∙◌, arith, nat_tests, IsAscii, IsUtf8}
use Rattle.std.specs.Prelude.{◌||◌, IfSome}
use Rattle.std.specs.Char.{is_ascii_graphic}
use Rattle.std.specs.List.{list_all}
use Rattle.std.proofs.lemmas.Str.{IsUtf8-from_ascii}
use Rattle.std.proofs.lemmas.Str.Ascii.{IsAscii-cons, IsAscii-nil}
use Rattle.bb8_runner.specs.Errors.{is_printable, IsErrorText}
use Rattle.bb8_runner.proofs.Choices.{both}
use Rattle.bb8_runner.proofs.Texts.{not_true}

below : (b : ℕ) → (eqb b 32 || is_ascii_graphic b) ≡ true → b < 128
below b e = grind (arith, nat_tests)

printable_ascii : (bs : List ℕ) → list_all is_printable bs ≡ true → IsAscii bs
printable_ascii [] e = IsAscii-nil
printable_ascii (b ∷ bs) e = let h = both (is_printable b) (list_all is_printable bs) e in IsAscii-cons b bs (below b h.0) (printable_ascii bs h.1)

pub printable_is_text : (bs : List ℕ) → list_all is_printable bs ≡ true → IsUtf8 bs
printable_is_text bs e = IsUtf8-from_ascii bs (printable_ascii bs e)

-- what is no text cannot be printed
pub not_text : (bs : List ℕ) → (IsUtf8 bs → ⊥) → ◌≡◌ {A = Option (List ℕ)} None (cond (list_all is_printable bs) (Some bs) None)
not_text bs h = rw (not_true (list_all is_printable bs) (λ e. h (printable_is_text bs e))) refl

-- what was written of the message, for an input that is known
pub told : (known : Option (List ℕ)) (items input bytes text : List ℕ) (W : List ℕ → Type 0) → IfSome known (λ b. items ≡ b) → input ≡ items → text ≡ bytes → IsErrorText input bytes → W text
    → IfSome known (λ b. (x : List ℕ) × IsErrorText b x × W x)
told None items input bytes text W h e f is w = tt
told (Some b) items input bytes text W h e f is w = (text, subst (λ xs. IsErrorText xs text) (e ∙ h) (subst (λ t. IsErrorText input t) (sym f) is), w)
