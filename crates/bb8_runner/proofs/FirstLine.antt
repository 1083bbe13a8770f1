-- The settings of the first line, read one by one.
use Rattle.bb8_runner.proofs.Speech.{◌≡◌, ℕ, ◌+◌, ◌<◌, ◌≤◌, eqb, Bool, ◌||◌, sym, list_any, List, [], ◌∷◌, ◌++◌, length, get_or, take, drop, map, Option, Some, None, Result, Ok, Err, refl, ap, ◌∙◌, arith, Bor, position_or_len, at_drop_more, at_drop_all, Decides-eqb, lit<, Settings, ◌>>=◌, Message}
use Rattle.bb8_runner.specs.Opening.{cut, if_lawful, with_field, with_fields}
use Rattle.std.specs.Option.{option_map}
use Rattle.std.proofs.lemmas.List.{map-append, take_more}
use Rattle.std.proofs.lemmas.Str.Pattern.{IsSplitOnceResult, split_once_first}
use Rattle.bb8_runner.proofs.Texts.{not_true}

-- the settings with those of the fields from index i on
abbrev pub with_rest : List (Bor (List ℕ)) → ℕ → Settings → Result Settings Message
with_rest xs i s = with_fields (map (λ x. x.now) (take i xs)) s (map (λ x. x.now) (drop i xs))

one_more : (xs : List (Bor (List ℕ))) (i : ℕ) (d : Bor (List ℕ)) (s : Settings) → i < length xs
    → with_rest xs i s ≡ (with_field (map (λ x. x.now) (take i xs)) s (get_or xs i d).now >>= λ t. with_rest xs (i + 1) t)
unfolding with_fields
one_more xs i d s h =
    let more : map (λ x. x.now) (take (i + 1) xs) ≡ map (λ x. x.now) (take i xs) ++ (get_or xs i d).now ∷ [] =
    ap (map (λ x. x.now)) (take_more xs i d h) ∙ map-append (λ (x : Bor (List ℕ)). x.now) (take i xs) (get_or xs i d ∷ []) in
    at_drop_more (λ ys. with_fields (map (λ x. x.now) (take i xs)) s (map (λ x. x.now) ys)) xs i d h
    ∙ ap (λ b. with_field (map (λ x. x.now) (take i xs)) s (get_or xs i d).now >>= λ t. with_fields b t (map (λ x. x.now) (drop (i + 1) xs))) (sym more)

pub stops : (xs : List (Bor (List ℕ))) (i : ℕ) (d : Bor (List ℕ)) (s : Settings) (m : Message) → i < length xs
    → Err m ≡ with_field (map (λ x. x.now) (take i xs)) s (get_or xs i d).now → Err m ≡ with_rest xs i s
stops xs i d s m h e = sym (one_more xs i d s h ∙ ap (λ r. r >>= λ t. with_rest xs (i + 1) t) (sym e))

pub goes : (xs : List (Bor (List ℕ))) (i : ℕ) (d : Bor (List ℕ)) (s t : Settings) → i < length xs
    → Ok t ≡ with_field (map (λ x. x.now) (take i xs)) s (get_or xs i d).now → with_rest xs (i + 1) t ≡ with_rest xs i s
goes xs i d s t h e = sym (one_more xs i d s h ∙ ap (λ r. r >>= λ t. with_rest xs (i + 1) t) (sym e))

pub ends : (xs : List (Bor (List ℕ))) (i : ℕ) (s : Settings) → length xs ≤ i → with_rest xs i s ≡ if_lawful s
unfolding with_fields
ends xs i s h = at_drop_all (λ ys. with_fields (map (λ x. x.now) (take i xs)) s (map (λ x. x.now) ys)) xs i h

pub any_of : {X Y : Type 0} (p : Y → Bool) (f : X → Y) (xs : List X) → list_any (λ x. p (f x)) xs ≡ list_any p (map f xs)
any_of p f [] = refl
any_of p f (x ∷ xs) = ap (λ b. p (f x) || b) (any_of p f xs)

pub cut_is : (bs : List ℕ) (r : Option (Bor (List ℕ) × Bor (List ℕ))) → IsSplitOnceResult 61 bs r → option_map (λ x. (x.0.now, x.1.now)) r ≡ cut bs
unfolding cut
cut_is bs None h =
    let e = split_once_first 61 bs None h (lit< tt) in
    rw ((Decides-eqb (position_or_len (λ b. eqb b 61) bs) (length bs)).1 e) refl
cut_is bs (Some x) h =
    let e = split_once_first 61 bs (Some x) h (lit< tt) in
    rw (not_true (eqb (position_or_len (λ b. eqb b 61) bs) (length bs)) (λ w. omega (arith, e.0, (Decides-eqb (position_or_len (λ b. eqb b 61) bs) (length bs)).0 w)), e.1, e.2) refl
