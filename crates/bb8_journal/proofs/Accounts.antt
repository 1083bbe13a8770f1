-- Notes and the entries that they are of.
use Rattle.bb8_journal.proofs.Words.{Bool, true, false, cond, ◌==◌, ◌≡◌, ℕ, zero, suc, ◌+◌, ◌<◌, ◌≤◌, ◌⊎◌, inl, inr, List, [], ◌∷◌, ◌++◌, map, length, take, get_or, refl, sym, ap, ◌∙◌, subst, append-nil, arith, All, IsPermutation, Contains, sum_by, remove, take_more, length-take-le, length-map, All-contains, All-nil, All-cons, All-weaker, get_or-map, All-head, All-tail, All-push, Contains-get_or, Contains-append_left, Contains-append_right, Contains-append_cases, Answer, Entry, Notes, Line, lines_from, lines_by, lines_noted, IsAccount, entries_of, steps_in}
use Rattle.std.proofs.lemmas.List.Sums.{sum_by-cons, sum_by-append}
use Rattle.std.proofs.lemmas.Map.Made.{Contains-tail}
use Rattle.std.proofs.lemmas.List.Concat.{flat_map-append, length-flat_map}
use Rattle.std.proofs.lemmas.List.Sorted.{IsPermutation-refl, IsPermutation-sym, IsPermutation-cons, IsPermutation-trans, IsPermutation-remove, Contains-permutation, length_permutation, sum_by-IsPermutation}

-- ---- elements of lists

map_contains : {X Y : Type 0} (f : X → Y) (xs : List X) (x : X) → Contains xs x → Contains (map f xs) (f x)
map_contains f xs x p = (p.0, rw length-map p.1, get_or-map f xs p.0 x (f x) p.1 ∙ ap f p.2)

map_origin : {X Y : Type 0} (f : X → Y) (xs : List X) (y : Y) → Contains (map f xs) y → (x : X) × Contains xs x × (f x ≡ y)
map_origin f [] y p = absurd (let q : p.0 < 0 = p.1 in omega arith)
map_origin f (x ∷ xs) y p =
    let below : p.0 < length (x ∷ xs) = rw length-map at p.1 in
    (get_or (x ∷ xs) p.0 x, Contains-get_or (x ∷ xs) p.0 x below, sym (get_or-map f (x ∷ xs) p.0 x y below) ∙ p.2)

-- ---- what seats noted

-- what a seat noted is a line of that seat
pub noted_line : (n : Notes) (i seat : ℕ) (a : Answer) → n.seat ≡ seat → Contains n.noted.items (i, a) → Contains (lines_by n) (i, (seat, a))
noted_line n i seat a is h = subst (λ (s : ℕ). Contains (lines_by n) (i, (s, a))) is (map_contains (λ (p : ℕ × Answer). (p.0, (n.seat, p.1))) n.noted.items (i, a) h)

-- a line of a seat was noted by it
pub line_noted : (n : Notes) (i seat : ℕ) (a : Answer) → Contains (lines_by n) (i, (seat, a)) → (n.seat ≡ seat) × Contains n.noted.items (i, a)
line_noted n i seat a h =
    let r = map_origin (λ (p : ℕ × Answer). (p.0, (n.seat, p.1))) n.noted.items (i, (seat, a)) h in
    (ap (λ (l : Line). l.1.0) r.2, subst (λ (p : ℕ × Answer). Contains n.noted.items p) (pair r.0 (i, a) (ap (λ (l : Line). l.0) r.2) (ap (λ (l : Line). l.1.1) r.2)) r.1)
  where
    pair : (p q : ℕ × Answer) → p.0 ≡ q.0 → p.1 ≡ q.1 → p ≡ q
    pair p q x y = λ i. (x i, y i)

pub in_all : (notes : List Notes) (i : ℕ) (n : Notes) (x : Line) → i < length notes → n ≡ get_or notes i n → Contains (lines_by n) x → Contains (lines_noted notes) x
in_all [] i n x few is h = absurd (omega arith)
in_all (m ∷ ms) zero n x few is h = Contains-append_left (lines_by m) (lines_noted ms) x (subst (λ (k : Notes). Contains (lines_by k) x) is h)
in_all (m ∷ ms) (suc i) n x few is h = Contains-append_right (lines_by m) (lines_noted ms) x (in_all ms i n x (omega arith) is h)

pub in_none : (notes : List Notes) (i : ℕ) (n : Notes) (x : Line) → i < length notes → n ≡ get_or notes i n
    → (Contains (lines_noted (take i notes)) x → ⊥) → (Contains (lines_by n) x → ⊥) → Contains (lines_noted (take (i + 1) notes)) x → ⊥
in_none notes i n x few is before here h = go (Contains-append_cases (lines_noted (take i notes)) (lines_by n) x (subst (λ (ls : List Line). Contains ls x) grown h))
  where
    grown : lines_noted (take (i + 1) notes) ≡ lines_noted (take i notes) ++ lines_by n
    grown =
        ap lines_noted (take_more notes i n few ∙ ap (λ (k : Notes). take i notes ++ k ∷ []) (sym is))
        ∙ flat_map-append lines_by (take i notes) (n ∷ [])
        ∙ ap (λ (ls : List Line). lines_noted (take i notes) ++ ls) (append-nil (lines_by n))

    go : Contains (lines_noted (take i notes)) x ⊎ Contains (lines_by n) x → ⊥
    go (inl p) = before p
    go (inr p) = here p

-- as many as all seats noted
many : (notes : List Notes) → length (lines_noted notes) ≡ sum_by (λ n. length n.noted.items) notes
many notes = simp length-map at (length-flat_map lines_by notes)

-- ---- entries and their lines

lines_length : (i : ℕ) (es : List Entry) → length (lines_from i es) ≡ length es
lines_length i [] = refl
lines_length i (e ∷ es) = ap suc (lines_length (i + 1) es)

lines_more : (i j : ℕ) (es : List Entry) (e : Entry) → i + length es ≡ j → lines_from i (es ++ e ∷ []) ≡ lines_from i es ++ (j, (e.seat, e.answer)) ∷ []
lines_more i j [] e is = ap (λ (k : ℕ). (k, (e.seat, e.answer)) ∷ []) (let p : i + 0 ≡ j = is in omega arith)
lines_more i j (x ∷ es) e is = ap (λ (ls : List Line). (i, (x.seat, x.answer)) ∷ ls) (lines_more (i + 1) j es e (let p : i + suc (length es) ≡ j = is in omega arith))

-- each entry has its line
pub line_in : (i j k : ℕ) (es : List Entry) (d : Entry) → k < length es → i + k ≡ j → Contains (lines_from i es) (j, ((get_or es k d).seat, (get_or es k d).answer))
line_in i j k [] d few is = absurd (omega arith)
line_in i j zero (e ∷ es) d few is = (0, omega arith, ap (λ (n : ℕ). (n, (e.seat, e.answer))) (omega arith))
line_in i j (suc k) (e ∷ es) d few is =
    Contains-append_right ((i, (e.seat, e.answer)) ∷ []) (lines_from (i + 1) es) (j, ((get_or es k d).seat, (get_or es k d).answer))
    (line_in (i + 1) j k es d (omega arith) (omega arith))

-- the lines from an index on have no lower one
low : (i : ℕ) (es : List Entry) → All (λ x. i ≤ x.0) (lines_from i es)
low i [] = All-nil (λ x. i ≤ x.0)
low i (e ∷ es) = All-cons (λ x. i ≤ x.0) (i, (e.seat, e.answer)) (lines_from (i + 1) es) (omega arith) (All-weaker (λ x. i + 1 ≤ x.0) (λ x. i ≤ x.0) (λ x h. omega (arith, h)) (lines_from (i + 1) es) (low (i + 1) es))

-- one entry more is noted
pub more_noted : (A : List Line) (es : List Entry) (i : ℕ) (d : Entry) → i < length es
    → All (Contains A) (lines_from 0 (take i es)) → Contains A (i, ((get_or es i d).seat, (get_or es i d).answer))
    → All (Contains A) (lines_from 0 (take (i + 1) es))
more_noted A es i d few all here =
    let e : Entry = get_or es i d in
    let grown : lines_from 0 (take (i + 1) es) ≡ lines_from 0 (take i es) ++ (i, (e.seat, e.answer)) ∷ [] =
    ap (lines_from 0) (take_more es i d few) ∙ lines_more 0 i (take i es) e (omega (arith, length-take-le i es (omega arith))) in
    subst (λ (ls : List Line). All (Contains A) ls) (sym grown) (All-push (Contains A) (lines_from 0 (take i es)) (i, (e.seat, e.answer)) all here)

-- Notes that are as many as the entries, and among which each entry has its line, are the entries'
-- lines in another order.
accounts : (i : ℕ) (es : List Entry) (A : List Line) → ((x : Line) → Contains (lines_from i es) x → Contains A x) → length A ≡ length es → IsPermutation A (lines_from i es)
accounts i [] [] all len = IsPermutation-refl []
accounts i [] (x ∷ A) all len = absurd (omega arith)
accounts i (e ∷ es) A all len =
    IsPermutation-trans A (b ∷ remove A at.0) (b ∷ lines_from (i + 1) es) first
    (IsPermutation-cons b (remove A at.0) (lines_from (i + 1) es)
    (accounts (i + 1) es (remove A at.0) others
    (let n : suc (length (remove A at.0)) ≡ length A = length_permutation A (b ∷ remove A at.0) first in omega arith)))
  where
    b : Line
    b = (i, (e.seat, e.answer))

    at : Contains A b
    at = all b (0, omega arith, refl)

    first : IsPermutation A (b ∷ remove A at.0)
    first = IsPermutation-remove A at.0 b at.1 (sym at.2)

    others : (x : Line) → Contains (lines_from (i + 1) es) x → Contains (remove A at.0) x
    others x h =
        let above : i + 1 ≤ x.0 = All-contains (λ x. i + 1 ≤ x.0) (lines_from (i + 1) es) x (low (i + 1) es) h in
        Contains-tail b (remove A at.0) x (λ is. omega (arith, above, ap (λ (l : Line). l.0) is))
        (Contains-permutation A (b ∷ remove A at.0) x first (all x (Contains-append_right (b ∷ []) (lines_from (i + 1) es) x h)))

-- Notes that are complete, that are as many as the entries, and among which each entry has
-- its line, account for the history.
pub accounted : (es : List Entry) (notes : List Notes) → All (λ n. n.missing ≡ 0) notes → sum_by (λ n. length n.noted.items) notes ≡ length es
    → All (Contains (lines_noted notes)) (lines_from 0 es) → IsAccount es notes
accounted es notes complete as_many each = record {
  complete = complete;
  each =
      accounts 0 es (lines_noted notes) (λ x h. All-contains (Contains (lines_noted notes)) (lines_from 0 es) x each h)
      (omega (arith, many notes, as_many));
}

-- where they account for it, they are as many as the entries
pub account_many : (es : List Entry) (notes : List Notes) → IsAccount es notes → sum_by (λ n. length n.noted.items) notes ≡ length es
account_many es notes a = omega (arith, many notes, lines_length 0 es, length_permutation (lines_noted notes) (lines_from 0 es) a.each)

-- and each entry has its line among them
pub all_noted : (es : List Entry) (A : List Line) → IsPermutation A (lines_from 0 es) → All (Contains A) (lines_from 0 es)
all_noted es A p = λ k d few. Contains-permutation (lines_from 0 es) A _ (IsPermutation-sym A (lines_from 0 es) p) (Contains-get_or (lines_from 0 es) k d few)

-- ---- how many steps each seat made

-- one for a line of the seat
abbrev is_of : ℕ → Line → ℕ
is_of seat x = cond (x.1.0 == seat) 1 0

lines_counted : (seat i : ℕ) (es : List Entry) → sum_by (is_of seat) (lines_from i es) ≡ entries_of seat es
lines_counted seat i [] = refl
lines_counted seat i (e ∷ es) =
    sum_by-cons (is_of seat) (i, (e.seat, e.answer)) (lines_from (i + 1) es)
    ∙ ap (λ (n : ℕ). cond (e.seat == seat) 1 0 + n) (lines_counted seat (i + 1) es)
    ∙ sym (sum_by-cons (λ (x : Entry). cond (x.seat == seat) 1 0) e es)

none_either : (b : Bool) → ◌≡◌ {A = ℕ} 0 (cond b 0 0)
none_either true = refl
none_either false = refl

one_more_either : (b : Bool) (n : ℕ) → cond b 1 0 + cond b n 0 ≡ cond b (suc n) 0
one_more_either true n = omega arith
one_more_either false n = omega arith

notes_counted : (seat s : ℕ) (ps : List (ℕ × Answer)) → sum_by (is_of seat) (map (λ p. (p.0, (s, p.1))) ps) ≡ cond (s == seat) (length ps) 0
notes_counted seat s [] = none_either (s == seat)
notes_counted seat s (p ∷ ps) =
    sum_by-cons (is_of seat) (p.0, (s, p.1)) (map (λ (q : ℕ × Answer). (q.0, (s, q.1))) ps)
    ∙ ap (λ (n : ℕ). cond (s == seat) 1 0 + n) (notes_counted seat s ps) ∙ one_more_either (s == seat) (length ps)

steps_counted : (seat : ℕ) (notes : List Notes) → All (λ n. n.missing ≡ 0) notes → sum_by (is_of seat) (lines_noted notes) ≡ steps_in seat notes
steps_counted seat [] none = refl
steps_counted seat (n ∷ ns) none =
    let whole : length n.noted.items ≡ length n.noted.items + n.missing = let m : n.missing ≡ 0 = All-head (λ (x : Notes). x.missing ≡ 0) n ns none in omega arith in
    let first : sum_by (is_of seat) (lines_by n) ≡ cond (n.seat == seat) (length n.noted.items + n.missing) 0 =
    notes_counted seat n.seat n.noted.items ∙ ap (λ (k : ℕ). cond (n.seat == seat) k 0) whole in
    let rest : sum_by (is_of seat) (lines_noted ns) ≡ steps_in seat ns = steps_counted seat ns (All-tail (λ (x : Notes). x.missing ≡ 0) n ns none) in
    let all : sum_by (is_of seat) (lines_by n ++ lines_noted ns) ≡ sum_by (is_of seat) (lines_by n) + sum_by (is_of seat) (lines_noted ns) =
    sum_by-append (is_of seat) (lines_by n) (lines_noted ns) in
    all ∙ ap (λ (k : ℕ). k + sum_by (is_of seat) (lines_noted ns)) first
    ∙ ap (λ (k : ℕ). cond (n.seat == seat) (length n.noted.items + n.missing) 0 + k) rest
    ∙ sym (sum_by-cons (λ (x : Notes). cond (x.seat == seat) (length x.noted.items + x.missing) 0) n ns)

-- where the notes account for the history, each seat's entries are as many as its steps
pub seats_counted : (es : List Entry) (notes : List Notes) → IsAccount es notes → (seat : ℕ) → entries_of seat es ≡ steps_in seat notes
seats_counted es notes account seat =
    sym (lines_counted seat 0 es)
    ∙ sum_by-IsPermutation (is_of seat) (lines_noted notes) (lines_from 0 es) account.each
    ∙ steps_counted seat notes account.complete
