-- What is printed of an answer and of a state has no byte below a space, so no line feed.
use Rattle.bb8_runner.proofs.Speech.{◌≡◌, ◌≢◌, ℕ, Bool, true, false, cond, eqb, List, [], ◌++◌, Option, Some, None, refl, arith, codes, decimal, All, All-nil, All-weaker, Counts, Figures, figures_of, Grant, grant_text, notifies_text, gets_text, connections_text, gone_text, state_text, answer_text}
use Rattle.bb8_core.specs.declared.replay.events.Answer.{Answer}
use Rattle.bb8_core.specs.declared.replay.events.Answer.TheVariants.{Begun, Served, Taken, Waiting, Kept, Closed, GaveUp, Granted, Claimed, Entered, Late, Added, Reaped, Shown, Left, Looked}
use Rattle.bb8_runner.proofs.Bytes.{IsOver, AreOver, over, are_over, decimal_over, joined}

abbrev AreVisible : List ℕ → Type 0
AreVisible bs = AreOver 31 bs

-- a word, a number, and what follows them
word : (bs rest : List ℕ) → over 31 bs ≡ true → AreVisible rest → AreVisible (bs ++ rest)
word bs rest e h = joined 31 bs rest (are_over 31 bs e) h

number : (n : ℕ) → AreVisible (decimal n)
number n = decimal_over 31 n (omega arith)

after : (n : ℕ) (rest : List ℕ) → AreVisible rest → AreVisible (decimal n ++ rest)
after n rest h = joined 31 (decimal n) rest (number n) h

nothing : AreVisible []
nothing = All-nil (IsOver 31)

unless : (b : Bool) (bs : List ℕ) → AreVisible bs → AreVisible (cond b [] bs)
unless true bs h = nothing
unless false bs h = h

grant_visible : (g : Grant) → AreVisible (grant_text g)
unfolding over
grant_visible g = joined 31 _ _
    (unless (eqb g.count 0) _ (word (codes " grant ") _ refl (after g.count _ (word (codes " at ") _ refl (number g.first)))))
    (unless (eqb g.withheld 0) _ (word (codes " withheld ") _ refl (number g.withheld)))

notifies_visible : (n : Option ℕ) → AreVisible (notifies_text n)
unfolding over
notifies_visible None = nothing
notifies_visible (Some g) = word (codes " notifies ") _ refl (number g)

gets_visible : (c : Counts) → AreVisible (gets_text c)
unfolding over
gets_visible c = word (codes " started ") _ refl (after c.started _ (word (codes " direct ") _ refl (after c.direct _ (word (codes " waited ") _ refl (after c.waited _
    (word (codes " timed_out ") _ refl (after c.timed_out _ (word (codes " cancelled ") _ refl (number c.cancelled)))))))))

connections_visible : (c : Counts) → AreVisible (connections_text c)
unfolding over
connections_visible c = word (codes " wait_us ") _ refl (after _ _ (word (codes " created ") _ refl (after c.created _ (word (codes " broken ") _ refl (after c.broken _
    (word (codes " invalid ") _ refl (after c.invalid _ (word (codes " lifetime ") _ refl (after c.max_lifetime _ (word (codes " idle_timeout ") _ refl (number c.idle_timeout)))))))))))

gone_visible : (c : Counts) → AreVisible (gone_text c)
unfolding over
gone_visible c = joined 31 _ _
    (unless (eqb c.retired 0) _ (word (codes " retired ") _ refl (number c.retired)))
    (unless (eqb c.detached 0) _ (word (codes " detached ") _ refl (number c.detached)))

state_visible : (f : Figures) → AreVisible (state_text f)
unfolding over
state_visible f = word (codes "state connections ") _ refl (after f.connections _ (word (codes " idle ") _ refl (after f.idle _
    (joined 31 (gets_text f.counts) _ (gets_visible f.counts) (joined 31 (connections_text f.counts) _ (connections_visible f.counts) (gone_visible f.counts))))))

answer_visible : (a : Answer) → AreVisible (answer_text a)
unfolding over
answer_visible (Begun g) = word (codes "begun ") _ refl (number g)
answer_visible (Served k grant) = word (codes "served ") _ refl (after k _ (grant_visible grant))
answer_visible (Taken k grant) = word (codes "taken ") _ refl (after k _ (grant_visible grant))
answer_visible (Waiting grant) = word (codes "waiting") _ refl (grant_visible grant)
answer_visible (Kept k notified) = word (codes "kept ") _ refl (after k _ (notifies_visible notified))
answer_visible (Closed k grant notified) = word (codes "closed ") _ refl (after k _ (joined 31 (grant_text grant) (notifies_text notified) (grant_visible grant) (notifies_visible notified)))
answer_visible (GaveUp notified) = word (codes "gave up") _ refl (notifies_visible notified)
answer_visible (Granted grant) = word (codes "granted") _ refl (grant_visible grant)
answer_visible (Claimed (Some a)) = word (codes "claimed ") _ refl (number a)
answer_visible (Entered a notified) = word (codes "entered ") _ refl (after a _ (notifies_visible notified))
answer_visible (Late a) = word (codes "late ") _ refl (number a)
answer_visible (Added k notified) = word (codes "added ") _ refl (after k _ (notifies_visible notified))
answer_visible (Reaped closed by_idle by_life grant) = word (codes "reaped ") _ refl (after closed _
    (word (codes " idle ") _ refl (after by_idle _ (word (codes " life ") _ refl (after by_life _ (grant_visible grant))))))
answer_visible (Shown state) = state_visible (figures_of state)
answer_visible (Left n) = word (codes "left ") _ refl (number n)
answer_visible (Looked m true) = word (codes "looked ") _ refl (after m.0 _ (are_over 31 (codes " open") refl))
answer_visible (Looked m false) = word (codes "looked ") _ refl (after m.0 _ (are_over 31 (codes " closed") refl))
answer_visible a = are_over 31 (answer_text a) refl

one_line : (bs : List ℕ) → AreVisible bs → All (λ b. b ≢ 10) bs
one_line bs h = All-weaker (IsOver 31) (λ b. b ≢ 10) (λ b g w. omega (arith, g.0, w)) bs h

pub answer_line : (a : Answer) → All (λ b. b ≢ 10) (answer_text a)
answer_line a = one_line (answer_text a) (answer_visible a)

pub state_line : (f : Figures) → All (λ b. b ≢ 10) (state_text f)
state_line f = one_line (state_text f) (state_visible f)
