-- The grammar of a script's events. A bad line has a message: a text, and the word that it is about.
use Rattle.std.specs.Prelude.{ℕ, ◌^◌, ◌==◌, nat_lt, List, [], ◌∷◌, Bool, true, false, ◌&&◌, if◌then◌else◌, Option, Some, None, is_some, is_none, ok_or, Result, Ok, Err, codes, decimal, option_and_then, option_map, unwrap_or}
use Rattle.std.specs.Borrow.{Bor}
use Rattle.std.specs.Result.{result_map_both, result_ok}
use Rattle.std.specs.Str.Parse.{digits_value}
use Rattle.bb8_runner.specs.Words.{slice_split, bytes_eq, option_or, Act, Event, TimedOut, Cancelled}
use Rattle.bb8_core.specs.declared.replay.events.Act.TheVariants as kind

-- a text, and the word that it is about
abbrev pub Message : Type 0
Message = List ℕ × List ℕ

-- a function of a result's value, or its message
abbrev pub said : {A B : Type 0} → (A → B) → Result A (Bor (List ℕ) × Bor (List ℕ)) → Result B Message
said f r = result_map_both f (λ m. (m.0.now, m.1.now)) r

infixl 10 ◌>>=◌
-- the second function applied to the value of the first, if there is one
abbrev pub ◌>>=◌ : {A B E : Type 0} → Result A E → (A → Result B E) → Result B E
Ok x >>= f = f x
Err e >>= f = Err e

-- the value beside a word of a table
abbrev pub found : {A : Type 0} → List ℕ → List (List ℕ × A) → Option A
found word [] = None
found word (p ∷ more) = if bytes_eq word p.0 then Some p.1 else found word more

-- The number below 2 ^ k that a field is: exactly the text that the number prints as, so digits
-- without sign or leading zero.
unfoldable pub number_of : ℕ → List ℕ → Option ℕ
number_of k field = if bytes_eq field (decimal (digits_value 10 field)) && nat_lt (digits_value 10 field) (2 ^ k) then Some (digits_value 10 field) else None

-- the verbs without argument
abbrev pub plain_acts : List (List ℕ × Act)
plain_acts =
    (codes "begin", kind.Begin)
    ∷ (codes "fill", kind.Fill false)
    ∷ (codes "ask", kind.Ask)
    ∷ (codes "claim", kind.Claim)
    ∷ (codes "add", kind.Add false)
    ∷ (codes "reap", kind.Reap)
    ∷ (codes "retire", kind.Retire)
    ∷ (codes "state", kind.State)
    ∷ (codes "join", kind.Join)
    ∷ (codes "leave", kind.Leave)
    ∷ (codes "close", kind.Close)
    ∷ (codes "look", kind.Look)
    ∷ []

-- the verbs with a word after them
abbrev pub worded_act : List ℕ → List ℕ → Option Act
worded_act verb word =
    if bytes_eq verb (codes "fill") && bytes_eq word (codes "claimed") then Some (kind.Fill true)
    else (if bytes_eq verb (codes "add") && bytes_eq word (codes "broken") then Some (kind.Add true)
    else None)

-- the verbs with a number after them, and `broken` or not
abbrev pub flagged_acts : ℕ → Bool → List (List ℕ × Act)
flagged_acts n broken =
    (codes "err", kind.CheckedErr n broken)
    ∷ (codes "timeout", kind.GiveUp n TimedOut broken)
    ∷ (codes "cancel", kind.GiveUp n Cancelled broken)
    ∷ (codes "return", kind.PutBack n broken)
    ∷ []

-- the verbs with a number after them
abbrev pub numbered_acts : ℕ → List (List ℕ × Act)
numbered_acts n =
    (codes "try", kind.Try n)
    ∷ (codes "ok", kind.CheckedOk n)
    ∷ (codes "detach", kind.Detach n)
    ∷ (codes "evict", kind.Evict n)
    ∷ (codes "open", kind.Opened n)
    ∷ (codes "fail", kind.Failed n)
    ∷ flagged_acts n false

-- the act of a verb with its arguments
unfoldable pub act_of : List ℕ → List (List ℕ) → Option Act
act_of verb [] = found verb plain_acts
act_of verb (arg ∷ []) = unwrap_or (option_map (λ n. found verb (numbered_acts n)) (number_of 64 arg)) (worded_act verb arg)
act_of verb (arg ∷ word ∷ []) = if bytes_eq word (codes "broken") then option_and_then (λ n. found verb (flagged_acts n true)) (number_of 64 arg) else None
act_of verb (arg ∷ word ∷ more ∷ rest) = None

-- a number of a script
abbrev pub expected_number : List ℕ
expected_number = codes "expected a number below 2^64 without leading zeros, found"

-- the arguments of the verbs that have some
abbrev pub expected_args : List (List ℕ × List ℕ)
expected_args =
    (codes "try", codes "expected only the number of a get after")
    ∷ (codes "ok", codes "expected only the number of a get after")
    ∷ (codes "err", codes "expected the number of a get and at most \"broken\" after")
    ∷ (codes "timeout", codes "expected the number of a get and at most \"broken\" after")
    ∷ (codes "cancel", codes "expected the number of a get and at most \"broken\" after")
    ∷ (codes "return", codes "expected the number of a connection and at most \"broken\" after")
    ∷ (codes "detach", codes "expected only the number of a connection after")
    ∷ (codes "evict", codes "expected only the number of a connection after")
    ∷ (codes "open", codes "expected only the number of an approval after")
    ∷ (codes "fail", codes "expected only the number of an approval after")
    ∷ (codes "fill", codes "expected at most \"claimed\" after")
    ∷ (codes "add", codes "expected at most \"broken\" after")
    ∷ []

-- the arguments of a verb, None if there is no such verb
abbrev pub expected_after : List ℕ → Option (List ℕ)
expected_after verb = option_or (found verb expected_args) (option_map (λ _. codes "expected nothing after") (found verb plain_acts))

-- a verb that has other arguments, or is unknown
abbrev pub verb_error : List ℕ → Message
verb_error verb = unwrap_or (option_map (λ expected. (expected, verb)) (expected_after verb)) (codes "unknown event", verb)

-- a verb that has not these arguments
unfoldable pub act_error : List ℕ → List (List ℕ) → Message
act_error verb [] = verb_error verb
act_error verb (arg ∷ args) = if is_some (found verb (numbered_acts 0)) && is_none (number_of 64 arg) then (expected_number, arg) else verb_error verb

-- the act of the fields after a moment
unfoldable pub act_after : List ℕ → List (List ℕ) → Result Act Message
act_after moment [] = Err (codes "expected an event after", moment)
act_after moment (verb ∷ args) = ok_or (act_of verb args) (act_error verb args)

-- the event of these fields: a moment, a verb and its arguments
unfoldable pub event_of_fields : List (List ℕ) → Result Event Message
event_of_fields [] = Err (codes "expected an event after", [])
event_of_fields (moment ∷ fields) = do
  at ← ok_or (number_of 64 moment) (expected_number, moment)
  act ← act_after moment fields
  Ok (record { at = record { 0 = at }; act = act })

-- the fields of a line, which spaces separate
abbrev pub fields_of : List ℕ → List (List ℕ)
fields_of line = slice_split (λ b. b == 32) line

-- the event of a line
abbrev pub event_of : List ℕ → Option Event
event_of line = result_ok (event_of_fields (fields_of line))
