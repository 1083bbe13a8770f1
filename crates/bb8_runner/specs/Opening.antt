-- The grammar of a script's first line. A bad one has a message: a text, and the word that it is about.
use Rattle.std.specs.Prelude.{ℕ, ◌==◌, List, [], ◌∷◌, ◌++◌, length, Bool, true, false, not, if◌then◌else◌, Option, Some, None, Result, Ok, Err, codes, option_map, option_and_then, unwrap_or}
use Rattle.std.specs.Result.{result_ok}
use Rattle.bb8_runner.specs.Words.{before_first, after_first, position_or_len, bytes_eq, list_any, QueueStrategy, Fifo, Lifo, Settings, default_settings, is_lawful, is_unset_or_above_zero, is_unset_or_at_most}
use Rattle.bb8_runner.specs.Grammar.{◌>>=◌, found, number_of, fields_of, Message, expected_number}
use Rattle.bb8_runner.specs.Spelling.{Setting, MaxSize, MinIdle, Check, TestAfter, Lifetime, Idle, Timeout, Reaper, Retry, Strategy, made}

-- a setting's name and value, which its first `=` separates
unfoldable pub cut : List ℕ → Option (List ℕ × List ℕ)
cut field = if position_or_len (λ b. b == 61) field == length field then None else Some (before_first (λ b. b == 61) field, after_first (λ b. b == 61) field)

-- `on` or `off`
abbrev pub on_or_off : List ℕ → Option Bool
on_or_off value = found value ((codes "on", true) ∷ (codes "off", false) ∷ [])

-- `fifo` or `lifo`
abbrev pub strategy_of : List ℕ → Option QueueStrategy
strategy_of value = found value ((codes "fifo", Fifo) ∷ (codes "lifo", Lifo) ∷ [])

-- a number below 2 ^ k, or `none`
unfoldable pub limit_of : ℕ → List ℕ → Option (Option ℕ)
limit_of k value = if bytes_eq value (codes "none") then Some None else option_map Some (number_of k value)

-- the setting that a value makes, by the setting's name
abbrev pub settings_by : List ℕ → List (List ℕ × Option Setting)
settings_by value =
    (codes "max_size", option_map MaxSize (number_of 32 value))
    ∷ (codes "min_idle", option_map MinIdle (limit_of 32 value))
    ∷ (codes "check", option_map Check (on_or_off value))
    ∷ (codes "test_after", option_map TestAfter (number_of 64 value))
    ∷ (codes "lifetime", option_map Lifetime (limit_of 64 value))
    ∷ (codes "idle", option_map Idle (limit_of 64 value))
    ∷ (codes "timeout", option_map Timeout (number_of 64 value))
    ∷ (codes "reaper", option_map Reaper (number_of 64 value))
    ∷ (codes "retry", option_map Retry (on_or_off value))
    ∷ (codes "strategy", option_map Strategy (strategy_of value))
    ∷ []

-- the settings with one changed
unfoldable pub with_setting : Settings → List ℕ → List ℕ → Option Settings
with_setting s name value = option_and_then (λ o. option_map (made s) o) (found name (settings_by value))

-- the value of a setting of this name
unfoldable pub expected_value : List ℕ → Option (List ℕ)
expected_value name = found name (
    (codes "max_size", codes "expected a number below 2^32 without leading zeros, found")
    ∷ (codes "min_idle", codes "expected \"none\" or a number below 2^32 without leading zeros, found")
    ∷ (codes "check", codes "expected \"on\" or \"off\", found")
    ∷ (codes "test_after", expected_number)
    ∷ (codes "lifetime", codes "expected \"none\" or a number below 2^64 without leading zeros, found")
    ∷ (codes "idle", codes "expected \"none\" or a number below 2^64 without leading zeros, found")
    ∷ (codes "timeout", expected_number)
    ∷ (codes "reaper", expected_number)
    ∷ (codes "retry", codes "expected \"on\" or \"off\", found")
    ∷ (codes "strategy", codes "expected \"fifo\" or \"lifo\", found")
    ∷ [])

-- a setting of another name, or with another value
abbrev pub value_error : List ℕ → List ℕ → Message
value_error name value = unwrap_or (option_map (λ expected. (expected, value)) (expected_value name)) (codes "unknown setting", name)

-- whether a field is a setting of this name
abbrev pub is_named : List ℕ → List ℕ → Bool
is_named name field = unwrap_or (option_map (λ p. bytes_eq p.0 name) (cut field)) false

-- the settings with that of this name and value, if no field before has the name
abbrev pub with_new : List (List ℕ) → Settings → List ℕ → List ℕ → Result Settings Message
with_new before s name value = unwrap_or (option_map (λ t. if list_any (is_named name) before then Err (codes "repeated setting", name) else Ok t) (with_setting s name value)) (Err (value_error name value))

-- the settings with that of a field
unfoldable pub with_field : List (List ℕ) → Settings → List ℕ → Result Settings Message
with_field before s field = unwrap_or (option_map (λ p. with_new before s p.0 p.1) (cut field)) (Err (codes "expected \"=\" and a value after", field))

-- settings that no pool accepts
abbrev pub unlawful_error : Settings → Message
unlawful_error s =
    if s.max_size == 0 then (codes "expected more than 0 for", codes "max_size")
    else (if not (is_unset_or_at_most s.min_idle s.max_size) then (codes "expected at most max_size for", codes "min_idle")
    else (if not (is_unset_or_above_zero s.max_lifetime) then (codes "expected more than 0 for", codes "lifetime")
    else (if not (is_unset_or_above_zero s.idle_timeout) then (codes "expected more than 0 for", codes "idle")
    else (if s.connection_timeout == 0 then (codes "expected more than 0 for", codes "timeout")
    else (codes "expected more than 0 for", codes "reaper")))))

-- the settings, if a pool accepts them
unfoldable pub if_lawful : Settings → Result Settings Message
if_lawful s = if is_lawful s then Ok s else Err (unlawful_error s)

-- the settings with those of these fields, after others
unfoldable pub with_fields : List (List ℕ) → Settings → List (List ℕ) → Result Settings Message
with_fields before s [] = if_lawful s
with_fields before s (field ∷ fields) = with_field before s field >>= λ t. with_fields (before ++ field ∷ []) t fields

-- the configuration of these fields: the word `config`, and settings
unfoldable pub settings_of_fields : List (List ℕ) → Result Settings Message
settings_of_fields [] = Err (codes "expected \"config\", found", [])
settings_of_fields (word ∷ fields) = if bytes_eq word (codes "config") then with_fields [] default_settings fields else Err (codes "expected \"config\", found", word)

-- the configuration of a line
abbrev pub settings_of_line : List ℕ → Option Settings
settings_of_line line = result_ok (settings_of_fields (fields_of line))
