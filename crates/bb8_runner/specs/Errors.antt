-- The message about a bad line.
use Rattle.std.specs.Prelude.{◌≡◌, ℕ, ◌-◌, ◌==◌, List, [], ◌++◌, Bool, ◌||◌, if◌then◌else◌, codes, decimal, unwrap_or, slice_index_or}
use Rattle.std.specs.Result.{result_err}
use Rattle.bb8_runner.specs.Words.{list_all, is_ascii_graphic}
use Rattle.bb8_runner.specs.Grammar.{Message, event_of_fields, fields_of}
use Rattle.bb8_runner.specs.Opening.{settings_of_fields}
use Rattle.bb8_runner.specs.Script.{IsFirstBad, lines_of}
use Rattle.bb8_runner.specs.Text.{line}

-- the message about the fields of line n, empty if they are good
unfoldable pub line_error : ℕ → List (List ℕ) → Message
line_error n fields = unwrap_or (if n == 1 then result_err (settings_of_fields fields) else result_err (event_of_fields fields)) ([], [])

-- the text, and the word in quotes
abbrev pub quoted : Message → List ℕ
quoted e = e.0 ++ (codes " \"" ++ (e.1 ++ line (codes "\"")))

-- whether the byte is a space or a graphic ASCII character
abbrev pub is_printable : ℕ → Bool
is_printable b = b == 32 || is_ascii_graphic b

-- the message about line n
abbrev pub error_text : ℕ → List ℕ → List ℕ
error_text n bytes = codes "line " ++ (decimal n ++ (codes ": " ++ (if list_all is_printable bytes then quoted (line_error n (fields_of bytes)) else line (codes "expected printable ASCII"))))

-- the message about the first bad line of an input
abbrev pub IsErrorText : List ℕ → List ℕ → Type 0
IsErrorText input text = (n : ℕ) × IsFirstBad (lines_of input) n × (text ≡ error_text n (slice_index_or (lines_of input) (n - 1) []))
