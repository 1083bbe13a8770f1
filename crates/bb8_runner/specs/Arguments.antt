-- The arguments of the program.
use Rattle.std.specs.Prelude.{ℕ, List, [], ◌∷◌, Option, Some, None, nat_lt, ◌&&◌, if◌then◌else◌, codes, option_and_then}
use Rattle.bb8_runner.specs.Words.{bytes_eq, Script, Threads}
use Rattle.bb8_runner.specs.Grammar.{number_of}
use Rattle.bb8_runner.specs.declared.threads.arguments.Mode.{Mode}

-- this many threads, None if they are not from 1 to 64
abbrev pub threads_of : ℕ → Option Mode
threads_of n = if nat_lt 0 n && nat_lt n 65 then Some (Threads n) else None

-- no word, or `threads` and a number
abbrev pub arguments_of : List (List ℕ) → Option Mode
arguments_of [] = Some Script
arguments_of (word ∷ count ∷ []) = if bytes_eq word (codes "threads") then option_and_then threads_of (number_of 64 count) else None
arguments_of _ = None
