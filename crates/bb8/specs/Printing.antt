-- The text that a printing sink writes.
use Rattle.std.specs.Prelude.{ℕ, List, ◌++◌, Option, Some, None, codes}

-- the line about an error of a pool with this name, if the error prints as given
abbrev pub line_text : List ℕ → Option (List ℕ) → Option (List ℕ)
line_text name (Some text) = Some (name ++ (codes ": " ++ text))
line_text name None = None
