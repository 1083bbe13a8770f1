-- Ordered lists of indexes, and the links that store them.
use Rattle.std.specs.Prelude.{◌≤◌, ℕ, List, Option, Some, None, slice_get}
use Rattle.bb8_tables.specs.declared.line.Link.{Link}
use Rattle.bb8_tables.specs.declared.line.Line.TheInside.{Inside}
use Rattle.bb8_tables.specs.Spelled.{walk, Spells, Joins}

-- the number of indexes, and the ordered list of some of them
pub record Ordered : Type 0 where
  pub size : ℕ
  pub places : List ℕ

-- the most indexes: as many as links of 32 bits can distinguish
abbrev pub most_places : ℕ
most_places = 4294967296

-- the target of a link; its own index if there is none
abbrev pub after_at : ℕ → Option Link → ℕ
after_at i None = i
after_at i (Some x) = x.after

abbrev pub before_at : ℕ → Option Link → ℕ
before_at i None = i
before_at i (Some x) = x.before

abbrev pub after_of : List Link → ℕ → ℕ
after_of xs i = after_at i (slice_get xs i)

abbrev pub before_of : List Link → ℕ → ℕ
before_of xs i = before_at i (slice_get xs i)

-- whether b follows a from now on
abbrev pub JoinsAt : List Link → List Link → ℕ → ℕ → Type 0
JoinsAt old new a b = Joins (after_of old) (before_of old) (after_of new) (before_of new) a b

-- the list that the links spell
abbrev pub spelled : Inside → List ℕ
spelled a = walk (after_of a.links.entries.items) a.len (after_of a.links.entries.items 0)

abbrev pub view_of : Inside → Ordered
view_of a = record { size = a.links.entries.len; places = spelled a }

pub record IsGood (a : Inside) : Type 0 where
  pub spells : Spells (after_of a.links.entries.items) (before_of a.links.entries.items) 0 (spelled a)
  pub few : a.links.entries.len ≤ most_places
