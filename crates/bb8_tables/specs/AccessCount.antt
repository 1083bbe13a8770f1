-- How many table entries a step read, and how often it searched a table.
use Rattle.std.specs.Prelude.{◌≡◌, ◌≤◌, ℕ, ◌+◌, ◌%◌, ◌^◌, min, refl}
use Rattle.std.specs.Coded.{Coded, code_by, coded×, coded_ℕ}
use Rattle.bb8_types.specs.Bounds.{end_of_numbers}

-- How many counters ended so far, the entries that the latest one counted, and its searches.
pub record AccessCount : Type 0 where
  pub ended : ℕ
  pub reads : ℕ
  pub searched : ℕ

-- the count before the first step
abbrev pub no_accesses : AccessCount
no_accesses = record { ended = 0; reads = 0; searched = 0 }

-- the number of ended counters after one more; it wraps
abbrev pub one_more : AccessCount → ℕ
one_more l = (l.ended + 1) % 2 ^ 64

-- the latest count after this counter ended
abbrev pub after_count : AccessCount → AccessCount → AccessCount
after_count count l = record count { ended = one_more l }

-- one entry more is read
abbrev pub counts_read : AccessCount → AccessCount
counts_read l = record l { reads = min (l.reads + 1) end_of_numbers }

-- one search more is made
abbrev pub counts_search : AccessCount → AccessCount
counts_search l = record l { searched = min (l.searched + 1) end_of_numbers }

-- in one step at most so many entries more were read, and at most so many searches more made
abbrev pub AddsReads : ℕ → ℕ → AccessCount → AccessCount → Type 0
AddsReads entries more old new = (new.ended ≡ old.ended) × (new.reads ≤ old.reads + entries) × (new.searched ≤ old.searched + more)

abbrev pub access_count_code : Coded AccessCount
access_count_code =
    code_by
    (ℕ × (ℕ × ℕ))
    (coded× coded_ℕ (coded× coded_ℕ coded_ℕ))
    (λ l. (l.ended, (l.reads, l.searched)))
    (λ p. record { ended = p.0; reads = p.1.0; searched = p.1.1 })
    (λ _. refl)
