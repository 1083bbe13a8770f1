-- The effect of a reap on the records, and its result.
use Rattle.std.specs.Prelude.{◌≡◌, ◌⊎◌, ℕ, ◌+◌, ◌-◌, ◌≤◌, Bool, true, false, List, [], ◌∷◌, length, slice_get, Option, Some, ⊤}
use Rattle.std.specs.Option.{unwrap_or}
use Rattle.std.specs.FinMap.{remove, get}
use Rattle.bb8_types.specs.declared.standing.Standing.{Standing}
use Rattle.bb8_tables.specs.declared.records.reaps.Reaped.{Reaped}
use Rattle.bb8_types.specs.Settings.{Settings}
use Rattle.bb8_types.specs.Places.{idles_out, lives_out}
use Rattle.bb8_tables.specs.Views.{RecordsView}
use Rattle.bb8_tables.specs.Machine.{without}

module _ {C : Type 0} where
  -- after an idle connection ended, wherever it was in the queue
  abbrev pub after_reaped : ℕ → RecordsView C → RecordsView C
  after_reaped k s = record s { places = remove s.places k; idle = without k s.idle; conns = s.conns - 1 }

  -- after these idle connections ended, one after another
  abbrev pub after_reap : List ℕ → RecordsView C → RecordsView C
  after_reap [] s = s
  after_reap (k ∷ ks) s = after_reap ks (after_reaped k s)

  -- whether each of these passed a test when it ended
  abbrev pub AreReaped : (Option (Standing C) → Bool) → List ℕ → RecordsView C → Type 0
  AreReaped test [] s = ⊤
  AreReaped test (k ∷ ks) s = (test (get s.places k) ≡ true) × AreReaped test ks (after_reaped k s)

  -- whether, in addition, each was at the front of the queue then
  abbrev pub AreFirst : (Option (Standing C) → Bool) → List ℕ → RecordsView C → Type 0
  AreFirst test [] s = ⊤
  AreFirst test (k ∷ ks) s = (slice_get s.idle 0 ≡ Some k) × (test (get s.places k) ≡ true) × AreFirst test ks (after_reaped k s)

  -- the count of idle connections beyond min_idle
  abbrev pub beyond : Settings → RecordsView C → ℕ
  beyond config s = length s.idle - unwrap_or config.min_idle 0

  -- A reap. First all that live too long end. Then those that are idle too long end, from the front
  -- of the queue on, until none is left or as many have ended as there were beyond min_idle. The
  -- result has the count for each reason.
  pub record Reaps (config : Settings) (now : ℕ) (old : RecordsView C) (js ks : List ℕ) (new : RecordsView C) (outcome : Reaped) : Type 0 where
    pub aged : AreReaped (lives_out config now) js old
    pub none_aged : (k : ℕ) → lives_out config now (get (after_reap js old).places k) ≡ false
    pub first : AreFirst (idles_out config now) ks (after_reap js old)
    pub few : length ks ≤ beyond config (after_reap js old)
    pub all : (length ks ≡ beyond config (after_reap js old)) ⊎ ((k : ℕ) → idles_out config now (get (after_reap ks (after_reap js old)).places k) ≡ false)
    pub state : new ≡ after_reap ks (after_reap js old)
    pub closed : outcome.closed ≡ length js + length ks
    pub by_idle : outcome.by_idle ≡ length ks
    pub by_life : outcome.by_life ≡ length js
