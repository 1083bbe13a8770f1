-- The step of a reap.
use Rattle.std.proofs.lemmas.Bool.Decides.{nat_tests}
use Rattle.bb8_core.proofs.Words.{arith, ℕ, ◌≡◌, ◌+◌, ◌≤◌, List, max, Ledger, Before, length, start, idle_at, records, Counts, latest, end_of_numbers, position, peak, length-append, outlived, outlived_at, reaped_at, idled_at, with_ended, idled, retiring, retired_at, after_reap, Reaps, RecordsView, ReapCounts, reaped_sized, retired_sized, ended_append, entered_before, StateView, shown_records, HasLedger}
use Rattle.bb8_core.proofs.Fitting.{shown, shown_fits, ended_shown}
use Rattle.bb8_core.proofs.ShownReaped.{AreEnded, all_ended}
use Rattle.bb8_core.proofs.Meets.{retiring_by}
use Rattle.bb8_core.proofs.Steps.{none_more}

-- what a retire closes counts in one figure
pub only_retired : (c : Counts) (n : ℕ) → record c { max_lifetime = c.max_lifetime + 0; idle_timeout = c.idle_timeout + 0; retired = c.retired + n } ≡ record c { retired = c.retired + n }
only_retired c n = grind (arith, nat_tests, none_more c.max_lifetime, none_more c.idle_timeout)

module _ {C : Type 0} where
  -- what the code ended is what the ledger's list ends, at any position
  abbrev pub Ended_at : Ledger C → ℕ → ℕ → List ℕ → List ℕ → Type 0
  Ended_at l at p js ks = AreEnded (start l) p (peak l) (max (latest l) at) js ks (records l)

  -- the records once both have ended
  abbrev pub both_ended : List ℕ → List ℕ → RecordsView C → RecordsView C
  both_ended js ks rs = after_reap ks (after_reap js rs)

  pub ended_at : (l : Ledger C) (at p : ℕ) (js ks : List ℕ) (outcome : ReapCounts) → Before idle_at p (records l) → shown_records (start l).first p (peak l) (records l) ≡ (shown l).records
      → Reaps (start l).config (max (latest l) at) (shown l).records js ks (both_ended js ks (shown l).records) outcome → Ended_at l at p js ks
  ended_at l at p js ks outcome before is h = grind (arith, nat_tests, all_ended (start l) p (peak l) (max (latest l) at) js ks (records l) before)

  -- the ledger's list, by the numbers that the code ended
  pub ended_is : (l : Ledger C) (at : ℕ) (js ks : List ℕ) → Ended_at l at (position l) js ks
      → with_ended (start l).first ks (with_ended (start l).first (outlived_at l at) (records l)) ≡ with_ended (start l).first (reaped_at l at) (records l)
  ended_is l at js ks here = grind (arith, nat_tests, ended_append)

  -- ---- a retire: as a reap at which each idle connection has lived too long

  -- what the code ended is what the ledger's list ends, at any position
  abbrev pub Retired_at : Ledger C → ℕ → ℕ → List ℕ → List ℕ → Type 0
  Retired_at l at p js ks = AreEnded (retiring (start l)) p (peak l) (max (latest l) at) js ks (records l)

  pub retired_ends : (l : Ledger C) (at p : ℕ) (js ks : List ℕ) (outcome : ReapCounts) → Before idle_at p (records l) → shown_records (start l).first p (peak l) (records l) ≡ (shown l).records
      → Reaps (retiring_by (start l).config) (max (latest l) at) (shown l).records js ks (both_ended js ks (shown l).records) outcome → Retired_at l at p js ks
  retired_ends l at p js ks outcome before is h = grind (arith, nat_tests, all_ended (retiring (start l)) p (peak l) (max (latest l) at) js ks (records l) before)

  -- of those that it ends, which lived too long, and which were idle too long once those had ended
  abbrev pub old_ones : Ledger C → ℕ → List ℕ
  old_ones l at = outlived (retiring (start l)) (max (latest l) at) (records l)

  abbrev pub other_ones : Ledger C → ℕ → List ℕ
  other_ones l at = idled (retiring (start l)) (position l) (max (latest l) at) (with_ended (start l).first (old_ones l at) (records l))

  pub retired_is : (l : Ledger C) (at : ℕ) (js ks : List ℕ) → Retired_at l at (position l) js ks
      → with_ended (start l).first ks (with_ended (start l).first (old_ones l at) (records l)) ≡ with_ended (start l).first (retired_at l at) (records l)
  retired_is l at js ks here = grind (arith, nat_tests, ended_append)

  -- as many as the code returned
  pub retired_many : (l : Ledger C) (at : ℕ) (js ks : List ℕ) (outcome : ReapCounts) → outcome.closed ≡ length js + length ks → Retired_at l at (position l) js ks → outcome.closed ≡ length (retired_at l at)
  retired_many l at js ks outcome closed here = grind (arith, nat_tests, length-append (old_ones l at) (other_ones l at))

  -- no more are retired than there are connections, so they may be counted
  pub retired_few : (s : StateView C) {js ks : List ℕ} {now : ℕ} {mid : RecordsView C} {outcome : ReapCounts} → HasLedger s → s.latest ≤ now
      → Reaps (retiring_by s.config) now s.records js ks mid outcome → s.records.next ≤ end_of_numbers
      → s.counts.retired + outcome.closed ≤ end_of_numbers
  retired_few s {js} {ks} {now} {mid} {outcome} h later ended few =
      grind (arith, nat_tests, retired_ends h.0 now (position h.0) js ks outcome (entered_before h.0), entered_before h.0, retired_many h.0 now js ks outcome, retired_sized h.0 now, shown_fits s h)

  -- no more end than there are connections
  ended_few : (s : StateView C) {js ks : List ℕ} {now : ℕ} {mid : RecordsView C} {outcome : ReapCounts} → HasLedger s → s.latest ≤ now
      → Reaps s.config now s.records js ks mid outcome → outcome.closed ≤ s.records.conns
  ended_few s {js} {ks} {now} {mid} {outcome} h later ended =
      grind (
        arith,
        nat_tests,
        reaped_sized h.0 now,
        ended_at h.0 now (position h.0) js ks outcome (entered_before h.0),
        entered_before h.0,
        length-append (outlived_at h.0 now) (idled_at h.0 now),
      )

  -- so they may be counted
  pub reaped_few : (s : StateView C) {js ks : List ℕ} {now : ℕ} {mid : RecordsView C} {outcome : ReapCounts} → HasLedger s → s.latest ≤ now
      → Reaps s.config now s.records js ks mid outcome → s.records.next ≤ end_of_numbers
      → (s.counts.idle_timeout + outcome.by_idle ≤ end_of_numbers) × (s.counts.max_lifetime + outcome.by_life ≤ end_of_numbers)
  reaped_few s {js} {ks} {now} {mid} {outcome} h later ended few = grind (arith, nat_tests, ended_few s h later ended, ended_shown s h, shown_fits s h)
