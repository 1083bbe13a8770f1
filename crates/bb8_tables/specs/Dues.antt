-- The effect of the walks of a reap.
use Rattle.std.specs.Prelude.{◌≡◌, ◌⊎◌, ℕ, ◌+◌, ◌≤◌, Bool, true, false, List, ◌∷◌, ◌++◌, length, Option, Some, slice_get}
use Rattle.std.specs.FinMap.{get}
use Rattle.bb8_types.specs.declared.standing.Standing.{Standing}
use Rattle.bb8_types.specs.Settings.{Settings}
use Rattle.bb8_types.specs.Places.{is_idle, is_expired, idles_out, lives_out}
use Rattle.bb8_tables.specs.declared.table.Slot.{Slot}
use Rattle.bb8_tables.specs.declared.records.reaps.Age.{Age}
use Rattle.bb8_tables.specs.declared.records.reaps.Age.TheVariants.{Young, Out, Aged}
use Rattle.circular_buffer.specs.Buffer.{Buffer}
use Rattle.bb8_tables.specs.declared.closed.Closed.{Closed}
use Rattle.bb8_tables.specs.Closed.{offered_all, closed_of}
use Rattle.bb8_tables.specs.TableView.{TableView, slot_at}
use Rattle.bb8_tables.specs.Views.{RecordsView}
use Rattle.bb8_tables.specs.Reaps.{after_reap, AreReaped, AreFirst, beyond}

module _ {C : Type 0} where
  -- Whether these idle connections ended, one after another, each because it passed a test; they
  -- were offered to a list, and `outcome` is their count.
  pub record Ends (test : Option (Standing C) → Bool) (old : RecordsView C) (ks : List ℕ) (new : RecordsView C) (outcome : ℕ) (list offered : Buffer (Closed C)) : Type 0 where
    pub each : AreReaped test ks old
    pub state : new ≡ after_reap ks old
    pub closed : outcome ≡ length ks
    pub conns : new.conns + outcome ≡ old.conns
    pub idle : length new.idle + outcome ≡ length old.idle
    pub listed : offered ≡ offered_all (closed_of ks old.places) list

  -- Whether those that are idle too long ended, from the front of the queue on, until none was left
  -- or the most allowed had ended.
  pub record EndsIdle (config : Settings) (now : ℕ) (old : RecordsView C) (ks : List ℕ) (new : RecordsView C) (outcome : ℕ) (list offered : Buffer (Closed C)) : Type 0 where
    pub first : AreFirst (idles_out config now) ks old
    pub ends : Ends (idles_out config now) old ks new outcome list offered
    pub few : outcome ≤ beyond config old
    pub all : (outcome ≡ beyond config old) ⊎ ((k : ℕ) → idles_out config now (get new.places k) ≡ false)

  -- whether `next` is the index after this one in the order of births
  abbrev pub IsNext : TableView (Slot (Standing C)) → ℕ → Option ℕ → Type 0
  IsNext t place next = (passed rest : List ℕ) → t.births ≡ passed ++ place ∷ rest → next ≡ slice_get rest 0

  -- the connection met at an index in the order of births
  abbrev pub Passes : Settings → ℕ → TableView (Slot (Standing C)) → ℕ → Age → Type 0
  Passes config now t place Young = (x : Slot (Standing C)) × (slot_at t place ≡ Some x) × (is_expired config.max_lifetime now x.standing.birth ≡ false)
  Passes config now t place (Out next) = (x : Slot (Standing C)) × (slot_at t place ≡ Some x) × (is_idle x.standing.place ≡ false) × IsNext t place next
  Passes config now t place (Aged next) = (x : Slot (Standing C)) × (slot_at t place ≡ Some x) × (lives_out config now (Some x.standing) ≡ true) × IsNext t place next
