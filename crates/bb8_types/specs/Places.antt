-- The states of records and gets, what follows from them, and which element of a queue goes out.
use Rattle.std.specs.Prelude.{ℕ, ◌-◌, ◌/◌, Bool, true, false, ◌&&◌, ◌||◌, not, cond, eqb, leb, ltb, List, length, slice_get, Option, Some, None}
use Rattle.bb8_types.specs.declared.standing.Place.{Place}
use Rattle.bb8_types.specs.declared.standing.Place.TheVariants.{Unclaimed, Claimed, Idle, Held, Guarded}
use Rattle.bb8_types.specs.declared.standing.Standing.{Standing}
use Rattle.bb8_types.specs.declared.standing.Holder.{Holder}
use Rattle.bb8_types.specs.declared.standing.Holder.TheVariants.{Guard, Get}
use Rattle.bb8_types.specs.declared.standing.GetPlace.{GetPlace}
use Rattle.bb8_types.specs.declared.standing.GetPlace.TheVariants.{Waiting, Holding}
use Rattle.bb8_types.specs.declared.standing.Getting.{Getting}
use Rattle.bb8_types.specs.declared.api.configuration.QueueStrategy.{QueueStrategy}
use Rattle.bb8_types.specs.declared.api.configuration.QueueStrategy.TheVariants.{Fifo, Lifo}
use Rattle.bb8_types.specs.Settings.{Settings}

-- ---- the state of a record

-- whether it is a connection
abbrev pub is_conn : {C : Type 0} → Place C → Bool
is_conn Unclaimed = false
is_conn Claimed = false
is_conn _ = true

-- whether it is an approval that is not claimed
abbrev pub is_unclaimed : {C : Type 0} → Place C → Bool
is_unclaimed Unclaimed = true
is_unclaimed _ = false

-- whether it is an approval that is claimed
abbrev pub is_claimed : {C : Type 0} → Place C → Bool
is_claimed Claimed = true
is_claimed _ = false

-- whether it is an idle connection
abbrev pub is_idle : {C : Type 0} → Place C → Bool
is_idle (Idle c) = true
is_idle _ = false

-- whether a guard holds it
abbrev pub is_guarded : {C : Type 0} → Place C → Bool
is_guarded Guarded = true
is_guarded _ = false

-- whether the get g holds it
abbrev pub is_held_by : {C : Type 0} → ℕ → Place C → Bool
is_held_by g (Held h) = eqb g h
is_held_by g _ = false

-- whether it is an open approval
abbrev pub is_approval : {C : Type 0} → Place C → Bool
is_approval p = not (is_conn p)

-- whether it is checked out: held by a get or a guard
abbrev pub is_out : {C : Type 0} → Place C → Bool
is_out (Held g) = true
is_out Guarded = true
is_out _ = false

-- the state of a connection with this holder
abbrev pub place_with : {C : Type 0} → Holder → Place C
place_with Guard = Guarded
place_with (Get g) = Held g

-- whether a record of this state can enter or end: a claimed approval if one is opened, otherwise a
-- checked-out connection
abbrev pub comes_from : {C : Type 0} → Bool → Place C → Bool
comes_from opening p = cond opening (is_claimed p) (is_out p)

-- whether a record's state passes a test
abbrev pub stands : {C : Type 0} → (Place C → Bool) → Option (Standing C) → Bool
stands test None = false
stands test (Some s) = test s.place

-- ---- the state of a get

-- whether it waits and was not notified
abbrev pub is_unnotified : GetPlace → Bool
is_unnotified (Waiting notified) = not notified
is_unnotified _ = false

-- whether it waits and was notified
abbrev pub is_notified : GetPlace → Bool
is_notified (Waiting notified) = notified
is_notified _ = false

-- the number of the connection that it holds
abbrev pub held_in : GetPlace → Option ℕ
held_in (Holding k) = Some k
held_in _ = None

-- whether a get's state passes a test
abbrev pub gets_stand : (GetPlace → Bool) → Option Getting → Bool
gets_stand test None = false
gets_stand test (Some g) = test g.place

-- the number of the connection that a get holds
abbrev pub holds : Option Getting → Option ℕ
holds None = None
holds (Some g) = held_in g.place

-- when a get first waited
abbrev pub first_wait_of : Option Getting → Option ℕ
first_wait_of None = None
first_wait_of (Some g) = g.first_wait

-- whether it may try
abbrev pub is_trying : GetPlace → Bool
is_trying (Holding k) = false
is_trying _ = true

-- ---- time

-- whether a span reaches a limit; never if none is set
abbrev pub is_past : Option ℕ → ℕ → Bool
is_past None span = false
is_past (Some limit) span = leb limit span

-- whether a connection with this birth lives too long at the moment `now`
abbrev pub is_expired : Option ℕ → ℕ → ℕ → Bool
is_expired lifetime now birth = is_past lifetime (now - birth)

-- whether a connection that became idle at `entered` must be checked before it is served at `now`:
-- if the check is on, and test_after has passed
abbrev pub is_checked : Settings → ℕ → ℕ → Bool
is_checked config now entered = config.test_on_check_out && leb config.test_after (now - entered)

-- whether a connection whose check was cut off counts as broken: also if idle ones may be served
-- unchecked, as it would pass for a fresh one
abbrev pub is_doubtful : Settings → Bool → Bool
is_doubtful config broken = broken || ltb 0 config.test_after

-- the whole microseconds since a moment, 0 if there is none
abbrev pub micros_since : ℕ → Option ℕ → ℕ
micros_since now None = 0
micros_since now (Some first) = (now - first) / 1000

module _ {C : Type 0} where
  -- whether a record is idle, and for too long at the moment `now`
  abbrev pub idles_out : Settings → ℕ → Option (Standing C) → Bool
  idles_out config now None = false
  idles_out config now (Some s) = is_idle s.place && is_past config.idle_timeout (now - s.entered)

  -- whether a record is idle, and lives too long at the moment `now`
  abbrev pub lives_out : Settings → ℕ → Option (Standing C) → Bool
  lives_out config now None = false
  lives_out config now (Some s) = is_idle s.place && is_expired config.max_lifetime now s.birth

  -- whether the last handle ends a record: if it is idle, or an approval that is not claimed
  abbrev pub is_left : Option (Standing C) → Bool
  is_left None = false
  is_left (Some s) = is_idle s.place || is_unclaimed s.place

-- ---- with another state

module _ {C : Type 0} where
  -- the record with another state; birth and entry stay
  abbrev pub with_place : Place C → Standing C → Standing C
  with_place p s = record s { place = p }

  -- the birth of a record, 0 if it has ended
  abbrev pub birth_in : Option (Standing C) → ℕ
  birth_in None = 0
  birth_in (Some s) = s.birth

  -- when a record last became idle, 0 if it has ended
  abbrev pub entered_in : Option (Standing C) → ℕ
  entered_in None = 0
  entered_in (Some s) = s.entered

-- the get with another state
abbrev pub get_with_place : GetPlace → Getting → Getting
get_with_place p g = record g { place = p }

-- the moment of the first wait, `now` if there was none
abbrev pub first_or : ℕ → Option ℕ → ℕ
first_or now None = now
first_or now (Some first) = first

-- the get waiting from now on; its first wait stays if it waited before
abbrev pub get_in_wait : ℕ → Getting → Getting
get_in_wait now g = record { place = Waiting false; first_wait = Some (first_or now g.first_wait) }

-- the position that goes out, in a queue of `many`
abbrev pub first_place : QueueStrategy → ℕ → ℕ
first_place Fifo many = 0
first_place Lifo many = many - 1

-- the number that goes out, of the idle ones in the order in which they became idle
abbrev pub first_of : QueueStrategy → List ℕ → Option ℕ
first_of strategy idle = slice_get idle (first_place strategy (length idle))
