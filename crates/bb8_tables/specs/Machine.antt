-- The effect of each change of records or gets on their views.
use Rattle.std.specs.Prelude.{ℕ, zero, suc, ◌+◌, ◌-◌, max, Bool, true, false, cond, not, eqb, ltb, List, [], ◌∷◌, ◌++◌, filter, drop, slice_get, Option, Some, None}
use Rattle.std.specs.FinMap.{insert, remove, get}
use Rattle.bb8_types.specs.declared.standing.Place.{Place}
use Rattle.bb8_types.specs.declared.standing.Place.TheVariants.{Unclaimed, Claimed, Idle, Guarded}
use Rattle.bb8_types.specs.declared.standing.Standing.{Standing}
use Rattle.bb8_types.specs.declared.standing.GetPlace.{GetPlace}
use Rattle.bb8_types.specs.declared.standing.GetPlace.TheVariants.{Active, Waiting}
use Rattle.bb8_types.specs.declared.standing.Getting.{Getting}
use Rattle.bb8_types.specs.declared.grants.Grant.{Grant}
use Rattle.bb8_types.specs.Numbered.{one}
use Rattle.bb8_types.specs.Places.{get_with_place, get_in_wait, gets_stand, is_notified, birth_in}
use Rattle.bb8_tables.specs.Views.{RecordsView, GetsView}
use Rattle.bb8_types.specs.Grants.{IsGranted}

-- the list without a number
abbrev pub without : ℕ → List ℕ → List ℕ
without k xs = filter (λ q. not (eqb q k)) xs

module _ {C : Type 0} where
  -- a record's state with another place
  abbrev pub standing_at : Place C → Option (Standing C) → Standing C
  standing_at p None = record { place = p; birth = 0; entered = 0 }
  standing_at p (Some s) = record s { place = p }

  -- after the first unclaimed approval was claimed
  abbrev pub after_claim : ℕ → RecordsView C → RecordsView C
  after_claim k s = record s { places = insert s.places k (standing_at Claimed (get s.places k)); unclaimed = drop 1 s.unclaimed }

  -- after an idle connection was checked out
  abbrev pub after_take : Place C → ℕ → RecordsView C → RecordsView C
  after_take p k s = record s { places = insert s.places k (standing_at p (get s.places k)); idle = without k s.idle }

  -- after a guard took over a checked-out connection
  abbrev pub after_handover : ℕ → RecordsView C → RecordsView C
  after_handover k s = record s { places = insert s.places k (standing_at Guarded (get s.places k)) }

  -- after an approval, or a checked-out connection, became idle
  abbrev pub after_entry : Bool → ℕ → Standing C → RecordsView C → RecordsView C
  after_entry opening k st s = record s { places = insert s.places k st; idle = s.idle ++ k ∷ []; conns = s.conns + one opening; approved = s.approved - one opening }

  -- whether a connection is older than `age`
  abbrev pub is_older : ℕ → ℕ → ℕ → RecordsView C → Bool
  is_older age now k s = ltb age (now - birth_in (get s.places k))

  -- after a checked-out connection was returned; it keeps its birth
  abbrev pub after_return : ℕ → C → ℕ → RecordsView C → RecordsView C
  after_return k c now s = after_entry false k (record { place = Idle c; birth = birth_in (get s.places k); entered = now }) s

  -- after a claimed approval, or a checked-out connection, ended
  abbrev pub after_close : Bool → ℕ → RecordsView C → RecordsView C
  after_close opening k s = record s { places = remove s.places k; conns = s.conns - one (not opening); approved = s.approved - one opening }

  -- after the first idle connection ended
  abbrev pub after_idle_end : ℕ → RecordsView C → RecordsView C
  after_idle_end k s = record s { places = remove s.places k; idle = drop 1 s.idle; conns = s.conns - 1 }

  -- after the first unclaimed approval ended
  abbrev pub after_unclaimed_end : ℕ → RecordsView C → RecordsView C
  after_unclaimed_end k s = record s { places = remove s.places k; unclaimed = drop 1 s.unclaimed; approved = s.approved - 1 }

  -- after these idle connections ended, one after another
  abbrev pub after_idle_ends : List ℕ → RecordsView C → RecordsView C
  after_idle_ends [] s = s
  after_idle_ends (k ∷ ks) s = after_idle_ends ks (after_idle_end k s)

  -- after these unclaimed approvals ended, one after another
  abbrev pub after_unclaimed_ends : List ℕ → RecordsView C → RecordsView C
  after_unclaimed_ends [] s = s
  after_unclaimed_ends (k ∷ ks) s = after_unclaimed_ends ks (after_unclaimed_end k s)

  -- after the last handle was dropped: all idle connections and all unclaimed approvals ended
  abbrev pub after_leave : RecordsView C → RecordsView C
  after_leave s = after_unclaimed_ends (after_idle_ends s.idle s).unclaimed (after_idle_ends s.idle s)

  -- after one approval was added, claimed or queued
  abbrev pub after_approval : Bool → RecordsView C → RecordsView C
  after_approval claimed_now s = record s {
    next = s.next + 1;
    places =
        insert s.places s.next (record { place = cond claimed_now Claimed Unclaimed; birth = 0; entered = 0 });
    unclaimed = s.unclaimed
        ++ cond claimed_now [] (s.next ∷ []);
    approved = s.approved + 1;
  }

  -- after this many approvals were added
  abbrev pub after_approvals : Bool → ℕ → RecordsView C → RecordsView C
  after_approvals claimed_now zero s = s
  after_approvals claimed_now (suc n) s = after_approval claimed_now (after_approvals claimed_now n s)

  -- after a connection was added with the next number, idle and born at `now`
  abbrev pub after_birth : C → ℕ → RecordsView C → RecordsView C
  after_birth c now s = record s { next = s.next + 1; places = insert s.places s.next (record { place = Idle c; birth = now; entered = now }); idle = s.idle ++ s.next ∷ []; conns = s.conns + 1 }

  -- with a peak of at least the current size
  abbrev pub with_peak : RecordsView C → RecordsView C
  with_peak s = record s { peak = max s.peak (s.conns + s.approved) }

  -- whether a grant is allowed when n are due
  abbrev pub IsGrant : RecordsView C → ℕ → Grant → Type 0
  IsGrant s n g = IsGranted s.next (s.conns + s.approved) s.peak n g

  -- after a grant: its approvals, and the peak
  abbrev pub after_grant : Bool → Grant → RecordsView C → RecordsView C
  after_grant claimed_now g s = with_peak (after_approvals claimed_now g.count s)

-- after a get began, which is active
abbrev pub after_begin : GetsView → GetsView
after_begin s = record s { next = s.next + 1; places = insert s.places s.next (record { place = Active; first_wait = None }); alive = s.alive + 1; peak = max s.peak (s.alive + 1) }

-- after the get with this number ended; it is in no queue
abbrev pub after_get_end : ℕ → GetsView → GetsView
after_get_end g s = record s { places = remove s.places g; waiting = without g s.waiting; alive = s.alive - 1 }

-- a get's state with another place
abbrev pub getting_at : GetPlace → Option Getting → Getting
getting_at p None = record { place = p; first_wait = None }
getting_at p (Some g) = get_with_place p g

-- a get's state when it waits from now on
abbrev pub getting_since : ℕ → Option Getting → Getting
getting_since now None = record { place = Waiting false; first_wait = Some now }
getting_since now (Some g) = get_in_wait now g

-- after the get with this number began to wait, at the back of the queue
abbrev pub after_wait : ℕ → ℕ → GetsView → GetsView
after_wait now g s = record s { places = insert s.places g (getting_since now (get s.places g)); waiting = s.waiting ++ g ∷ [] }

-- after the state of a get that is in no queue changed
abbrev pub after_turn : GetPlace → ℕ → GetsView → GetsView
after_turn p g s = record s { places = insert s.places g (getting_at p (get s.places g)) }

-- after the named get was notified and left the queue
abbrev pub after_notice : Option ℕ → GetsView → GetsView
after_notice None s = s
after_notice (Some g) s = record s { places = insert s.places g (getting_at (Waiting true) (get s.places g)); waiting = without g s.waiting }

-- the get that is notified when a get with this state gives up
abbrev pub heir_of : Option Getting → GetsView → Option ℕ
heir_of getting s = cond (gets_stand is_notified getting) (slice_get s.waiting 0) None
