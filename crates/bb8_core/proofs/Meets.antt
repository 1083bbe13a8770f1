-- The steps on what a state shows: what the code knows of each, and what it makes of the state.
use Rattle.bb8_core.proofs.Words.{ℕ, ◌≡◌, ◌+◌, false, Some, true, ◌≤◌, Bool, Option, None, List, Idle, ◌<◌, cond, slice_get, Ledger, eqb, length, ◌≢◌, one, ◌-◌, ◌&&◌, Grant, gets_stand, Guarded, Getting, end_of_numbers, is_unnotified, Begin, Active, Try, Served, Held, is_some, ◌||◌, not, option_map, first_of, Begun, Settings, Leave, due, holds, GiveUp, GaveUp, Closed, Kept, min, is_notified, Act, Ask, Close, Answer, Ended, Holding, IsNoGrant, Figures, CheckedOk, CheckedErr, Reap, Reaped, Join, Broken, PutBack, Detach, Evict, Claim, NoCapacity, GivenBack, Joined, Look, Fill, ltb, Memory, Late, Failed, Added, retired, Retire, Left, Granted, Entered, most_handles, next, birth_in, entered_in, is_checked, Taken, Add, Opened, figures, Withheld, Exhausted, Looked, IfSome, IfNone, get, most_micros, first_wait_of, micros_since, is_doubtful, is_expired, counts_held, Reaps, after_reaped, RecordsView, GetsView, Counters, ReapCounts, StateView, IsFitting, Represents, reason_of, Key, State, ShownFigures}
use Rattle.bb8_types.specs.declared.reasons.Reason.{Reason as Named}
use Rattle.bb8_types.specs.declared.reasons.Reason.TheVariants as reasons
use Rattle.bb8_ledger.specs.Answers as answers
use Rattle.bb8_tables.specs.Machine as machine
use Rattle.bb8_core.specs.Decided as decided
use Rattle.bb8_core.proofs.Fitting.{unexamined}

-- the first in line is notified, if there is one
pub record Notices (was : GetsView) (n : Option ℕ) (gs : GetsView) : Type 0 where
  pub who : n ≡ slice_get was.waiting 0
  pub after : gs ≡ machine.after_notice n was

-- the counters after a get was served that first waited then
abbrev pub served : Counters → ℕ → Option ℕ → Counters
served was now since = record was {
  direct = was.direct + one (not (is_some since));
  waited = was.waited + one (is_some since);
  wait_micros = min most_micros (was.wait_micros + micros_since now since);
}

-- after a returned connection was closed
abbrev pub closed_counters : Counters → Bool → Bool → Bool → Counters
closed_counters was broken retired aged = record was {
  broken = was.broken + one broken;
  retired = was.retired + one (not broken && retired);
  max_lifetime = was.max_lifetime + one (not broken && (not retired && aged));
}

-- after one has left
abbrev pub detached_counters : Counters → Counters
detached_counters was = record was { detached = was.detached + 1 }

-- after a check failed
abbrev pub invalid_counters : Counters → Counters
invalid_counters was = record was { invalid = was.invalid + 1 }

-- after a give-up for this reason, of a get that first waited then
abbrev pub given_up : Named → ℕ → Option ℕ → Counters → Counters
given_up reasons.TimedOut now since was = record was { timed_out = was.timed_out + 1; wait_micros = min most_micros (was.wait_micros + micros_since now since) }
given_up reasons.Cancelled now since was = record was { cancelled = was.cancelled + 1 }

-- after a reap
abbrev pub reaped_counters : Counters → ReapCounts → Counters
reaped_counters was outcome = record was { max_lifetime = was.max_lifetime + outcome.by_life; idle_timeout = was.idle_timeout + outcome.by_idle }

-- after a retire
abbrev pub retired_counters : Counters → ReapCounts → Counters
retired_counters was outcome = record was { retired = was.retired + outcome.closed }

-- what a retire holds to: each idle connection has lived too long
abbrev pub retiring_by : Settings → Settings
retiring_by config = record config { max_lifetime = Some 0 }

-- nothing was granted
abbrev pub nothing : ℕ → Grant
nothing next = record { first = next; count = 0; withheld = 0 }

module _ {C : Type 0} where
  -- what is granted of what is wanted, once the records have changed to these
  pub record Grants (s : StateView C) (claimed : Bool) (was : RecordsView C) (grant : Grant) (rs : RecordsView C) : Type 0 where
    pub granted : machine.IsGrant was (decided.want s.config s.handles was) grant
    pub after : rs ≡ machine.after_grant claimed grant was

  -- whether the connection k is too old by then, or retired, as the code found
  abbrev pub IsAged : StateView C → ℕ → ℕ → Bool → Type 0
  IsAged s k now aged = aged ≡ (is_expired s.config.max_lifetime now (birth_in (get s.records.places k)) || ltb k s.retired)

  -- what is granted once it has ended
  abbrev pub IsEndGrant : StateView C → ℕ → Grant → Type 0
  IsEndGrant s k grant = machine.IsGrant (machine.after_close false k s.records) (decided.want s.config s.handles (machine.after_close false k s.records)) grant

  -- the records once it has ended, and approvals were granted
  abbrev pub ended_records : StateView C → ℕ → Grant → RecordsView C
  ended_records s k grant = machine.after_grant false grant (machine.after_close false k s.records)

  -- what the code knows when a get tries
  pub record Tries (s : StateView C) (g : ℕ) (o : Option Getting) : Type 0 where
    pub fit : IsFitting s (Try g)
    pub get_is : o ≡ get s.gets.places g

  -- what the code knows when one is added that is not broken, below `max_size`
  pub record Adds (s : StateView C) (c : C) : Type 0 where
    pub fit : IsFitting s (Add c false)
    pub room : s.records.conns + s.records.approved ≢ s.config.max_size

  -- the get holds this connection
  abbrev pub IsHeld : StateView C → ℕ → ℕ → Type 0
  IsHeld s g k = holds (get s.gets.places g) ≡ Some k

  -- the get first waited then
  abbrev pub IsSince : StateView C → ℕ → Option ℕ → Type 0
  IsSince s g since = since ≡ first_wait_of (get s.gets.places g)

  -- An event and its answer, where the code makes this of a state, at the moment `now`.
  pub data Meets (s : StateView C) (at now : ℕ) : Act C → Answer → StateView C → Type 0 where
    meets_begun : {n : ℕ} {gs : GetsView} → IsFitting s Begin → s.gets.next < end_of_numbers → gs ≡ machine.after_begin s.gets → n ≡ s.gets.next
        → Meets s at now Begin (Begun n) (record (unexamined s) { latest = now; gets = gs; counts = record s.counts { started = s.counts.started + 1 } })
    meets_memory : {gs : GetsView} → IsFitting s Begin → s.gets.next < end_of_numbers → s.gets.alive ≡ s.gets.peak → gs ≡ s.gets
        → Meets s at now Begin Memory (record (unexamined s) { latest = now; gets = gs })
    meets_exhausted : IsFitting s Begin → end_of_numbers ≤ s.gets.next → Meets s at now Begin Exhausted (record (unexamined s) { latest = now })
    -- a get that waits and was not notified waits on
    meets_waits_on : {g : ℕ} {o : Option Getting} {grant : Grant} → Tries s g o → gets_stand is_unnotified o ≡ true → IsNoGrant s.records.next grant
        → Meets s at now (Try g) (answers.Waiting grant) (record (unexamined s) { latest = now })
    meets_served : {g k : ℕ} {grant : Grant} {o : Option Getting} {since : Option ℕ} {rs : RecordsView C} {gs : GetsView} (was : Counters) {is : Counters}
        → Tries s g o → gets_stand is_unnotified o ≡ false → is_checked s.config now (entered_in (get s.records.places k)) ≡ false
        → first_of s.config.queue_strategy s.records.idle ≡ Some k → Grants s false (machine.after_take Guarded k s.records) grant rs
        → gs ≡ machine.after_get_end g s.gets → s.counts ≡ counts_held was → since ≡ first_wait_of o → is ≡ served was now since
        → Meets s at now (Try g) (Served k grant) (record (unexamined s) { latest = now; records = rs; gets = gs; counts = counts_held is })
    -- where it is checked, the get holds it
    meets_taken : {g k : ℕ} {grant : Grant} {o : Option Getting} {rs : RecordsView C} {gs : GetsView}
        → Tries s g o → gets_stand is_unnotified o ≡ false → is_checked s.config now (entered_in (get s.records.places k)) ≡ true
        → first_of s.config.queue_strategy s.records.idle ≡ Some k → Grants s false (machine.after_take (Held g) k s.records) grant rs
        → gs ≡ machine.after_turn (Holding k) g s.gets
        → Meets s at now (Try g) (Taken k grant) (record (unexamined s) { latest = now; records = rs; gets = gs })
    -- where nothing is idle, a get waits that did not, or was notified
    meets_waits : {g alive_now due_now : ℕ} {o : Option Getting} {taken : RecordsView C} {grant : Grant} {rs : RecordsView C} {gs : GetsView}
        → Tries s g o → gets_stand is_unnotified o ≡ false → first_of s.config.queue_strategy s.records.idle ≡ None → taken ≡ s.records
        → alive_now ≡ s.gets.alive → due_now ≡ due s.config s.handles (taken.conns + taken.approved) (one (ltb taken.approved alive_now))
        → machine.IsGrant taken due_now grant → rs ≡ machine.after_grant false grant taken → gs ≡ machine.after_wait now g s.gets
        → Meets s at now (Try g) (answers.Waiting grant) (record (unexamined s) { latest = now; records = rs; gets = gs })
    meets_passed : {g k : ℕ} {since : Option ℕ} {rs : RecordsView C} {gs : GetsView} {first : ℕ} (was : Counters) {is : Counters}
        → IsFitting s (CheckedOk g) → IsHeld s g k → first ≡ s.records.next → rs ≡ machine.after_handover k s.records
        → gs ≡ machine.after_get_end g s.gets → s.counts ≡ counts_held was → IsSince s g since → is ≡ served was now since
        → Meets s at now (CheckedOk g) (Served k (nothing first)) (record (unexamined s) { latest = now; records = rs; gets = gs; counts = counts_held is })
    meets_invalid : {g k : ℕ} {broken aged : Bool} {grant : Grant} {rs : RecordsView C} {n : Option ℕ} {gs : GetsView} (was : Counters) {is : Counters}
        → IsFitting s (CheckedErr g broken) → IsHeld s g k → IsAged s k now aged → IsEndGrant s k grant → rs ≡ ended_records s k grant
        → Notices (machine.after_turn Active g s.gets) n gs → s.counts ≡ counts_held was
        → is ≡ closed_counters (invalid_counters was) broken (ltb k s.retired) aged
        → Meets s at now (CheckedErr g broken) (Closed k grant n) (record (unexamined s) { latest = now; records = rs; gets = gs; counts = counts_held is })
    -- no connection is handed in, and whether it is broken does not matter
    meets_given_up : {g : ℕ} (reason : Named) (broken : Bool) {since : Option ℕ} {left gs : GetsView} {test : Bool} {n : Option ℕ} (was : Counters) {is : Counters}
        → IsFitting s (GiveUp g (reason_of reason) None broken) → left ≡ machine.after_get_end g s.gets → test ≡ gets_stand is_notified (get s.gets.places g)
        → n ≡ cond test (slice_get left.waiting 0) None → gs ≡ machine.after_notice n left → s.counts ≡ counts_held was
        → IsSince s g since → is ≡ given_up reason now since was
        → Meets s at now (GiveUp g (reason_of reason) None broken) (GaveUp n) (record (unexamined s) { latest = now; gets = gs; counts = counts_held is })
    -- the connection that is handed in is idle again
    meets_given_up_kept : {g k : ℕ} (reason : Named) {c : C} {broken aged doubt : Bool} {since : Option ℕ} {rs : RecordsView C} {n : Option ℕ} {gs : GetsView} (was : Counters) {is : Counters}
        → IsFitting s (GiveUp g (reason_of reason) (Some c) broken) → IsHeld s g k → IsAged s k now aged
        → doubt ≡ is_doubtful s.config broken → (doubt || (aged || eqb s.handles 0)) ≡ false → rs ≡ machine.after_return k c now s.records
        → Notices (machine.after_get_end g s.gets) n gs → s.counts ≡ counts_held was → IsSince s g since → is ≡ given_up reason now since was
        → Meets s at now (GiveUp g (reason_of reason) (Some c) broken) (Kept k n) (record (unexamined s) { latest = now; records = rs; gets = gs; counts = counts_held is })
    -- the connection that is handed in is closed
    meets_given_up_closed : {g k : ℕ} (reason : Named) {c : C} {broken aged doubt : Bool} {since : Option ℕ} {grant : Grant} {rs : RecordsView C} {n : Option ℕ} {gs : GetsView}
        (was : Counters) {mid is : Counters}
        → IsFitting s (GiveUp g (reason_of reason) (Some c) broken) → IsHeld s g k → IsAged s k now aged
        → doubt ≡ is_doubtful s.config broken → (doubt || (aged || eqb s.handles 0)) ≡ true → IsEndGrant s k grant → rs ≡ ended_records s k grant
        → Notices (machine.after_get_end g s.gets) n gs → s.counts ≡ counts_held was → IsSince s g since
        → mid ≡ given_up reason now since was → is ≡ closed_counters mid doubt (ltb k s.retired) aged
        → Meets s at now (GiveUp g (reason_of reason) (Some c) broken) (Closed k grant n) (record (unexamined s) { latest = now; records = rs; gets = gs; counts = counts_held is })
    meets_returned_kept : {k : ℕ} {c : C} {broken aged : Bool} {rs : RecordsView C} {n : Option ℕ} {gs : GetsView}
        → IsFitting s (PutBack k c broken) → Notices s.gets n gs → IsAged s k now aged → (broken || (aged || eqb s.handles 0)) ≡ false
        → rs ≡ machine.after_return k c now s.records
        → Meets s at now (PutBack k c broken) (Kept k n) (record (unexamined s) { latest = now; records = rs; gets = gs })
    meets_returned_closed : {k : ℕ} {c : C} {broken aged : Bool} {grant : Grant} {rs : RecordsView C} {n : Option ℕ} {gs : GetsView} (was : Counters) {is : Counters}
        → IsFitting s (PutBack k c broken) → Notices s.gets n gs → IsAged s k now aged → (broken || (aged || eqb s.handles 0)) ≡ true
        → IsEndGrant s k grant → rs ≡ ended_records s k grant → s.counts ≡ counts_held was → is ≡ closed_counters was broken (ltb k s.retired) aged
        → Meets s at now (PutBack k c broken) (Closed k grant n) (record (unexamined s) { latest = now; records = rs; gets = gs; counts = counts_held is })
    -- a guard leaves with its connection
    meets_detached : {k : ℕ} {grant : Grant} {rs : RecordsView C} {n : Option ℕ} {gs : GetsView} (was : Counters) {is : Counters}
        → IsFitting s (Detach k) → Notices s.gets n gs → IsEndGrant s k grant → rs ≡ ended_records s k grant → s.counts ≡ counts_held was → is ≡ detached_counters was
        → Meets s at now (Detach k) (Closed k grant n) (record (unexamined s) { latest = now; records = rs; gets = gs; counts = counts_held is })
    meets_evicted : {k : ℕ} {mid rs : RecordsView C} {grant : Grant} {n : Option ℕ} {gs : GetsView} (was : Counters) {is : Counters}
        → IsFitting s (Evict k) → Notices s.gets n gs → mid ≡ after_reaped k s.records → Grants s false mid grant rs → s.counts ≡ counts_held was → is ≡ detached_counters was
        → Meets s at now (Evict k) (Closed k grant n) (record (unexamined s) { latest = now; records = rs; gets = gs; counts = counts_held is })
    meets_fill : {claimed : Bool} {grant : Grant} {rs : RecordsView C} → Grants s claimed s.records grant rs
        → Meets s at now (Fill claimed) (Granted grant) (record (unexamined s) { latest = now; records = rs })
    meets_ask : {waiting_now due_now : ℕ} {grant : Grant} {rs : RecordsView C} → waiting_now ≡ length s.gets.waiting
        → due_now ≡ due s.config s.handles (s.records.conns + s.records.approved) (waiting_now - s.records.approved)
        → machine.IsGrant s.records due_now grant → rs ≡ machine.after_grant false grant s.records
        → Meets s at now Ask (Granted grant) (record (unexamined s) { latest = now; records = rs })
    meets_claim : (k : Option Key) {rs : RecordsView C} → s.handles ≢ 0
        → IfSome k (λ key. (slice_get s.records.unclaimed 0 ≡ Some key.number) × (rs ≡ machine.after_claim key.number s.records))
        → IfNone k ((slice_get s.records.unclaimed 0 ≡ None) × (rs ≡ s.records))
        → Meets s at now Claim (answers.Claimed (option_map (λ (key : Key). key.number) k)) (record (unexamined s) { latest = now; records = rs })
    meets_claim_ended : s.handles ≡ 0 → Meets s at now Claim Ended (record (unexamined s) { latest = now })
    meets_opened : {k : ℕ} (c : C) {rs : RecordsView C} {n : Option ℕ} {gs : GetsView} → IsFitting s (Opened k c) → decided.comes_late s k ≡ false
        → rs ≡ machine.after_entry true k (record { place = Idle c; birth = now; entered = now }) s.records → Notices s.gets n gs
        → Meets s at now (Opened k c) (Entered k n) (record (unexamined s) { latest = now; records = rs; gets = gs; counts = record s.counts { created = s.counts.created + 1 } })
    meets_late : {k : ℕ} (c : C) {rs : RecordsView C} → IsFitting s (Opened k c) → decided.comes_late s k ≡ true → rs ≡ machine.after_close true k s.records
        → Meets s at now (Opened k c) (Late k) (record (unexamined s) { latest = now; records = rs })
    meets_failed : {k : ℕ} {rs : RecordsView C} → IsFitting s (Failed k) → rs ≡ machine.after_close true k s.records
        → Meets s at now (Failed k) GivenBack (record (unexamined s) { latest = now; records = rs })
    meets_add_broken : (c : C) → IsFitting s (Add c true) → Meets s at now (Add c true) Broken (record (unexamined s) { latest = now })
    meets_add_full : (c : C) → IsFitting s (Add c false) → s.records.conns + s.records.approved ≡ s.config.max_size
        → Meets s at now (Add c false) NoCapacity (record (unexamined s) { latest = now })
    meets_add_exhausted : {c : C} → Adds s c → end_of_numbers ≤ s.records.next → Meets s at now (Add c false) Withheld (record (unexamined s) { latest = now })
    meets_add_refused : {c : C} {rs : RecordsView C} → Adds s c → s.records.next < end_of_numbers → s.records.conns + s.records.approved ≡ s.records.peak → rs ≡ s.records
        → Meets s at now (Add c false) Withheld (record (unexamined s) { latest = now; records = rs })
    meets_added : {k : ℕ} {c : C} {rs : RecordsView C} {n : Option ℕ} {gs : GetsView} → Adds s c → Notices s.gets n gs
        → s.records.next < end_of_numbers → k ≡ s.records.next → rs ≡ machine.with_peak (machine.after_birth c now s.records)
        → Meets s at now (Add c false) (Added k n) (record (unexamined s) { latest = now; records = rs; gets = gs })
    meets_reap_ended : s.handles ≡ 0 → Meets s at now Reap Ended (record (unexamined s) { latest = now })
    meets_reaped : {js ks : List ℕ} {outcome : ReapCounts} {mid rs : RecordsView C} {grant : Grant} (was : Counters) {is : Counters}
        → s.handles ≢ 0 → Reaps s.config now s.records js ks mid outcome → Grants s false mid grant rs → s.counts ≡ counts_held was → is ≡ reaped_counters was outcome
        → Meets s at now Reap (Reaped outcome.closed outcome.by_idle outcome.by_life grant) (record (unexamined s) { latest = now; records = rs; counts = counts_held is })
    meets_retire_ended : {below : ℕ} → below ≡ s.records.next → s.handles ≡ 0 → Meets s at now Retire Ended (record (unexamined s) { retired = below; latest = now })
    meets_retired : {below : ℕ} {js ks : List ℕ} {outcome : ReapCounts} {mid rs : RecordsView C} {grant : Grant} (was : Counters) {is : Counters}
        → below ≡ s.records.next → s.handles ≢ 0 → Reaps (retiring_by s.config) now s.records js ks mid outcome → Grants s false mid grant rs
        → s.counts ≡ counts_held was → is ≡ retired_counters was outcome
        → Meets s at now Retire (Reaped outcome.closed 0 0 grant) (record (unexamined s) { retired = below; latest = now; records = rs; counts = counts_held is })
    meets_state : {f : Figures} → ((l : Ledger C) → Represents l s → f ≡ figures l) → Meets s at now State (ShownFigures f) (record (unexamined s) { latest = now })
    meets_joined : IsFitting s Join → s.handles < most_handles → Meets s at now Join Joined (record (unexamined s) { latest = now; handles = s.handles + 1 })
    meets_join_exhausted : IsFitting s Join → most_handles ≤ s.handles → Meets s at now Join Exhausted (record (unexamined s) { latest = now })
    meets_left_last : {n : ℕ} {rs : RecordsView C} → IsFitting s Leave → s.handles ≡ 1 → n ≡ length s.records.idle → rs ≡ machine.after_leave s.records
        → Meets s at now Leave (Left n) (record (unexamined s) { latest = now; handles = 0; records = rs })
    meets_left : IsFitting s Leave → s.handles ≢ 1 → Meets s at now Leave (Left 0) (record (unexamined s) { latest = now; handles = s.handles - 1 })
    meets_shut : {n : ℕ} {rs : RecordsView C} → IsFitting s Close → n ≡ length s.records.idle → rs ≡ machine.after_leave s.records
        → Meets s at now Close (Left n) (record (unexamined s) { latest = now; handles = 0; records = rs })
    meets_look : {alive_now : Bool} → alive_now ≡ ltb 0 s.handles → Meets s at now Look (Looked now alive_now) (record (unexamined s) { latest = now })
