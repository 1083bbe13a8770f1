-- The views of the records and of the gets.
use Rattle.std.specs.Prelude.{[], ◌≡◌, ◌≤◌, ℕ, zero, suc, List, Option, Some, None, refl}
use Rattle.std.specs.FinMap.{empty, FinMap}
use Rattle.std.specs.Coded.{Coded, code_by, coded×, coded_ℕ, coded_list, coded_option}
use Rattle.std.specs.Ordering.{nat_cmp}
use Rattle.std.specs.FinMap as map
use Rattle.bb8_types.specs.declared.standing.Place.{Place}
use Rattle.bb8_types.specs.declared.standing.Place.TheVariants.{Unclaimed, Claimed, Idle, Held, Guarded}
use Rattle.bb8_types.specs.declared.standing.Standing.{Standing}
use Rattle.bb8_types.specs.declared.standing.Getting.{Getting}
use Rattle.bb8_types.specs.contracts.standing.Getting as getting

-- The records that have not ended, with their sizes and orders.
pub record RecordsView (C : Type 0) : Type 0 where
  pub next : ℕ
  pub places : FinMap nat_cmp (Standing C)
  pub idle : List ℕ
  pub unclaimed : List ℕ
  pub conns : ℕ
  pub approved : ℕ
  pub peak : ℕ

-- The gets that are alive, with their order and sizes.
pub record GetsView : Type 0 where
  pub next : ℕ
  pub places : FinMap nat_cmp Getting
  pub waiting : List ℕ
  pub alive : ℕ
  pub peak : ℕ

-- no records; the first number is given
abbrev pub no_records : {C : Type 0} → ℕ → RecordsView C
no_records first = record { next = first; places = empty; idle = []; unclaimed = []; conns = 0; approved = 0; peak = 0 }

-- no gets; the first number is given
abbrev pub no_gets : ℕ → GetsView
no_gets first = record { next = first; places = empty; waiting = []; alive = 0; peak = 0 }

-- whether no birth and no entry is later than a moment
abbrev pub NoneAfter : {C : Type 0} → ℕ → RecordsView C → Type 0
NoneAfter {C} now s = (k : ℕ) (r : Standing C) → map.get s.places k ≡ Some r → (r.birth ≤ now) × (r.entered ≤ now)

-- ---- encodings

abbrev place_code : {C : Type 0} → Coded C → Coded (Place C)
place_code {C} c = code_by (ℕ × (Option C × ℕ)) (coded× coded_ℕ (coded× (coded_option c) coded_ℕ)) to back again
  where
    to : Place C → ℕ × (Option C × ℕ)
    to Unclaimed = (0, (None, 0))
    to Claimed = (1, (None, 0))
    to Guarded = (2, (None, 0))
    to (Idle x) = (3, (Some x, 0))
    to (Held g) = (3, (None, g))

    back : ℕ × (Option C × ℕ) → Place C
    back p = from p.0 p.1.0 p.1.1
      where
        from : ℕ → Option C → ℕ → Place C
        from n (Some x) g = Idle x
        from zero None g = Unclaimed
        from (suc zero) None g = Claimed
        from (suc (suc zero)) None g = Guarded
        from _ None g = Held g

    again : (p : Place C) → back (to p) ≡ p
    again Unclaimed = refl
    again Claimed = refl
    again Guarded = refl
    again (Idle x) = refl
    again (Held g) = refl

abbrev standing_code : {C : Type 0} → Coded C → Coded (Standing C)
standing_code {C} c = code_by (Place C × (ℕ × ℕ)) (coded× (place_code c) (coded× coded_ℕ coded_ℕ)) (λ s. (s.place, (s.birth, s.entered)))
    (λ p. record { place = p.0; birth = p.1.0; entered = p.1.1 }) (λ _. refl)

abbrev pub records_code : {C : Type 0} → Coded C → Coded (RecordsView C)
records_code {C} c =
    code_by
    (ℕ × (FinMap nat_cmp (Standing C) × (List ℕ × (List ℕ × (ℕ × (ℕ × ℕ))))))
    (coded× coded_ℕ (coded× (map.code coded_ℕ (standing_code c)) (coded× (coded_list coded_ℕ) (coded× (coded_list coded_ℕ) (coded× coded_ℕ (coded× coded_ℕ coded_ℕ))))))
    (λ s. (s.next, (s.places, (s.idle, (s.unclaimed, (s.conns, (s.approved, s.peak)))))))
    (λ p. record { next = p.0; places = p.1.0; idle = p.1.1.0; unclaimed = p.1.1.1.0; conns = p.1.1.1.1.0; approved = p.1.1.1.1.1.0; peak = p.1.1.1.1.1.1 })
    (λ _. refl)

abbrev pub gets_code : Coded GetsView
gets_code =
    code_by
    (ℕ × (FinMap nat_cmp Getting × (List ℕ × (ℕ × ℕ))))
    (coded× coded_ℕ (coded× (map.code coded_ℕ getting.the_row.coded) (coded× (coded_list coded_ℕ) (coded× coded_ℕ coded_ℕ))))
    (λ s. (s.next, (s.places, (s.waiting, (s.alive, s.peak)))))
    (λ p. record { next = p.0; places = p.1.0; waiting = p.1.1.0; alive = p.1.1.1.0; peak = p.1.1.1.1 })
    (λ _. refl)
