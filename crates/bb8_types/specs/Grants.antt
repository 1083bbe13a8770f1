-- The size of a grant, and its effect.
use Rattle.std.specs.Prelude.{◌≡◌, ℕ, ◌+◌, ◌-◌, ◌≤◌, min, eqb, cond}
use Rattle.std.specs.Option.{unwrap_or}
use Rattle.bb8_types.specs.declared.grants.Grant.{Grant}
use Rattle.bb8_types.specs.Settings.{Settings}
use Rattle.bb8_types.specs.Bounds.{end_of_numbers}

-- how many numbers are left; 2 ^ 64 - 1 is never given
abbrev pub numbers_left : ℕ → ℕ
numbers_left next = end_of_numbers - next

-- how many approvals a grant should make: what is asked for, up to the size, and none if no handle
-- is alive
abbrev pub due : Settings → ℕ → ℕ → ℕ → ℕ
due config handles taken asked = cond (eqb handles 0) 0 (min asked (config.max_size - taken))

-- how many approvals are wanted if there are `have` idle connections and open approvals
abbrev pub lacking : Settings → ℕ → ℕ
lacking config have = unwrap_or config.min_idle 0 - have

-- whether a grant is allowed: what is due is granted or withheld, and only what lies past the peak
-- or has no number left is withheld
pub record IsGranted (next taken peak due : ℕ) (g : Grant) : Type 0 where
  pub first : g.first ≡ next
  pub split : g.count + g.withheld ≡ due
  pub least : min due (min (numbers_left next) (peak - taken)) ≤ g.count
  pub most : g.count ≤ numbers_left next

-- whether nothing was granted or withheld
pub record IsNoGrant (next : ℕ) (g : Grant) : Type 0 where
  pub first : g.first ≡ next
  pub count : g.count ≡ 0
  pub withheld : g.withheld ≡ 0
