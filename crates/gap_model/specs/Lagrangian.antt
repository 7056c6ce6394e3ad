-- The Lagrangian of a tangent bound: 64 times the objective with its square replaced by the tangent at Y/8, and the
-- limits on the sum and on the turnover priced by the multipliers alpha and tau. Own to portgap.

use Rattle.std.specs.Prelude.{ℕ, ◌-◌, ◌*◌, List, Option, Some, None, ℤ, pos, ◌+ℤ◌, ◌-ℤ◌, ◌*ℤ◌}
use Rattle.gap_base.specs.Sums.{sum_below, at}
use Rattle.gap_base.specs.Lots.{lots_at}
use Rattle.gap_base.specs.Markets.{mean_of}
use Rattle.gap_instance.specs.Instances.{InstanceValue}
use Rattle.gap_instance.specs.Limits.{sum_of, turnover_of}
use Rattle.gap_model.specs.Settings.{Setting, product_of}

-- the reward a_i = (q - p) * 10^12 * L * mean_i of a lot of an asset
abbrev pub reward_of : Setting → ℕ → ℤ
reward_of s i = pos ((s.q - s.p) * 1000000000000 * s.instance.lots) *ℤ mean_of s.instance.market i

-- the sum of a_i x_i
unfoldable pub rewards_of : Setting → List ℕ → ℤ
rewards_of s x = sum_below s.instance.market.assets (λ i. reward_of s i *ℤ lots_at x i)

-- the sum of D_i x_i^2
unfoldable pub squares_of : Setting → List ℕ → ℤ
squares_of s x = sum_below s.instance.market.assets (λ i. at s.shift i *ℤ (lots_at x i *ℤ lots_at x i))

-- tau times the turnover above T; nothing where no T is set
abbrev pub turnover_term : InstanceValue → Option ℕ → ℤ → List ℕ → ℤ
turnover_term I None tau x = pos 0
turnover_term I (Some t) tau x = tau *ℤ (turnover_of I.market.assets I.present x -ℤ pos t)

-- the terms with alpha and tau alone: alpha (sum x - L) + tau (turnover of x - T)
unfoldable pub void_lag : Setting → ℤ → ℤ → List ℕ → ℤ
void_lag s alpha tau x =
    (alpha *ℤ (sum_of s.instance.market.assets x -ℤ pos s.instance.lots))
    +ℤ turnover_term s.instance s.instance.turnover tau x

-- the Lagrangian at Y, alpha, tau: p (16 Y'Ax - Y'AY) - 64 p sum D_i x_i^2 - 64 sum a_i x_i + the terms with alpha and tau
unfoldable pub lag : Setting → (ℕ → ℤ) → ℤ → ℤ → List ℕ → ℤ
lag s y alpha tau x =
    (((pos s.p *ℤ ((pos 16 *ℤ product_of s y (lots_at x)) -ℤ product_of s y y))
    -ℤ (pos (64 * s.p) *ℤ squares_of s x))
    -ℤ (pos 64 *ℤ rewards_of s x))
    +ℤ void_lag s alpha tau x
