-- The Lagrangian as a constant and a sum of costs of single assets. Own to portgap.

use Rattle.std.specs.Prelude.{◌≡◌, ℕ, ◌*◌, ◌<◌, ◌≤◌, List, Option, Some, None, ℤ, pos, ◌+ℤ◌, ◌-ℤ◌, ◌*ℤ◌, neg_ℤ, ◌≤ℤ◌, unsigned_abs}
use Rattle.gap_base.specs.Sums.{sum_below, at}
use Rattle.gap_base.specs.Lots.{lots_at}
use Rattle.gap_instance.specs.Instances.{InstanceValue}
use Rattle.gap_model.specs.Settings.{Setting, shifted_cov, product_of}
use Rattle.gap_model.specs.Lagrangian.{reward_of}
use Rattle.gap_price.specs.Costs.{asset_cost}

-- (AY)_i: row i of A times Y
unfoldable pub tilt_of : Setting → (ℕ → ℤ) → ℕ → ℤ
tilt_of s y i = sum_below s.instance.market.assets (λ j. shifted_cov s i j *ℤ y j)

-- the gradient of p Y'AY less 8 times the reward of Y: 2 p (AY)_i - 8 a_i
abbrev pub gradient_of : Setting → (ℕ → ℤ) → ℕ → ℤ
gradient_of s y i = (pos (2 * s.p) *ℤ tilt_of s y i) -ℤ (pos 8 *ℤ reward_of s i)

-- the cost of a lot of an asset that no multiplier changes, 8 times the gradient: 16 p (AY)_i - 64 a_i
abbrev pub slope_of : Setting → (ℕ → ℤ) → ℕ → ℤ
slope_of s y i = (pos (16 * s.p) *ℤ tilt_of s y i) -ℤ (pos 64 *ℤ reward_of s i)

-- what the square of an asset's lots takes off: 64 p D_i
abbrev pub bend_of : Setting → ℕ → ℤ
bend_of s i = pos (64 * s.p) *ℤ at s.shift i

-- what belongs to no asset: - p Y'AY
abbrev pub constant_at : Setting → (ℕ → ℤ) → ℤ
constant_at s y = neg_ℤ (pos s.p *ℤ product_of s y y)

-- the costs of all assets, by lists of slopes and bends
unfoldable pub costs_of : InstanceValue → List ℤ → List ℤ → ℤ → ℤ → List ℕ → ℤ
costs_of I slopes bends alpha tau x =
    sum_below I.market.assets (λ i. asset_cost (at slopes i +ℤ alpha) (at bends i) tau (lots_at I.present i) (lots_at x i))

-- tau times the turnover limit; nothing where none is set
abbrev pub turnover_price : Option ℕ → ℤ → ℤ
turnover_price None tau = pos 0
turnover_price (Some t) tau = tau *ℤ pos t

-- what the limits take off: alpha L + tau T
abbrev pub limits_price : InstanceValue → ℤ → ℤ → ℤ
limits_price I alpha tau = (alpha *ℤ pos I.lots) +ℤ turnover_price I.turnover tau

-- lists of slopes and bends and a constant are those of a point y
pub record AreTermsAt (s : Setting) (y : ℕ → ℤ) (slopes bends : List ℤ) (constant : ℤ) : Type 0 where
  pub slopes_are : (i : ℕ) → i < s.instance.market.assets → at slopes i ≡ slope_of s y i
  pub bends_are : (i : ℕ) → i < s.instance.market.assets → at bends i ≡ bend_of s i
  pub constant_is : constant ≡ constant_at s y

-- the sizes of slopes and bends: the bends aren't negative
pub record AreSmall (n : ℕ) (slopes bends : List ℤ) : Type 0 where
  pub slopes_small : (i : ℕ) → i < n → unsigned_abs (at slopes i) ≤ 130000000000000000000000000000
  pub bends_small : (i : ℕ) → i < n → unsigned_abs (at bends i) ≤ 6400000000000000000000000
  pub bends_signs : (i : ℕ) → i < n → pos 0 ≤ℤ at bends i

-- a list has the bends of the assets, which aren't negative
pub record AreBends (s : Setting) (bends : List ℤ) : Type 0 where
  pub are : (i : ℕ) → i < s.instance.market.assets → at bends i ≡ bend_of s i
  pub small : (i : ℕ) → i < s.instance.market.assets → unsigned_abs (at bends i) ≤ 6400000000000000000000000
  pub signs : (i : ℕ) → i < s.instance.market.assets → pos 0 ≤ℤ at bends i
