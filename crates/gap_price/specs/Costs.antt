-- What the lots of single assets cost. Own to portgap.

use Rattle.std.specs.Prelude.{◌≡◌, ℕ, ◌*◌, ◌^◌, ◌≤◌, ℤ, ◌+ℤ◌, ◌-ℤ◌, ◌*ℤ◌, ◌≤ℤ◌}
use Rattle.gap_base.specs.Sums.{abs_z}

-- the greatest sizes of an asset's own price of a lot, of what a square takes off, and of a price that all assets share
abbrev pub most_linear : ℕ
most_linear = 2 * 10 ^ 29

abbrev pub most_bend : ℕ
most_bend = 64 * 10 ^ 23

abbrev pub most_price : ℕ
most_price = 1001 * 10 ^ 27

-- the cost of v lots of an asset: linear v - bend v^2 + price |v - present|
abbrev pub asset_cost : ℤ → ℤ → ℤ → ℤ → ℤ → ℤ
asset_cost linear bend price present v = ((linear *ℤ v) -ℤ (bend *ℤ (v *ℤ v))) +ℤ (price *ℤ abs_z (v -ℤ present))

-- a number is the least of g over l to u: it is reached there, and none is less
pub record IsLeastBetween (l u : ℕ) (g : ℕ → ℤ) (h : ℤ) : Type 0 where
  pub reached : (v : ℕ) × (l ≤ v) × (v ≤ u) × (g v ≡ h)
  pub below : (v : ℕ) → l ≤ v → v ≤ u → h ≤ℤ g v
