-- The products of the covariances with a tangent point. Own to portgap.

use Rattle.std.specs.Prelude.{◌≡◌, ℕ, ◌*◌, ◌<◌, ◌≤◌, List, ℤ, ◌*ℤ◌, unsigned_abs}
use Rattle.gap_base.specs.Sums.{sum_below, at}
use Rattle.gap_base.specs.Lots.{lots_at}
use Rattle.gap_base.specs.Markets.{MarketValue}
use Rattle.gap_instance.specs.Objective.{cov_of}

-- for each asset the sum of its covariances with the first count assets, each times the eighths of that one
pub record AreRowsBefore (m : MarketValue) (y : List ℕ) (count : ℕ) (rows : List ℤ) : Type 0 where
  pub sums : (i : ℕ) → i < m.assets → at rows i ≡ sum_below count (λ j. cov_of m i j *ℤ lots_at y j)
  pub small : (i : ℕ) → i < m.assets → unsigned_abs (at rows i) ≤ count * 80000000000000000000000

-- the same with all assets. A row is at most 8 * 10^22 in size, since all eighths together are at most 80000
pub record AreRows (m : MarketValue) (y : List ℕ) (rows : List ℤ) : Type 0 where
  pub sums : (i : ℕ) → i < m.assets → at rows i ≡ sum_below m.assets (λ j. cov_of m i j *ℤ lots_at y j)
  pub small : (i : ℕ) → i < m.assets → unsigned_abs (at rows i) ≤ 80000000000000000000000
