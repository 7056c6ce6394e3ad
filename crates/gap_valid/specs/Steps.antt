-- What stands while a market is said anew. Own to portgap.

use Rattle.std.specs.Prelude.{◌≡◌, ℕ, ◌+◌, ◌*◌, ◌<◌, ◌⊎◌, pos}
use Rattle.gap_base.specs.Markets.{MarketValue, IsMarket, mean_of, deviation_of, rho_of}
use Rattle.gap_base.specs.Sums.{at}

-- of a market k has the means and deviations of the first assets, and the correlations of the first pairs b < a, by a and
-- then b: those of the rows below a number, and in the row of that number those of the columns below another
pub record IsSaidUpTo (m k : MarketValue) (assets row column : ℕ) : Type 0 where
  pub is_market : IsMarket k
  pub assets_are : k.assets ≡ m.assets
  pub rounded_is : k.rounded ≡ 0
  pub means_are : (a : ℕ) → a < assets → mean_of k a ≡ mean_of m a
  pub deviations_are : (a : ℕ) → a < assets → deviation_of k a ≡ deviation_of m a
  pub diagonal_is : (a : ℕ) → a < m.assets → at k.correlations (a * m.assets + a) ≡ pos 0
  pub pairs_are : (a b : ℕ) → b < a → a < m.assets → (a < row) ⊎ ((a ≡ row) × (b < column)) → rho_of k a b ≡ rho_of m a b
