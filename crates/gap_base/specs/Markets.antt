-- The market: what a port file says of its assets, in millionths.
use Rattle.std.specs.Prelude.{◌≡◌, ℕ, ◌+◌, ◌*◌, ◌<◌, ◌≤◌, ◌==◌, ℤ, pos, List, length, replicate, slice_index_or, slice_set, if◌then◌else◌}
use Rattle.std.specs.Int.RustNames.{unsigned_abs}

-- the value of a market: the number of its assets, their mean returns and deviations, the correlations of each two
-- row by row (the entries of the diagonal stand for nothing), and how many numerals of the file were rounded.
-- Source: the OR-Library's portfolio files, in millionths
pub record MarketValue : Type 0 where
  pub assets : ℕ
  pub means : List ℤ
  pub deviations : List ℕ
  pub correlations : List ℤ
  pub rounded : ℕ

-- the mean return of asset i
abbrev pub mean_of : MarketValue → ℕ → ℤ
mean_of m i = slice_index_or m.means i (pos 0)

-- the standard deviation of the return of asset i
abbrev pub deviation_of : MarketValue → ℕ → ℕ
deviation_of m i = slice_index_or m.deviations i 0

-- the correlation of the returns of assets i and j; of an asset with itself it is 1
unfoldable pub rho_of : MarketValue → ℕ → ℕ → ℤ
rho_of m i j = if i == j then pos 1000000 else slice_index_or m.correlations (i * m.assets + j) (pos 0)

-- the market of n assets of which nothing is known: no return, no risk, no two assets tied together
abbrev pub fresh_market : ℕ → MarketValue
fresh_market n = record {
  assets = n;
  means = replicate n (pos 0);
  deviations = replicate n 0;
  correlations = replicate (n * n) (pos 0);
  rounded = 0;
}

-- the market with another mean of asset i
abbrev pub with_mean : MarketValue → ℕ → ℤ → MarketValue
with_mean m i v = record m { means = slice_set m.means i v }

-- the market with another deviation of asset i
abbrev pub with_deviation : MarketValue → ℕ → ℕ → MarketValue
with_deviation m i v = record m { deviations = slice_set m.deviations i v }

-- the market with another correlation of the assets i and j, both ways round
abbrev pub with_rho : MarketValue → ℕ → ℕ → ℤ → MarketValue
with_rho m i j v =
    record m { correlations = slice_set (slice_set m.correlations (i * m.assets + j) v) (j * m.assets + i) v }

-- the market with one more rounded numeral
abbrev pub with_one_more_rounded : MarketValue → MarketValue
with_one_more_rounded m = record m { rounded = m.rounded + 1 }

-- what holds of every market: 2 to 256 assets, a mean and a deviation for each, each entry at most 1000000 in size,
-- and the correlation of two assets is the same from either side
pub record IsMarket (m : MarketValue) : Type 0 where
  pub few : 2 ≤ m.assets
  pub many : m.assets ≤ 256
  pub means_length : length m.means ≡ m.assets
  pub deviations_length : length m.deviations ≡ m.assets
  pub correlations_length : length m.correlations ≡ m.assets * m.assets
  pub mean_sizes : (i : ℕ) → unsigned_abs (mean_of m i) ≤ 1000000
  pub deviation_sizes : (i : ℕ) → deviation_of m i ≤ 1000000
  pub rho_sizes : (i j : ℕ) → unsigned_abs (rho_of m i j) ≤ 1000000
  pub symmetric : (i j : ℕ) → i < m.assets → j < m.assets → rho_of m i j ≡ rho_of m j i
