-- What the head of a certificate says: an instance, a shift of its covariances, and the part of all lists. Own to portgap.

use Rattle.std.specs.Prelude.{◌≡◌, ℕ, zero, suc, ◌+◌, ◌-◌, ◌*◌, ◌/◌, ◌%◌, ◌≤◌, if◌then◌else◌, nat_lt, nat_le, List, map, length, All, ℤ, pos, ◌≤ℤ◌, unsigned_abs}
use Rattle.std.specs.List.{range_with_len}
use Rattle.std.specs.Option.{ForSome}
use Rattle.gap_base.specs.declared.weight.Weight.{Weight}
use Rattle.gap_base.specs.Markets.{MarketValue}
use Rattle.gap_base.specs.Sizes.{most_millionths, most_lots, most_turnover, most_factor, most_diagonal}
use Rattle.gap_base.specs.Sums.{at}
use Rattle.gap_box.specs.declared.cell.Cell.{Cell}
use Rattle.gap_box.specs.Parts.{root_cells}
use Rattle.gap_instance.specs.Instances.{InstanceValue}
use Rattle.gap_psd.specs.Shifts.{ShiftValue}
use Rattle.gap_model.specs.Settings.{Setting}
use Rattle.gap_tangent.specs.Bounds.{setting_with}
use Rattle.gap_cert.specs.Certificates.{AssetLine, CertHead}

-- how many pairs i < j of n assets have an asset below this one for i: n - 1 have the first, n - 2 the second, and so on
abbrev pub pairs_before : ℕ → ℕ → ℕ
pairs_before n zero = 0
pairs_before n (suc i) = pairs_before n i + (n - suc i)

-- the number of the pair i < j among the pairs of n assets, which stand by i and then j
abbrev pub pair_number : ℕ → ℕ → ℕ → ℕ
pair_number n i j = pairs_before n i + (j - suc i)

-- how many entries a triangle has in the rows before this one: 1 in the first, 2 in the second, and so on
abbrev pub rows_before : ℕ → ℕ
rows_before zero = 0
rows_before (suc i) = rows_before i + suc i

-- the number of the entry in row i and column k, which is at most i, of a triangle that stands row by row
abbrev pub row_number : ℕ → ℕ → ℕ
row_number i k = rows_before i + k

-- the table of n rows with n entries each, row by row
abbrev pub table : ℕ → (ℕ → ℕ → ℤ) → List ℤ
table n f = map (λ k. f (k / n) (k % n)) (range_with_len 0 (n * n))

-- the correlation that a head gives two assets, either way round; none is given of an asset with itself
abbrev pub given_rho : CertHead → ℕ → ℕ → ℤ
given_rho h i j =
    if nat_lt i j then at h.correlations (pair_number h.n i j)
    else (if nat_lt j i then at h.correlations (pair_number h.n j i) else pos 0)

-- the entry of the triangle R that a head gives; 0 above the diagonal
abbrev pub given_r : CertHead → ℕ → ℕ → ℤ
given_r h i k = if nat_le k i then at h.factor (row_number i k) else pos 0

-- the market of a head
unfoldable pub market_in : CertHead → MarketValue
market_in h = record {
  assets = h.n;
  means = map (λ a. a.mean) h.assets;
  deviations = map (λ a. a.dev) h.assets;
  correlations = table h.n (given_rho h);
  rounded = 0;
}

-- the instance of a head: its market and its limits
unfoldable pub instance_in : CertHead → InstanceValue
instance_in h = record {
  market = market_in h;
  lots = h.lots;
  held = h.held;
  held_most = h.held_most;
  least = map (λ a. a.least) h.assets;
  greatest = map (λ a. a.greatest) h.assets;
  present = map (λ a. a.present) h.assets;
  turnover = h.turnover;
}

-- the shift of a head
unfoldable pub shift_in : CertHead → ShiftValue
shift_in h = record { assets = h.n; factor = table h.n (given_r h); diagonal = h.diagonal }

-- what the bounds of a section are taken over
abbrev pub setting_in : CertHead → Weight → Setting
setting_in h w = setting_with (instance_in h) (shift_in h) w

-- the part of all lists between the least and the greatest lots of the assets
abbrev pub root_in : CertHead → List Cell
root_in h = root_cells (instance_in h).least (instance_in h).greatest

-- what is said of an asset is in its ranges
pub record IsAssetLine (lots : ℕ) (a : AssetLine) : Type 0 where
  pub mean_most : unsigned_abs a.mean ≤ most_millionths
  pub dev_most : a.dev ≤ most_millionths
  pub least_least : 1 ≤ a.least
  pub least_most : a.least ≤ lots
  pub greatest_least : 1 ≤ a.greatest
  pub greatest_most : a.greatest ≤ lots
  pub present_most : a.present ≤ most_lots

-- an entry of the diagonal is in its range
pub record IsDiagonal (d : ℤ) : Type 0 where
  pub least : pos 0 ≤ℤ d
  pub most : unsigned_abs d ≤ most_diagonal

-- the numbers of a head are in their ranges, and there are as many of each kind as N asks for
pub record IsHead (h : CertHead) : Type 0 where
  pub few : 2 ≤ h.n
  pub many : h.n ≤ 256
  pub lots_least : 1 ≤ h.lots
  pub lots_most : h.lots ≤ most_lots
  pub held_least : 1 ≤ h.held
  pub held_range : h.held ≤ h.held_most
  pub held_most : h.held_most ≤ h.n
  pub turnover_most : ForSome h.turnover (λ t. t ≤ most_turnover)
  pub nodes_most : h.nodes ≤ 100000
  pub assets_count : length h.assets ≡ h.n
  pub assets_are : All (IsAssetLine h.lots) h.assets
  pub correlations_count : length h.correlations ≡ pairs_before h.n h.n
  pub correlations_are : All (λ rho. unsigned_abs rho ≤ most_millionths) h.correlations
  pub factor_count : length h.factor ≡ rows_before h.n
  pub factor_are : All (λ r. unsigned_abs r ≤ most_factor) h.factor
  pub diagonal_count : length h.diagonal ≡ h.n
  pub diagonal_are : All IsDiagonal h.diagonal
