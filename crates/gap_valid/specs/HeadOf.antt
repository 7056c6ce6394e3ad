-- The head of a certificate that says an instance, a shift and a budget. Own to portgap.

use Rattle.std.specs.Prelude.{◌≡◌, ℕ, zero, suc, ◌-◌, ◌≤◌, List, [], ◌++◌, map, slice_index_or, ℤ}
use Rattle.std.specs.List.{range_with_len}
use Rattle.gap_base.specs.Markets.{mean_of, deviation_of, rho_of}
use Rattle.gap_instance.specs.Instances.{InstanceValue, IsInstance}
use Rattle.gap_psd.specs.Shifts.{ShiftValue, r_of, IsShift}
use Rattle.gap_cert.specs.Certificates.{AssetLine, CertHead}

-- what an instance says of asset i
abbrev pub asset_line : InstanceValue → ℕ → AssetLine
asset_line I i = record {
  mean = mean_of I.market i;
  dev = deviation_of I.market i;
  least = slice_index_or I.least i 0;
  greatest = slice_index_or I.greatest i 0;
  present = slice_index_or I.present i 0;
}

-- what f gives the pairs i < j of n assets whose i is below a number, by i and then j
unfoldable pub pairs_below : ℕ → (ℕ → ℕ → ℤ) → ℕ → List ℤ
pairs_below n f zero = []
pairs_below n f (suc i) = pairs_below n f i ++ map (f i) (range_with_len (suc i) (n - suc i))

-- the rows of a triangle below a number, one behind another: row i has what f gives it in the columns 0 to i
unfoldable pub rows_below : (ℕ → ℕ → ℤ) → ℕ → List ℤ
rows_below f zero = []
rows_below f (suc i) = rows_below f i ++ map (f i) (range_with_len 0 (suc i))

-- the head that says an instance, a shift of its assets and a budget of splits
unfoldable pub head_of : InstanceValue → ShiftValue → ℕ → CertHead
head_of I S nodes = record {
  n = I.market.assets;
  lots = I.lots;
  held = I.held;
  held_most = I.held_most;
  turnover = I.turnover;
  nodes = nodes;
  assets = map (asset_line I) (range_with_len 0 I.market.assets);
  correlations = pairs_below I.market.assets (rho_of I.market) I.market.assets;
  factor = rows_below (r_of S) I.market.assets;
  diagonal = S.diagonal;
}

-- an instance, a shift of its assets and a budget are in their ranges
pub record AreRanged (I : InstanceValue) (S : ShiftValue) (nodes : ℕ) : Type 0 where
  pub instance_is : IsInstance I
  pub shift_is : IsShift S
  pub same_assets : S.assets ≡ I.market.assets
  pub nodes_most : nodes ≤ 100000
