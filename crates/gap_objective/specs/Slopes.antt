-- How the objective of a list changes with the lots of one asset. Own to portgap.
use Rattle.std.specs.Prelude.{◌≡◌, ◌≢◌, ℕ, ◌-◌, ◌*◌, ◌<◌, ◌≤◌, List, slice_index_or, ℤ, pos, ◌+ℤ◌, ◌-ℤ◌, ◌*ℤ◌, ◌≤ℤ◌}
use Rattle.gap_base.specs.Lots.{lots_at}
use Rattle.gap_base.specs.Sums.{sum_below, at, unit}
use Rattle.gap_base.specs.Markets.{MarketValue, mean_of}
use Rattle.gap_instance.specs.Instances.{InstanceValue}
use Rattle.gap_instance.specs.Neighbours.{lots_shifted}
use Rattle.gap_instance.specs.Objective.{cov_of, objective}

-- row i of the covariances times the list: the sum of C_ij x_j over all assets j
unfoldable pub row_of : MarketValue → List ℕ → ℕ → ℤ
row_of m x i = sum_below m.assets (λ j. cov_of m i j *ℤ lots_at x j)

-- the slope of the objective under the weight p/q at asset i: 2p times the row less (q - p) * 10^12 * L times the mean
unfoldable pub slope_of : InstanceValue → ℕ → ℕ → List ℕ → ℕ → ℤ
slope_of I p q x i = (pos (2 * p) *ℤ row_of I.market x i) -ℤ (pos ((q - p) * 1000000000000 * I.lots) *ℤ mean_of I.market i)

-- y is x with d more lots in asset a, where d may be negative
abbrev pub IsChanged : List ℕ → List ℕ → ℤ → ℕ → Type 0
IsChanged x y d a = (k : ℕ) → lots_at y k ≡ lots_at x k +ℤ d *ℤ unit a k

-- the covariances of two assets with themselves less, for each, that of the one with the other
abbrev pub spread_of : MarketValue → ℕ → ℕ → ℤ
spread_of m i j = (cov_of m i i -ℤ cov_of m i j) +ℤ (cov_of m j j -ℤ cov_of m i j)

-- of the slopes of n assets those below k are shifted by their covariance with asset i times s, the others are as before
pub record AreShiftedBelow (m : MarketValue) (i k : ℕ) (s : ℤ) (old new : List ℤ) : Type 0 where
  pub below : (j : ℕ) → j < k → at new j ≡ at old j +ℤ cov_of m j i *ℤ s
  pub above : (j : ℕ) → k ≤ j → at new j ≡ at old j

-- no number of lots that asset i has lowers the objective by going from it to another asset j
abbrev pub StaysFrom : InstanceValue → ℕ → ℕ → List ℕ → ℕ → ℕ → Type 0
StaysFrom I p q x i j =
    (s : ℕ) → i ≢ j → s ≤ slice_index_or x i 0 → objective I p q x ≤ℤ objective I p q (lots_shifted x i j s)
