-- Neighbours of a list of lots. Own to portgap.
use Rattle.std.specs.Prelude.{◌≡◌, ◌≢◌, ℕ, ◌+◌, ◌-◌, ◌<◌, List, length, slice_index_or, slice_set, ◌≤ℤ◌, ◌⊎◌}
use Rattle.gap_instance.specs.Instances.{InstanceValue}
use Rattle.gap_instance.specs.Limits.{MeetsLimits}
use Rattle.gap_instance.specs.Objective.{objective}

-- x with s lots moved from asset i to asset j
abbrev pub lots_shifted : List ℕ → ℕ → ℕ → ℕ → List ℕ
lots_shifted x i j s = slice_set (slice_set x i (slice_index_or x i 0 - s)) j (slice_index_or x j 0 + s)

-- x with one lot moved from asset i to asset j
abbrev pub lot_moved : List ℕ → ℕ → ℕ → List ℕ
lot_moved x i j = lots_shifted x i j 1

-- x with the lots of the assets i and j exchanged
abbrev pub exchanged : List ℕ → ℕ → ℕ → List ℕ
exchanged x i j = slice_set (slice_set x i (slice_index_or x j 0)) j (slice_index_or x i 0)

-- y is x with one lot moved from i to j, two assets that x holds
pub record IsMove (x y : List ℕ) (i j : ℕ) : Type 0 where
  pub other : i ≢ j
  pub from : 0 < slice_index_or x i 0
  pub to : 0 < slice_index_or x j 0
  pub is : y ≡ lot_moved x i j

-- y is x with the held asset i replaced by the asset j, which x does not hold, with the same lots
pub record IsReplacement (x y : List ℕ) (i j : ℕ) : Type 0 where
  pub inside : j < length x
  pub from : 0 < slice_index_or x i 0
  pub to : slice_index_or x j 0 ≡ 0
  pub is : y ≡ exchanged x i j

-- y is a neighbour of x: one lot was moved between two held assets, or a held asset was replaced by one not held
abbrev pub IsNeighbour : List ℕ → List ℕ → Type 0
IsNeighbour x y = (i : ℕ) × (j : ℕ) × (IsMove x y i j ⊎ IsReplacement x y i j)

-- no neighbour of x that meets the limits has a smaller objective under the weight p/q
abbrev pub HasNoBetterNeighbour : InstanceValue → ℕ → ℕ → List ℕ → Type 0
HasNoBetterNeighbour I p q x = (y : List ℕ) → IsNeighbour x y → MeetsLimits I y → objective I p q x ≤ℤ objective I p q y
