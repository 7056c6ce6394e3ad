-- Steps from a list of lots to its neighbours. Own to portgap.
use Rattle.std.specs.Prelude.{◌≡◌, ◌≢◌, ℕ, ◌<◌, ◌≤◌, ◌⊎◌, List, length, slice_index_or, Option, None, Some, ℤ, pos, ◌+ℤ◌, ◌≤ℤ◌, ◌<ℤ◌, unsigned_abs}
use Rattle.gap_instance.specs.Instances.{InstanceValue}
use Rattle.gap_instance.specs.Limits.{MeetsLimits, held_of}
use Rattle.gap_instance.specs.Neighbours.{lot_moved, exchanged}
use Rattle.gap_instance.specs.Objective.{objective}
use Rattle.gap_start.specs.declared.step.Found.{Found}
use Rattle.gap_start.specs.declared.step.Kind.{Kind}
use Rattle.gap_start.specs.declared.step.Kind.TheVariants.{Move, Replace}
use Rattle.gap_start.specs.declared.step.Step.{Step}

-- there is a step of this kind from asset i to asset j
abbrev pub CanStep : List ℕ → Kind → ℕ → ℕ → Type 0
CanStep x Move i j = (i ≢ j) × (0 < slice_index_or x i 0) × (0 < slice_index_or x j 0)
CanStep x Replace i j = (j < length x) × (0 < slice_index_or x i 0) × (slice_index_or x j 0 ≡ 0)

-- the list after it
abbrev pub stepped : List ℕ → Kind → ℕ → ℕ → List ℕ
stepped x Move i j = lot_moved x i j
stepped x Replace i j = exchanged x i j

-- there is such a step, asset j has room for what it gets, and asset i may keep what it has left: no lot only where x
-- holds more than K1 assets
abbrev pub HasRoom : InstanceValue → List ℕ → Kind → ℕ → ℕ → Type 0
HasRoom I x Move i j =
    (i ≢ j) × (0 < slice_index_or x i 0) × (0 < slice_index_or x j 0)
    × (slice_index_or x j 0 < slice_index_or I.greatest j 0)
    × ((slice_index_or I.least i 0 < slice_index_or x i 0)
    ⊎ ((slice_index_or x i 0 ≡ 1) × (I.held < held_of I.market.assets x)))
HasRoom I x Replace i j =
    (0 < slice_index_or x i 0) × (slice_index_or x j 0 ≡ 0) × (slice_index_or I.least j 0 ≤ slice_index_or x i 0)
    × (slice_index_or x i 0 ≤ slice_index_or I.greatest j 0)

-- the step doesn't lead to a list that meets the limits and has an objective below v
abbrev pub NoneBelow : InstanceValue → ℕ → ℕ → List ℕ → ℤ → Kind → ℕ → ℕ → Type 0
NoneBelow I p q x v kind i j =
    CanStep x kind i j → MeetsLimits I (stepped x kind i j) → v ≤ℤ objective I p q (stepped x kind i j)

-- nor does one from asset i to an asset below n, nor any of its kind
abbrev pub NoneBelowFrom : InstanceValue → ℕ → ℕ → List ℕ → ℤ → Kind → ℕ → ℕ → Type 0
NoneBelowFrom I p q x v kind i n = (j : ℕ) → j < n → NoneBelow I p q x v kind i j

abbrev pub NoneBelowKind : InstanceValue → ℕ → ℕ → List ℕ → ℤ → Kind → Type 0
NoneBelowKind I p q x v kind = (i : ℕ) → i < I.market.assets → NoneBelowFrom I p q x v kind i I.market.assets

-- a step leads to a better list that meets the limits, with the objective v
pub record IsBetter (I : InstanceValue) (p q : ℕ) (x : List ℕ) (v : ℤ) (step : Step) : Type 0 where
  pub giver : step.from < I.market.assets
  pub taker : step.to < I.market.assets
  pub room : HasRoom I x step.kind step.from step.to
  pub meets : MeetsLimits I (stepped x step.kind step.from step.to)
  pub value : v ≡ objective I p q (stepped x step.kind step.from step.to)
  pub better : v <ℤ objective I p q x

-- what was found is a better step with its objective, or the list's own objective
abbrev pub IsFoundBy : InstanceValue → ℕ → ℕ → List ℕ → ℤ → Option Step → Type 0
IsFoundBy I p q x v None = v ≡ objective I p q x
IsFoundBy I p q x v (Some step) = IsBetter I p q x v step

abbrev pub IsFound : InstanceValue → ℕ → ℕ → List ℕ → Found → Type 0
IsFound I p q x found = IsFoundBy I p q x found.value found.step

-- how far an objective is above the least that there can be
abbrev pub height : InstanceValue → ℕ → ℕ → List ℕ → ℕ
height I p q x = unsigned_abs (objective I p q x +ℤ pos 2000000000000000000000000000000000)
