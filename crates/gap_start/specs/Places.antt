-- Assets that can give lots or take them. Own to portgap.
use Rattle.std.specs.Prelude.{◌≡◌, ℕ, ◌<◌, ◌≤◌, List, length, slice_index_or, ◌≤ℤ◌, ◌<ℤ◌}
use Rattle.gap_instance.specs.Instances.{InstanceValue}
use Rattle.gap_objective.specs.Slopes.{slope_of}
use Rattle.gap_start.specs.declared.step.Kind.{Kind}
use Rattle.gap_start.specs.declared.step.Kind.TheVariants.{Move, Replace}

-- the place i is one of the first k numbers of a list
abbrev pub IsAmong : List ℕ → ℕ → ℕ → Type 0
IsAmong xs k i = (a : ℕ) × (a < k) × (slice_index_or xs a 0 ≡ i)

-- each place below m of which P holds is one of the first k numbers of a list of n places below n
pub record AreAll (P : ℕ → Type 0) (n m : ℕ) (xs : List ℕ) (k : ℕ) : Type 0 where
  pub size : length xs ≡ n
  pub few : k ≤ m
  pub inside : (a : ℕ) → slice_index_or xs a 0 < n
  pub all : (i : ℕ) → i < m → P i → IsAmong xs k i

-- asset i is held
abbrev pub IsGiver : List ℕ → ℕ → Type 0
IsGiver x i = 0 < slice_index_or x i 0

-- asset j can take lots by a step of this kind
abbrev pub CanTake : List ℕ → Kind → ℕ → Type 0
CanTake x Move j = 0 < slice_index_or x j 0
CanTake x Replace j = slice_index_or x j 0 ≡ 0

-- so it can, and the slope of the objective at it is below the one at asset top
abbrev pub IsTaker : InstanceValue → ℕ → ℕ → List ℕ → Kind → ℕ → ℕ → Type 0
IsTaker I p q x kind top j = CanTake x kind j × (slope_of I p q x j <ℤ slope_of I p q x top)

-- the slope at asset top is as great as at each asset that is held
abbrev pub IsSteepest : InstanceValue → ℕ → ℕ → List ℕ → ℕ → Type 0
IsSteepest I p q x top =
    (i : ℕ) → i < I.market.assets → IsGiver x i → slope_of I p q x i ≤ℤ slope_of I p q x top
