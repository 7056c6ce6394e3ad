-- What contracts see of a holding. Own to portgap.
use Rattle.std.specs.Prelude.{◌≡◌, ℕ, ◌+◌, ◌-◌, ◌<◌, ◌≤◌, List, length, slice_index_or, ℤ, pos}
use Rattle.gap_base.specs.Sums.{at}
use Rattle.gap_base.specs.declared.weight.Weight.{Weight}
use Rattle.gap_instance.specs.Instances.{InstanceValue, IsInstance, AreBetween}
use Rattle.gap_instance.specs.Limits.{held_of, turnover_of}
use Rattle.gap_instance.specs.Objective.{objective}
use Rattle.gap_objective.specs.Slopes.{slope_of}

-- a list of lots, with the instance and the weight by which its objective is taken
pub record HoldingValue : Type 0 where
  pub instance : InstanceValue
  pub weight : Weight
  pub lots : List ℕ

-- the slopes of the objective at all assets are kept
abbrev pub AreSlopes : InstanceValue → ℕ → ℕ → List ℕ → List ℤ → Type 0
AreSlopes I p q x slopes = (k : ℕ) → k < I.market.assets → at slopes k ≡ slope_of I p q x k

-- how far two numbers are apart
abbrev pub distance : ℕ → ℕ → ℕ
distance a b = (a - b) + (b - a)

-- what a holding keeps: a number of at most 10000 for each asset, the slopes of the objective, the objective, how many
-- assets are held, and the turnover from the present lots
pub record IsKept (I : InstanceValue) (p q : ℕ) (x : List ℕ) (slopes : List ℤ) (value : ℤ) (held turnover : ℕ)
    : Type 0 where
  pub risk_weight : p ≤ 255
  pub whole_weight : q ≤ 255
  pub instance_is : IsInstance I
  pub lots_are : AreBetween I.market.assets 0 10000 x
  pub room : length slopes ≡ 256
  pub slopes_are : AreSlopes I p q x slopes
  pub value_is : value ≡ objective I p q x
  pub held_is : held ≡ held_of I.market.assets x
  pub turnover_is : pos turnover ≡ turnover_of I.market.assets I.present x

-- the first k numbers of y are those of x, the others are 0, and there are as many
pub record IsFront (x : List ℕ) (k : ℕ) (y : List ℕ) : Type 0 where
  pub size : length y ≡ length x
  pub below : (i : ℕ) → i < k → slice_index_or y i 0 ≡ slice_index_or x i 0
  pub above : (i : ℕ) → k ≤ i → slice_index_or y i 0 ≡ 0
