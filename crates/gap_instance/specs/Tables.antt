-- The table of covariances that an instance keeps. Own to portgap.
use Rattle.std.specs.Prelude.{◌≡◌, ℕ, ◌+◌, ◌*◌, ◌<◌, List, length, ℤ}
use Rattle.gap_base.specs.Sums.{at}
use Rattle.gap_base.specs.Markets.{MarketValue}
use Rattle.gap_instance.specs.Objective.{cov_of}
use Rattle.gap_instance.specs.Instances.{InstanceValue, IsInstance}

-- the first entries of the table of covariances, row by row, as many as count says
pub record IsTableBefore (m : MarketValue) (count : ℕ) (table : List ℤ) : Type 0 where
  pub size : length table ≡ count
  pub entries : (i j : ℕ) → j < m.assets → i * m.assets + j < count → at table (i * m.assets + j) ≡ cov_of m i j

-- the whole table of covariances
abbrev pub IsTable : MarketValue → List ℤ → Type 0
IsTable m table = IsTableBefore m (m.assets * m.assets) table

-- what an instance keeps: the facts on every instance, and its table
pub record IsKept (I : InstanceValue) (table : List ℤ) : Type 0 where
  pub instance_is : IsInstance I
  pub table_is : IsTable I.market table
