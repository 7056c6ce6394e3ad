-- Efficient rows of a frontier.
-- Source: the efficient frontier of Markowitz's mean-variance model.
use Rattle.std.specs.Prelude.{◌≡◌, ◌⊎◌, ℕ, List, Some, slice_get, All, ◌≤ℤ◌, ◌<ℤ◌}
use Rattle.gap_model.specs.declared.front.FrontRow.{FrontRow}

-- a row dominates another: its risk isn't greater, its return isn't smaller, and one of the two is better
pub record Dominates (row other : FrontRow) : Type 0 where
  pub no_more_risk : row.risk ≤ℤ other.risk
  pub no_less_return : other.ret ≤ℤ row.ret
  pub better : (row.risk <ℤ other.risk) ⊎ (other.ret <ℤ row.ret)

-- no row dominates row k
abbrev pub IsEfficient : List FrontRow → ℕ → Type 0
IsEfficient rows k = (row : FrontRow) → slice_get rows k ≡ Some row → All (λ other. ¬ (Dominates other row)) rows
