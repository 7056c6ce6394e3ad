-- What a tangent bound is taken over. Own to portgap.

use Rattle.std.specs.Prelude.{◌≡◌, ℕ, ◌<◌, ◌≤◌, ◌==◌, if◌then◌else◌, List, length, ℤ, pos, ◌+ℤ◌, ◌*ℤ◌, ◌≤ℤ◌, unsigned_abs}
use Rattle.gap_base.specs.Sums.{sum_below, at}
use Rattle.gap_instance.specs.Instances.{InstanceValue, IsInstance}
use Rattle.gap_instance.specs.Objective.{cov_of}

-- an instance, the numbers D by which the diagonal of its covariances is shifted, and a weight p/q of risk
pub record Setting : Type 0 where
  pub instance : InstanceValue
  pub shift : List ℤ
  pub p : ℕ
  pub q : ℕ

-- an entry of A: the covariance C_ij, and on the diagonal D_i besides
abbrev pub shifted_cov : Setting → ℕ → ℕ → ℤ
shifted_cov s i j = cov_of s.instance.market i j +ℤ (if j == i then at s.shift i else pos 0)

-- v'Aw: the sum of A_ij v_i w_j over all pairs of assets
unfoldable pub product_of : Setting → (ℕ → ℤ) → (ℕ → ℤ) → ℤ
product_of s v w =
    sum_below s.instance.market.assets (λ i. sum_below s.instance.market.assets (λ j. shifted_cov s i j *ℤ v i *ℤ w j))

-- what a tangent bound needs: the instance's facts, a weight in its range, D in its range for each asset, and that
-- v'Av isn't negative for any list v
pub record IsSetting (s : Setting) : Type 0 where
  pub instance_is : IsInstance s.instance
  pub p_most : s.p ≤ s.q
  pub q_most : s.q ≤ 100
  pub shift_count : length s.shift ≡ s.instance.market.assets
  pub shift_least : (i : ℕ) → i < s.instance.market.assets → pos 0 ≤ℤ at s.shift i
  pub shift_most : (i : ℕ) → i < s.instance.market.assets → unsigned_abs (at s.shift i) ≤ 1000000000000000000000
  pub semidefinite : (v : ℕ → ℤ) → pos 0 ≤ℤ product_of s v v
