-- Laws of covariances: sizes, and the same from either side.
use Rattle.std.proofs.Common.{◌≡◌, ℕ, ◌*◌, ◌<◌, ◌≤◌, pos, ◌*ℤ◌, ap, ◌∙◌, unsigned_abs}
use Rattle.std.proofs.Math.Nat.{mul_comm}
use native.Mathlib.Nat.{mul-le-mul}
use Rattle.gap_base.specs.Markets.{MarketValue, IsMarket, deviation_of, rho_of}
use Rattle.gap_base.proofs.Machine.{unsigned_abs-product_le}
use Rattle.gap_instance.specs.Objective.{cov_of}

-- the covariance of two assets is the same from either side
pub cov_of-symmetric : (m : MarketValue) → IsMarket m → (i j : ℕ) → i < m.assets → j < m.assets → cov_of m i j ≡ cov_of m j i
unfolding cov_of
cov_of-symmetric m known i j p q = ap (λ r. r *ℤ pos (deviation_of m i * deviation_of m j)) (known.symmetric i j p q) ∙ ap (λ (d : ℕ). rho_of m j i *ℤ pos d) (mul_comm (deviation_of m i) (deviation_of m j))

-- a covariance is at most 10^18 in size
pub cov_of-size : (m : MarketValue) → IsMarket m → (i j : ℕ) → unsigned_abs (cov_of m i j) ≤ 1000000000000000000
unfolding cov_of
cov_of-size m known i j =
    let d : deviation_of m i * deviation_of m j ≤ 1000000 * 1000000 = mul-le-mul (known.deviation_sizes i) (known.deviation_sizes j) in
    unsigned_abs-product_le (rho_of m i j) (pos (deviation_of m i * deviation_of m j)) 1000000 1000000000000 (known.rho_sizes i j) d
