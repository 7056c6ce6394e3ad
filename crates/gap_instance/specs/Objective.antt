-- Covariance, risk, return and the scaled objective of a list of lots, as plain sums.
-- Source: the objective of Chang, Meade, Beasley and Sharaiha, in whole lots and scaled to whole numbers.
use Rattle.std.specs.Prelude.{ℕ, ◌-◌, ◌*◌, List, ℤ, pos, ◌-ℤ◌, ◌*ℤ◌}
use Rattle.gap_base.specs.Lots.{lots_at}
use Rattle.gap_base.specs.Sums.{sum_below}
use Rattle.gap_base.specs.Markets.{MarketValue, mean_of, deviation_of, rho_of}
use Rattle.gap_instance.specs.Instances.{InstanceValue}

-- the covariance of two assets, in units of 10^-18: correlation times deviation times deviation
unfoldable pub cov_of : MarketValue → ℕ → ℕ → ℤ
cov_of m i j = rho_of m i j *ℤ pos (deviation_of m i * deviation_of m j)

-- the risk of a list: the sum of C_ij x_i x_j over all pairs of assets
unfoldable pub risk_of : MarketValue → List ℕ → ℤ
risk_of m x = sum_below m.assets (λ i. sum_below m.assets (λ j. cov_of m i j *ℤ lots_at x i *ℤ lots_at x j))

-- the return of a list: the sum of mean_i x_i over all assets
unfoldable pub return_of : MarketValue → List ℕ → ℤ
return_of m x = sum_below m.assets (λ i. mean_of m i *ℤ lots_at x i)

-- the scaled objective under the weight p/q: p times the risk less (q - p) * 10^12 * L times the return
unfoldable pub objective : InstanceValue → ℕ → ℕ → List ℕ → ℤ
objective I p q x = (pos p *ℤ risk_of I.market x) -ℤ (pos ((q - p) * 1000000000000 * I.lots) *ℤ return_of I.market x)
