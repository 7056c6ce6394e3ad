-- Laws of risk and return: by rows, and their sizes.
use Rattle.std.proofs.Common.{◌≡◌, ℕ, ◌*◌, ◌≤◌, List, ℤ, ◌*ℤ◌, sym, ap, ◌∙◌, unsigned_abs, arith}
use Rattle.std.proofs.Math.IntN.{*ℤ_comm}
use native.Mathlib.Nat.{mul-le-mul}
use Rattle.gap_base.specs.Sums.{sum_below}
use Rattle.gap_base.specs.Lots.{lots_at}
use Rattle.gap_base.specs.Markets.{MarketValue, IsMarket, mean_of}
use Rattle.gap_base.proofs.Machine.{unsigned_abs-product_le}
use Rattle.gap_base.proofs.Ring.{*ℤ_assoc}
use Rattle.gap_base.proofs.SumLaws.{sum_same, sum-scale_right, unsigned_abs-sum}
use Rattle.gap_instance.specs.Instances.{AreBetween}
use Rattle.gap_instance.specs.Objective.{cov_of, risk_of, return_of}
use Rattle.gap_instance.proofs.ObjectiveLaws.{cov_of-size}
use Rattle.gap_objective.specs.Slopes.{row_of}

-- the factors of a term in another order
turned : (c a b : ℤ) → c *ℤ a *ℤ b ≡ c *ℤ b *ℤ a
turned c a b = *ℤ_assoc c a b ∙ ap (λ t. c *ℤ t) (*ℤ_comm a b) ∙ sym (*ℤ_assoc c b a)

-- the risk is the sum of the rows, each times its asset's lots
pub risk_of-rows : (m : MarketValue) (x : List ℕ) → risk_of m x ≡ sum_below m.assets (λ i. row_of m x i *ℤ lots_at x i)
unfolding risk_of row_of
risk_of-rows m x = sum_same m.assets (λ i. sum_below m.assets (λ j. cov_of m i j *ℤ lots_at x i *ℤ lots_at x j)) (λ i. sum_below m.assets (λ j. cov_of m i j *ℤ lots_at x j) *ℤ lots_at x i) (λ i p.
    sum_same m.assets (λ j. cov_of m i j *ℤ lots_at x i *ℤ lots_at x j) (λ j. cov_of m i j *ℤ lots_at x j *ℤ lots_at x i) (λ j q. turned (cov_of m i j) (lots_at x i) (lots_at x j))
    ∙ sum-scale_right m.assets (λ j. cov_of m i j *ℤ lots_at x j) (lots_at x i))

-- a sum over at most 256 places of terms of a size of at most b
few : (n b s : ℕ) → n ≤ 256 → s ≤ n * b → s ≤ 256 * b
few n b s h k = let e = mul-le-mul h (let r : b ≤ b = omega arith in r) in omega arith

pub row_of-size : (m : MarketValue) (x : List ℕ) (i : ℕ) → IsMarket m → AreBetween m.assets 0 10000 x → unsigned_abs (row_of m x i) ≤ 2560000000000000000000000
unfolding row_of
row_of-size m x i known lots = few m.assets 10000000000000000000000 _ known.many (unsigned_abs-sum m.assets (λ j. cov_of m i j *ℤ lots_at x j) 10000000000000000000000 (λ j q. unsigned_abs-product_le (cov_of m i j) (lots_at x j) 1000000000000000000 10000 (cov_of-size m known i j) (lots.most j q)))

-- the risk of numbers of at most 10000
pub risk_of-within : (m : MarketValue) (x : List ℕ) → IsMarket m → AreBetween m.assets 0 10000 x → unsigned_abs (risk_of m x) ≤ 6553600000000000000000000000000
risk_of-within m x known lots = rw (risk_of-rows m x) (few m.assets 25600000000000000000000000000 _ known.many (unsigned_abs-sum m.assets (λ i. row_of m x i *ℤ lots_at x i) 25600000000000000000000000000 (λ i p. unsigned_abs-product_le (row_of m x i) (lots_at x i) 2560000000000000000000000 10000 (row_of-size m x i known lots) (lots.most i p))))

-- the return of numbers of at most 10000
pub return_of-within : (m : MarketValue) (x : List ℕ) → IsMarket m → AreBetween m.assets 0 10000 x → unsigned_abs (return_of m x) ≤ 2560000000000
unfolding return_of
return_of-within m x known lots = few m.assets 10000000000 _ known.many (unsigned_abs-sum m.assets (λ i. mean_of m i *ℤ lots_at x i) 10000000000 (λ i p. unsigned_abs-product_le (mean_of m i) (lots_at x i) 1000000 10000 (known.mean_sizes i) (lots.most i p)))

pub ruleset rows = (risk_of-rows)
