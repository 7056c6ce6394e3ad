-- The objective of a list that meets the limits is at most 10^30 in size.

use Rattle.std.proofs.Common.{◌≡◌, ℕ, ◌+◌, ◌-◌, ◌*◌, ◌≤◌, List, slice_index_or, ℤ, pos, ◌-ℤ◌, ◌*ℤ◌, ◌≤ℤ◌, unsigned_abs, refl, sym, ap, ◌∙◌, arith, subst}
use Rattle.std.proofs.lemmas.Int.{ints, unsigned_abs-mul}
use native.Mathlib.Nat.{mul-le-mul}
use Rattle.gap_base.specs.Sums.{sum_below}
use Rattle.gap_base.specs.Lots.{lots_at}
use Rattle.gap_base.specs.Markets.{MarketValue, IsMarket, mean_of}
use Rattle.gap_base.proofs.SumLaws.{sum_le, sum_below_sizes, sum-scale, sum-product}
use Rattle.gap_instance.specs.Instances.{InstanceValue, IsInstance}
use Rattle.gap_instance.specs.Limits.{sum_of, MeetsLimits}
use Rattle.gap_instance.specs.Objective.{cov_of, risk_of, return_of, objective}
use Rattle.gap_instance.proofs.ObjectiveLaws.{cov_of-size}
use Rattle.gap_model.proofs.FormLaws.{double, double_scale}
use Rattle.gap_model.proofs.LagLaws.{objective_is}

-- a double sum has the size of the double sum of sizes at most
double_sizes : (n : ℕ) (f g : ℕ → ℕ → ℤ) → ((i j : ℕ) → pos (unsigned_abs (f i j)) ≤ℤ g i j) → pos (unsigned_abs (double n f)) ≤ℤ double n g
double_sizes n f g h =
    let a = sum_below_sizes n (λ i. sum_below n (λ j. f i j)) in
    let b = sum_le n (λ i. pos (unsigned_abs (sum_below n (λ j. f i j)))) (λ i. sum_below n (λ j. g i j)) (λ i p. row_sizes i) in
    omega (arith, ints)
  where
    row_sizes : (i : ℕ) → pos (unsigned_abs (sum_below n (λ j. f i j))) ≤ℤ sum_below n (λ j. g i j)
    row_sizes i = let a = sum_below_sizes n (λ j. f i j) in let b = sum_le n (λ j. pos (unsigned_abs (f i j))) (λ j. g i j) (λ j p. h i j) in omega (arith, ints)

risk_term : (c : ℤ) (v w : ℕ) → unsigned_abs c ≤ 1000000000000000000 → pos (unsigned_abs (c *ℤ pos v *ℤ pos w)) ≤ℤ (pos 1000000000000000000 *ℤ (pos v *ℤ pos w))
risk_term c v w h =
    let a = unsigned_abs-mul (c *ℤ pos v) (pos w) in
    let b = unsigned_abs-mul c (pos v) in
    let d : unsigned_abs c * (v * w) ≤ 1000000000000000000 * (v * w) = mul-le-mul h (omega arith) in
    let e : unsigned_abs (c *ℤ pos v *ℤ pos w) ≡ unsigned_abs c * v * w = a ∙ ap (λ (t : ℕ). t * w) b in
    let f : unsigned_abs c * v * w ≡ unsigned_abs c * (v * w) = omega arith in
    omega (arith, ints)

risk_is : (m : MarketValue) (x : List ℕ) → risk_of m x ≡ double m.assets (λ i j. cov_of m i j *ℤ lots_at x i *ℤ lots_at x j)
unfolding risk_of
risk_is m x = refl

risk_size : (m : MarketValue) (x : List ℕ) → IsMarket m → pos (unsigned_abs (risk_of m x)) ≤ℤ (pos 1000000000000000000 *ℤ (sum_of m.assets x *ℤ sum_of m.assets x))
risk_size m x h =
    let n = m.assets in
    let a = double_sizes n (λ i j. cov_of m i j *ℤ lots_at x i *ℤ lots_at x j) (λ i j. pos 1000000000000000000 *ℤ (lots_at x i *ℤ lots_at x j)) (λ i j. risk_term (cov_of m i j) (slice_index_or x i 0) (slice_index_or x j 0) (cov_of-size m h i j)) in
    let b = double_scale n (pos 1000000000000000000) (λ i j. lots_at x i *ℤ lots_at x j) in
    let c = ap (λ z. pos 1000000000000000000 *ℤ z) (sum-product n n (lots_at x) (lots_at x)) in
    subst (λ (z : ℤ). pos (unsigned_abs (risk_of m x)) ≤ℤ z) (b ∙ c) (subst (λ (z : ℤ). pos (unsigned_abs z) ≤ℤ double n (λ i j. pos 1000000000000000000 *ℤ (lots_at x i *ℤ lots_at x j))) (sym (risk_is m x)) a)

return_term : (c : ℤ) (v : ℕ) → unsigned_abs c ≤ 1000000 → pos (unsigned_abs (c *ℤ pos v)) ≤ℤ (pos 1000000 *ℤ pos v)
return_term c v h =
    let a = unsigned_abs-mul c (pos v) in
    let d : unsigned_abs c * v ≤ 1000000 * v = mul-le-mul h (omega arith) in
    omega (arith, ints)

return_is : (m : MarketValue) (x : List ℕ) → return_of m x ≡ sum_below m.assets (λ i. mean_of m i *ℤ lots_at x i)
unfolding return_of
return_is m x = refl

return_size : (m : MarketValue) (x : List ℕ) → IsMarket m → pos (unsigned_abs (return_of m x)) ≤ℤ (pos 1000000 *ℤ sum_of m.assets x)
return_size m x h =
    let a = sum_below_sizes m.assets (λ i. mean_of m i *ℤ lots_at x i) in
    let b = sum_le m.assets (λ i. pos (unsigned_abs (mean_of m i *ℤ lots_at x i))) (λ i. pos 1000000 *ℤ lots_at x i) (λ i p. return_term (mean_of m i) (slice_index_or x i 0) (h.mean_sizes i)) in
    let c = sum-scale m.assets (pos 1000000) (lots_at x) in
    let d = return_is m x in
    rw d (omega (arith, ints))

-- with the numbers of the limits: 1 to 10000 lots, weights of at most 100
size_numbers : (p d l r s : ℕ) → p ≤ 100 → d ≤ 100 → l ≤ 10000 → r ≤ 1000000000000000000 * (l * l) → s ≤ 1000000 * l → p * r + (d * 1000000000000 * l) * s ≤ 1000000000000000000000000000000
size_numbers p d l r s hp hd hl hr hs =
    let ll : l * l ≤ 10000 * 10000 = mul-le-mul hl hl in
    let r2 : r ≤ 100000000000000000000000000 = omega arith in
    let a : p * r ≤ 100 * 100000000000000000000000000 = mul-le-mul hp r2 in
    let d2 : d * 1000000000000 ≤ 100000000000000 = omega arith in
    let b : d * 1000000000000 * l ≤ 100000000000000 * 10000 = mul-le-mul d2 hl in
    let s2 : s ≤ 10000000000 = omega arith in
    let c : (d * 1000000000000 * l) * s ≤ (100000000000000 * 10000) * 10000000000 = mul-le-mul b s2 in
    omega arith

natural_le : (z : ℤ) (l c : ℕ) (b : ℤ) → z ≡ pos l → pos c ≤ℤ (pos 1000000 *ℤ z) → c ≤ 1000000 * l
natural_le z l c b e h = let g : pos c ≤ℤ (pos 1000000 *ℤ pos l) = rw e at h in omega (arith, ints)

natural_square_le : (z : ℤ) (l c : ℕ) → z ≡ pos l → pos c ≤ℤ (pos 1000000000000000000 *ℤ (z *ℤ z)) → c ≤ 1000000000000000000 * (l * l)
natural_square_le z l c e h = let g : pos c ≤ℤ (pos 1000000000000000000 *ℤ (pos l *ℤ pos l)) = rw e at h in omega (arith, ints)

pub objective_size : (I : InstanceValue) (p q : ℕ) (x : List ℕ) → IsInstance I → p ≤ q → q ≤ 100 → MeetsLimits I x → unsigned_abs (objective I p q x) ≤ 1000000000000000000000000000000
objective_size I p q x is hp hq m =
    let r = natural_square_le (sum_of I.market.assets x) I.lots (unsigned_abs (risk_of I.market x)) m.lots_are (risk_size I.market x is.market_is) in
    let s = natural_le (sum_of I.market.assets x) I.lots (unsigned_abs (return_of I.market x)) (pos 0) m.lots_are (return_size I.market x is.market_is) in
    let c = size_numbers p (q - p) I.lots (unsigned_abs (risk_of I.market x)) (unsigned_abs (return_of I.market x)) (omega arith) (omega arith) is.limits_are.lots_most r s in
    let d = unsigned_abs-mul (pos p) (risk_of I.market x) in
    let e = unsigned_abs-mul (pos ((q - p) * 1000000000000 * I.lots)) (return_of I.market x) in
    let f = objective_is I p q x in
    rw f (by_parts (pos p *ℤ risk_of I.market x) (pos ((q - p) * 1000000000000 * I.lots) *ℤ return_of I.market x) _ _ d e c)
  where
    by_parts : (a b : ℤ) (m n : ℕ) → unsigned_abs a ≡ m → unsigned_abs b ≡ n → m + n ≤ 1000000000000000000000000000000 → unsigned_abs (a -ℤ b) ≤ 1000000000000000000000000000000
    by_parts a b m n h k l = omega (arith, ints)
