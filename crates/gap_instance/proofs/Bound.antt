-- Bounds of the objective that hold for every list that meets the limits, from bounds of covariances and means.
use Rattle.std.proofs.Common.{◌≡◌, ℕ, ◌-◌, ◌*◌, ◌<◌, ◌≤◌, List, ℤ, pos, neg_ℤ, ◌-ℤ◌, ◌*ℤ◌, ◌≤ℤ◌, sym, ap, ◌∙◌, unsigned_abs, arith}
use Rattle.std.proofs.Math.IntN.{*ℤ_comm}
use Rattle.std.proofs.lemmas.Int.{ints}
use Rattle.gap_base.specs.Sums.{sum_below}
use Rattle.gap_base.specs.Lots.{lots_at}
use Rattle.gap_base.specs.Markets.{mean_of}
use native.Mathlib.Nat.{mul-le-mul}
use Rattle.gap_base.proofs.Machine.{unsigned_abs-product_le}
use Rattle.gap_base.proofs.Ring.{*ℤ_assoc, *ℤ-neg_ℤ, scaled_le, linear}
use Rattle.gap_base.proofs.SumLaws.{sum_le, sum-scale, sum-product}
use Rattle.gap_instance.specs.Instances.{InstanceValue, IsInstance}
use Rattle.gap_instance.specs.Limits.{MeetsLimits}
use Rattle.gap_instance.specs.Objective.{cov_of, risk_of, return_of, objective}
use Rattle.gap_instance.proofs.ObjectiveLaws.{cov_of-size}

-- a natural factor on the right keeps an order
scaled_right : (a b : ℤ) (k : ℕ) → a ≤ℤ b → (a *ℤ pos k) ≤ℤ (b *ℤ pos k)
scaled_right a b k h = rw (*ℤ_comm a (pos k), *ℤ_comm b (pos k)) (scaled_le (pos k) a b (omega (arith, ints)) h)

-- the double sum of one number over all pairs
one_number : (n : ℕ) (x : List ℕ) (c : ℤ) → sum_below n (λ i. sum_below n (λ j. c *ℤ lots_at x i *ℤ lots_at x j)) ≡ c *ℤ sum_below n (lots_at x) *ℤ sum_below n (lots_at x)
one_number n x c = sum-product n n (λ i. c *ℤ lots_at x i) (lots_at x) ∙ ap (λ s. s *ℤ sum_below n (lots_at x)) (sum-scale n c (lots_at x))

-- a double sum is at least that of a number that no entry is below
pub double_at_least : (n : ℕ) (A : ℕ → ℕ → ℤ) (x : List ℕ) (c : ℤ) → ((i j : ℕ) → i < n → j < n → c ≤ℤ A i j) → (c *ℤ sum_below n (lots_at x) *ℤ sum_below n (lots_at x)) ≤ℤ sum_below n (λ i. sum_below n (λ j. A i j *ℤ lots_at x i *ℤ lots_at x j))
double_at_least n A x c h =
    let le = sum_le n (λ i. sum_below n (λ j. c *ℤ lots_at x i *ℤ lots_at x j)) (λ i. sum_below n (λ j. A i j *ℤ lots_at x i *ℤ lots_at x j)) (λ i p.
    sum_le n (λ j. c *ℤ lots_at x i *ℤ lots_at x j) (λ j. A i j *ℤ lots_at x i *ℤ lots_at x j) (λ j q.
    scaled_right (c *ℤ lots_at x i) (A i j *ℤ lots_at x i) _ (scaled_right c (A i j) _ (h i j p q)))) in
    rw (one_number n x c) at le

-- a double sum is at most that of a number that no entry is above
pub double_at_most : (n : ℕ) (A : ℕ → ℕ → ℤ) (x : List ℕ) (c : ℤ) → ((i j : ℕ) → i < n → j < n → A i j ≤ℤ c) → sum_below n (λ i. sum_below n (λ j. A i j *ℤ lots_at x i *ℤ lots_at x j)) ≤ℤ (c *ℤ sum_below n (lots_at x) *ℤ sum_below n (lots_at x))
double_at_most n A x c h =
    let le = sum_le n (λ i. sum_below n (λ j. A i j *ℤ lots_at x i *ℤ lots_at x j)) (λ i. sum_below n (λ j. c *ℤ lots_at x i *ℤ lots_at x j)) (λ i p.
    sum_le n (λ j. A i j *ℤ lots_at x i *ℤ lots_at x j) (λ j. c *ℤ lots_at x i *ℤ lots_at x j) (λ j q.
    scaled_right (A i j *ℤ lots_at x i) (c *ℤ lots_at x i) _ (scaled_right (A i j) c _ (h i j p q)))) in
    rw (one_number n x c) at le

squared : (c : ℤ) (k : ℕ) → c *ℤ pos k *ℤ pos k ≡ pos (k * k) *ℤ c
squared c k = *ℤ_assoc c (pos k) (pos k) ∙ *ℤ_comm c (pos (k * k))

-- the risk of a list that meets the limits, from the least and from the greatest covariance
pub risk_at_least : (I : InstanceValue) (x : List ℕ) (c : ℤ) → MeetsLimits I x → ((i j : ℕ) → i < I.market.assets → j < I.market.assets → c ≤ℤ cov_of I.market i j) → (pos (I.lots * I.lots) *ℤ c) ≤ℤ risk_of I.market x
unfolding risk_of
risk_at_least I x c meets h = let le = double_at_least I.market.assets (cov_of I.market) x c h in rw (sym (squared c I.lots)) (rw meets.lots_are at le)

pub risk_at_most : (I : InstanceValue) (x : List ℕ) (c : ℤ) → MeetsLimits I x → ((i j : ℕ) → i < I.market.assets → j < I.market.assets → cov_of I.market i j ≤ℤ c) → risk_of I.market x ≤ℤ (pos (I.lots * I.lots) *ℤ c)
unfolding risk_of
risk_at_most I x c meets h = let le = double_at_most I.market.assets (cov_of I.market) x c h in rw (sym (squared c I.lots)) (rw meets.lots_are at le)

-- the return of a list that meets the limits, from the greatest and from the least mean
pub return_at_most : (I : InstanceValue) (x : List ℕ) (m : ℤ) → MeetsLimits I x → ((i : ℕ) → i < I.market.assets → mean_of I.market i ≤ℤ m) → return_of I.market x ≤ℤ (m *ℤ pos I.lots)
unfolding return_of
return_at_most I x m meets h =
    let le = sum_le I.market.assets (λ i. mean_of I.market i *ℤ lots_at x i) (λ i. m *ℤ lots_at x i) (λ i p. scaled_right (mean_of I.market i) m _ (h i p)) in
    rw (sum-scale I.market.assets m (lots_at x), meets.lots_are) at le

pub return_at_least : (I : InstanceValue) (x : List ℕ) (m : ℤ) → MeetsLimits I x → ((i : ℕ) → i < I.market.assets → m ≤ℤ mean_of I.market i) → (m *ℤ pos I.lots) ≤ℤ return_of I.market x
unfolding return_of
return_at_least I x m meets h =
    let le = sum_le I.market.assets (λ i. m *ℤ lots_at x i) (λ i. mean_of I.market i *ℤ lots_at x i) (λ i p. scaled_right m (mean_of I.market i) _ (h i p)) in
    rw (sum-scale I.market.assets m (lots_at x), meets.lots_are) at le

joined : (p k : ℕ) (risk low ret high : ℤ) → low ≤ℤ risk → ret ≤ℤ high → ((pos p *ℤ low) -ℤ (pos k *ℤ high)) ≤ℤ ((pos p *ℤ risk) -ℤ (pos k *ℤ ret))
joined p k risk low ret high h l = let a = scaled_le (pos p) low risk (omega (arith, ints)) h in let b = scaled_le (pos k) ret high (omega (arith, ints)) l in omega (arith, linear)

-- the plain bound: for every list that meets the limits, p L^2 c - (q - p) 10^12 L^2 m is at most the objective, where no
-- covariance is below c and no mean is above m
pub objective_at_least : (I : InstanceValue) (p q : ℕ) (x : List ℕ) (c m : ℤ) → MeetsLimits I x → ((i j : ℕ) → i < I.market.assets → j < I.market.assets → c ≤ℤ cov_of I.market i j) → ((i : ℕ) → i < I.market.assets → mean_of I.market i ≤ℤ m) → ((pos p *ℤ (pos (I.lots * I.lots) *ℤ c)) -ℤ (pos ((q - p) * 1000000000000 * I.lots) *ℤ (m *ℤ pos I.lots))) ≤ℤ objective I p q x
unfolding objective
objective_at_least I p q x c m meets h k = joined p ((q - p) * 1000000000000 * I.lots) (risk_of I.market x) (pos (I.lots * I.lots) *ℤ c) (return_of I.market x) (m *ℤ pos I.lots) (risk_at_least I x c meets h) (return_at_most I x m meets k)

square_small : (I : InstanceValue) → IsInstance I → I.lots * I.lots ≤ 100000000
square_small I known = mul-le-mul known.limits_are.lots_most known.limits_are.lots_most

negated : (k : ℕ) (c : ℕ) → pos k *ℤ neg_ℤ (pos c) ≡ neg_ℤ (pos (k * c))
negated k c = *ℤ-neg_ℤ (pos k) (pos c)

-- the risk of a list that meets the limits is at most 10^26 in size
pub risk_of-size : (I : InstanceValue) (x : List ℕ) → IsInstance I → MeetsLimits I x → unsigned_abs (risk_of I.market x) ≤ 100000000000000000000000000
risk_of-size I x known meets =
    let s = square_small I known in
    let low = rw (negated (I.lots * I.lots) 1000000000000000000) at (risk_at_least I x (neg_ℤ (pos 1000000000000000000)) meets (λ i j p q. let c = cov_of-size I.market known.market_is i j in omega (arith, ints))) in
    let high = risk_at_most I x (pos 1000000000000000000) meets (λ i j p q. let c = cov_of-size I.market known.market_is i j in omega (arith, ints)) in
    omega (arith, ints)

-- the return of a list that meets the limits is at most 10^10 in size
pub return_of-size : (I : InstanceValue) (x : List ℕ) → IsInstance I → MeetsLimits I x → unsigned_abs (return_of I.market x) ≤ 10000000000
return_of-size I x known meets =
    let s = known.limits_are.lots_most in
    let low = rw (*ℤ_comm (neg_ℤ (pos 1000000)) (pos I.lots), negated I.lots 1000000) at (return_at_least I x (neg_ℤ (pos 1000000)) meets (λ i p. let c = known.market_is.mean_sizes i in omega (arith, ints))) in
    let high = return_at_most I x (pos 1000000) meets (λ i p. let c = known.market_is.mean_sizes i in omega (arith, ints)) in
    omega (arith, ints)

factor_small : (p q L : ℕ) → q ≤ 100 → L ≤ 10000 → (q - p) * 1000000000000 * L ≤ 1000000000000000000
factor_small p q L h k = let d : (q - p) * 1000000000000 ≤ 100000000000000 = omega arith in mul-le-mul d k

-- the objective of a list that meets the limits is at most 2 * 10^28 in size, for a weight p/q with q at most 100
pub objective-size : (I : InstanceValue) (p q : ℕ) (x : List ℕ) → p ≤ q → q ≤ 100 → IsInstance I → MeetsLimits I x → unsigned_abs (objective I p q x) ≤ 20000000000000000000000000000
unfolding objective
objective-size I p q x h k known meets =
    let risk = unsigned_abs-product_le (pos p) (risk_of I.market x) 100 100000000000000000000000000 (omega arith) (risk_of-size I x known meets) in
    let ret = unsigned_abs-product_le (pos ((q - p) * 1000000000000 * I.lots)) (return_of I.market x) 1000000000000000000 10000000000 (factor_small p q I.lots k known.limits_are.lots_most) (return_of-size I x known meets) in
    omega (arith, ints)
