-- Laws of the slopes of the objective, and of the objective after the lots of one asset or of two changed.
use Rattle.std.proofs.Common.{◌≡◌, ℕ, ◌-◌, ◌*◌, ◌<◌, List, length, slice_set, ℤ, pos, neg_ℤ, ◌+ℤ◌, ◌-ℤ◌, ◌*ℤ◌, ◌⊎◌, inl, inr, refl, sym, ap, ◌∙◌, arith, length-set, get_or-set_other}
use Rattle.std.proofs.lemmas.Bool.{cases_eq}
use Rattle.gap_base.specs.Sums.{sum_below, unit}
use Rattle.gap_base.specs.Lots.{lots_at}
use Rattle.gap_base.specs.Markets.{MarketValue, IsMarket, mean_of}
use Rattle.gap_base.proofs.Lists.{natural_at-set}
use Rattle.gap_base.proofs.Ring.{expand, pull, linear, if_same, if_other}
use Rattle.gap_base.proofs.SumLaws.{sum_same, sum-add, sum-scale_right, sum-unit}
use Rattle.gap_instance.specs.Instances.{InstanceValue}
use Rattle.gap_instance.specs.Objective.{cov_of, risk_of, return_of, objective}
use Rattle.gap_instance.proofs.ObjectiveLaws.{cov_of-symmetric}
use Rattle.gap_objective.specs.Slopes.{row_of, slope_of, spread_of, IsChanged}
use Rattle.gap_objective.proofs.RiskLaws.{risk_of-rows}

-- ---- a list whose lots of one asset changed
changed_here : (v d z u : ℤ) → z ≡ v +ℤ d → u ≡ pos 1 → z ≡ v +ℤ d *ℤ u
changed_here v d z u e o = rw o (omega (arith, linear))

changed_there : (v d u : ℤ) → u ≡ pos 0 → v ≡ v +ℤ d *ℤ u
changed_there v d u o = rw o (omega (arith, linear))

changed_by : (x : List ℕ) (a v k : ℕ) (d : ℤ) → a < length x → pos v ≡ lots_at x a +ℤ d → (k ≡ a) ⊎ (k ≡ a → ⊥) → lots_at (slice_set x a v) k ≡ lots_at x k +ℤ d *ℤ unit a k
changed_by x a v k d h e (inl s) = natural_at-set x a k v h ∙ if_same k a (pos v) (lots_at x k) s ∙ changed_here (lots_at x k) d (pos v) (unit a k) (e ∙ ap (λ t. lots_at x t +ℤ d) (sym s)) (if_same k a (pos 1) (pos 0) s)
changed_by x a v k d h e (inr n) = natural_at-set x a k v h ∙ if_other k a (pos v) (lots_at x k) n ∙ changed_there (lots_at x k) d (unit a k) (if_other k a (pos 1) (pos 0) n)

pub IsChanged-set : (x : List ℕ) (a v : ℕ) (d : ℤ) → a < length x → pos v ≡ lots_at x a +ℤ d → IsChanged x (slice_set x a v) d a
IsChanged-set x a v d h e = λ k. changed_by x a v k d h e (cases_eq k a)

-- ---- sums over it
weighted_term : (h v d u : ℤ) → h *ℤ (v +ℤ d *ℤ u) ≡ h *ℤ v +ℤ (h *ℤ d) *ℤ u
weighted_term h v d u = simp expand refl

sum_changed : (n : ℕ) (h : ℕ → ℤ) (x y : List ℕ) (d : ℤ) (a : ℕ) → a < n → IsChanged x y d a → sum_below n (λ k. h k *ℤ lots_at y k) ≡ sum_below n (λ k. h k *ℤ lots_at x k) +ℤ h a *ℤ d
sum_changed n h x y d a p c =
    sum_same n (λ k. h k *ℤ lots_at y k) (λ k. h k *ℤ lots_at x k +ℤ (h k *ℤ d) *ℤ unit a k) (λ k l. ap (λ t. h k *ℤ t) (c k) ∙ weighted_term (h k) (lots_at x k) d (unit a k))
    ∙ sum-add n (λ k. h k *ℤ lots_at x k) (λ k. (h k *ℤ d) *ℤ unit a k)
    ∙ ap (λ t. sum_below n (λ k. h k *ℤ lots_at x k) +ℤ t) (sum-unit n a (λ k. h k *ℤ d) p)

pub row_changed : (m : MarketValue) (x y : List ℕ) (d : ℤ) (a i : ℕ) → a < m.assets → IsChanged x y d a → row_of m y i ≡ row_of m x i +ℤ cov_of m i a *ℤ d
unfolding row_of
row_changed m x y d a i p c = sum_changed m.assets (cov_of m i) x y d a p c

return_changed : (m : MarketValue) (x y : List ℕ) (d : ℤ) (a : ℕ) → a < m.assets → IsChanged x y d a → return_of m y ≡ return_of m x +ℤ mean_of m a *ℤ d
unfolding return_of
return_changed m x y d a p c = sum_changed m.assets (mean_of m) x y d a p c

row_term : (r c d v : ℤ) → (r +ℤ c *ℤ d) *ℤ v ≡ r *ℤ v +ℤ (c *ℤ v) *ℤ d
row_term r c d v = simp expand refl

-- a column of the covariances is a row of them
column_is : (m : MarketValue) (x : List ℕ) (a : ℕ) → IsMarket m → a < m.assets → sum_below m.assets (λ i. cov_of m i a *ℤ lots_at x i) ≡ row_of m x a
unfolding row_of
column_is m x a known p = sum_same m.assets (λ i. cov_of m i a *ℤ lots_at x i) (λ i. cov_of m a i *ℤ lots_at x i) (λ i q. ap (λ t. t *ℤ lots_at x i) (cov_of-symmetric m known i a q p))

-- the new rows, each times the lots before
rows_before : (m : MarketValue) (x : List ℕ) (d : ℤ) (a : ℕ) → IsMarket m → a < m.assets → sum_below m.assets (λ i. (row_of m x i +ℤ cov_of m i a *ℤ d) *ℤ lots_at x i) ≡ risk_of m x +ℤ row_of m x a *ℤ d
rows_before m x d a known p =
    let n = m.assets in
    sum_same n (λ i. (row_of m x i +ℤ cov_of m i a *ℤ d) *ℤ lots_at x i) (λ i. row_of m x i *ℤ lots_at x i +ℤ (cov_of m i a *ℤ lots_at x i) *ℤ d) (λ i q. row_term (row_of m x i) (cov_of m i a) d (lots_at x i))
    ∙ sum-add n (λ i. row_of m x i *ℤ lots_at x i) (λ i. (cov_of m i a *ℤ lots_at x i) *ℤ d)
    ∙ ap (λ t. t +ℤ sum_below n (λ i. (cov_of m i a *ℤ lots_at x i) *ℤ d)) (sym (risk_of-rows m x))
    ∙ ap (λ t. risk_of m x +ℤ t) (sum-scale_right n (λ i. cov_of m i a *ℤ lots_at x i) d ∙ ap (λ t. t *ℤ d) (column_is m x a known p))

risk_changed : (m : MarketValue) (x y : List ℕ) (d : ℤ) (a : ℕ) → IsMarket m → a < m.assets → IsChanged x y d a → risk_of m y ≡ (risk_of m x +ℤ row_of m x a *ℤ d) +ℤ (row_of m x a +ℤ cov_of m a a *ℤ d) *ℤ d
risk_changed m x y d a known p c =
    let n = m.assets in
    risk_of-rows m y
    ∙ sum_same n (λ i. row_of m y i *ℤ lots_at y i) (λ i. (row_of m x i +ℤ cov_of m i a *ℤ d) *ℤ lots_at y i) (λ i q. ap (λ t. t *ℤ lots_at y i) (row_changed m x y d a i p c))
    ∙ sum_changed n (λ i. row_of m x i +ℤ cov_of m i a *ℤ d) x y d a p c
    ∙ ap (λ t. t +ℤ (row_of m x a +ℤ cov_of m a a *ℤ d) *ℤ d) (rows_before m x d a known p)

-- ---- the slopes and the objective
slope_algebra : (p r c d f : ℤ) → ((pos 2 *ℤ p) *ℤ (r +ℤ c *ℤ d)) -ℤ f ≡ (((pos 2 *ℤ p) *ℤ r) -ℤ f) +ℤ c *ℤ (d *ℤ (pos 2 *ℤ p))
slope_algebra p r c d f = simp expand (simp pull (omega (arith, linear)))

pub slope_changed : (I : InstanceValue) (p q : ℕ) (x y : List ℕ) (d : ℤ) (a i : ℕ) → a < I.market.assets → IsChanged x y d a → slope_of I p q y i ≡ slope_of I p q x i +ℤ cov_of I.market i a *ℤ (d *ℤ pos (2 * p))
unfolding slope_of
slope_changed I p q x y d a i h c =
    ap (λ r. (pos (2 * p) *ℤ r) -ℤ (pos ((q - p) * 1000000000000 * I.lots) *ℤ mean_of I.market i)) (row_changed I.market x y d a i h c)
    ∙ slope_algebra (pos p) (row_of I.market x i) (cov_of I.market i a) d (pos ((q - p) * 1000000000000 * I.lots) *ℤ mean_of I.market i)

objective_algebra : (p risk f ret r c d m : ℤ) → (p *ℤ ((risk +ℤ r *ℤ d) +ℤ (r +ℤ c *ℤ d) *ℤ d)) -ℤ (f *ℤ (ret +ℤ m *ℤ d)) ≡ ((p *ℤ risk) -ℤ (f *ℤ ret)) +ℤ ((((pos 2 *ℤ p) *ℤ r) -ℤ (f *ℤ m)) +ℤ (p *ℤ c) *ℤ d) *ℤ d
objective_algebra p risk f ret r c d m = simp expand (simp pull (omega (arith, linear)))

-- the objective after d more lots in asset a
pub objective_changed : (I : InstanceValue) (p q : ℕ) (x y : List ℕ) (d : ℤ) (a : ℕ) → IsMarket I.market → a < I.market.assets → IsChanged x y d a → objective I p q y ≡ objective I p q x +ℤ (slope_of I p q x a +ℤ (pos p *ℤ cov_of I.market a a) *ℤ d) *ℤ d
unfolding objective slope_of
objective_changed I p q x y d a known h c =
    let f = pos ((q - p) * 1000000000000 * I.lots) in
    ap (λ r. (pos p *ℤ r) -ℤ (f *ℤ return_of I.market y)) (risk_changed I.market x y d a known h c)
    ∙ ap (λ r. (pos p *ℤ ((risk_of I.market x +ℤ row_of I.market x a *ℤ d) +ℤ (row_of I.market x a +ℤ cov_of I.market a a *ℤ d) *ℤ d)) -ℤ (f *ℤ r)) (return_changed I.market x y d a h c)
    ∙ objective_algebra (pos p) (risk_of I.market x) f (return_of I.market x) (row_of I.market x a) (cov_of I.market a a) d (mean_of I.market a)

shifted_algebra : (v si sj p cii cjj cij s : ℤ) → (v +ℤ (si +ℤ (p *ℤ cii) *ℤ neg_ℤ s) *ℤ neg_ℤ s) +ℤ ((sj +ℤ cij *ℤ (neg_ℤ s *ℤ (pos 2 *ℤ p))) +ℤ (p *ℤ cjj) *ℤ s) *ℤ s ≡ v +ℤ ((sj -ℤ si) +ℤ (p *ℤ ((cii -ℤ cij) +ℤ (cjj -ℤ cij))) *ℤ s) *ℤ s
shifted_algebra v si sj p cii cjj cij s = simp expand (simp pull (omega (arith, linear)))

-- the objective after s lots went from asset i to asset j, where s may be negative
pub objective_shifted : (I : InstanceValue) (p q : ℕ) (x : List ℕ) (s : ℤ) (i j from to : ℕ) → IsMarket I.market → length x ≡ I.market.assets → i < I.market.assets → j < I.market.assets → (i ≡ j → ⊥) → pos from ≡ lots_at x i -ℤ s → pos to ≡ lots_at x j +ℤ s → objective I p q (slice_set (slice_set x i from) j to) ≡ objective I p q x +ℤ ((slope_of I p q x j -ℤ slope_of I p q x i) +ℤ (pos p *ℤ spread_of I.market i j) *ℤ s) *ℤ s
objective_shifted I p q x s i j from to known size hi hj ne f t =
    let m = I.market in
    let y = slice_set x i from in
    let away : IsChanged x y (neg_ℤ s) i = IsChanged-set x i from (neg_ℤ s) (rw size hi) f in
    let other : lots_at x j ≡ lots_at y j = ap pos (sym (get_or-set_other x i j from 0 (λ e. ne (sym e)))) in
    let back : IsChanged y (slice_set y j to) s j = IsChanged-set y j to s (rw (length-set x i from, size) hj) (t ∙ ap (λ z. z +ℤ s) other) in
    objective_changed I p q y (slice_set y j to) s j known hj back
    ∙ ap (λ v. v +ℤ (slope_of I p q y j +ℤ (pos p *ℤ cov_of m j j) *ℤ s) *ℤ s) (objective_changed I p q x y (neg_ℤ s) i known hi away)
    ∙ ap (λ z. (objective I p q x +ℤ (slope_of I p q x i +ℤ (pos p *ℤ cov_of m i i) *ℤ neg_ℤ s) *ℤ neg_ℤ s) +ℤ (z +ℤ (pos p *ℤ cov_of m j j) *ℤ s) *ℤ s) (slope_changed I p q x y (neg_ℤ s) i j hi away)
    ∙ ap (λ z. (objective I p q x +ℤ (slope_of I p q x i +ℤ (pos p *ℤ cov_of m i i) *ℤ neg_ℤ s) *ℤ neg_ℤ s) +ℤ ((slope_of I p q x j +ℤ z *ℤ (neg_ℤ s *ℤ pos (2 * p))) +ℤ (pos p *ℤ cov_of m j j) *ℤ s) *ℤ s) (cov_of-symmetric m known j i hj hi)
    ∙ shifted_algebra (objective I p q x) (slope_of I p q x i) (slope_of I p q x j) (pos p) (cov_of m i i) (cov_of m j j) (cov_of m i j) s

-- the objective after asset i got v lots, which are d more
pub objective_put : (I : InstanceValue) (p q : ℕ) (x : List ℕ) (d : ℤ) (i v : ℕ) → IsMarket I.market → length x ≡ I.market.assets → i < I.market.assets → pos v ≡ lots_at x i +ℤ d → objective I p q (slice_set x i v) ≡ objective I p q x +ℤ ((slope_of I p q x i -ℤ pos 0) +ℤ (pos p *ℤ cov_of I.market i i) *ℤ d) *ℤ d
objective_put I p q x d i v known size h e =
    let none : slope_of I p q x i ≡ slope_of I p q x i -ℤ pos 0 = omega (arith, linear) in
    objective_changed I p q x (slice_set x i v) d i known h (IsChanged-set x i v d (rw size h) e)
    ∙ ap (λ z. objective I p q x +ℤ (z +ℤ (pos p *ℤ cov_of I.market i i) *ℤ d) *ℤ d) none
