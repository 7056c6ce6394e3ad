-- The Lagrangian is a constant and the costs of the assets, one by one.

use Rattle.std.proofs.Common.{◌≡◌, ℕ, ◌*◌, List, Option, Some, None, ℤ, pos, ◌+ℤ◌, ◌-ℤ◌, ◌*ℤ◌, neg_ℤ, refl, sym, ap, ◌∙◌, arith}
use Rattle.std.proofs.Math.IntN.{zero-*ℤ}
use Rattle.std.proofs.lemmas.Int.{ints}
use Rattle.gap_base.specs.Sums.{sum_below, at, abs_z}
use Rattle.gap_base.specs.Lots.{lots_at}
use Rattle.gap_base.specs.Markets.{IsMarket}
use Rattle.gap_base.proofs.Ring.{expand, pull, linear, *ℤ_assoc}
use Rattle.gap_base.proofs.SumLaws.{sum_same, sum_five, sum-add, sum-scale_right, sum-scale}
use Rattle.gap_instance.specs.Instances.{InstanceValue}
use Rattle.gap_instance.specs.Limits.{sum_of, turnover_of}
use Rattle.gap_model.specs.Settings.{Setting, shifted_cov, product_of}
use Rattle.gap_model.specs.Lagrangian.{reward_of, rewards_of, squares_of, turnover_term, lag, void_lag}
use Rattle.gap_model.proofs.LagLaws.{lag_is, void_lag_is}
use Rattle.gap_model.proofs.FormLaws.{double, product_symmetric}
use Rattle.gap_price.specs.Costs.{asset_cost}
use Rattle.gap_tangent.specs.Terms.{tilt_of, slope_of, costs_of, turnover_price, limits_price, AreTermsAt}

product_is : (s : Setting) (v w : ℕ → ℤ) → product_of s v w ≡ double s.instance.market.assets (λ i j. shifted_cov s i j *ℤ v i *ℤ w j)
unfolding product_of
product_is s v w = refl

pub tilt_is : (s : Setting) (y : ℕ → ℤ) (i : ℕ) → tilt_of s y i ≡ sum_below s.instance.market.assets (λ j. shifted_cov s i j *ℤ y j)
unfolding tilt_of
tilt_is s y i = refl

row_term : (a y x : ℤ) → a *ℤ x *ℤ y ≡ a *ℤ y *ℤ x
row_term a y x = simp expand refl

-- Y'Ax is the sum of (AY)_i x_i
pub tilts_give : (s : Setting) (y x : ℕ → ℤ) → IsMarket s.instance.market → product_of s y x ≡ sum_below s.instance.market.assets (λ i. tilt_of s y i *ℤ x i)
tilts_give s y x h =
    let n = s.instance.market.assets in
    product_symmetric s y x h
    ∙ product_is s x y
    ∙ sum_same n (λ i. sum_below n (λ j. shifted_cov s i j *ℤ x i *ℤ y j)) (λ i. tilt_of s y i *ℤ x i) (λ i p. sum_same n (λ j. shifted_cov s i j *ℤ x i *ℤ y j) (λ j. shifted_cov s i j *ℤ y j *ℤ x i) (λ j q. row_term (shifted_cov s i j) (y j) (x i)) ∙ sum-scale_right n (λ j. shifted_cov s i j *ℤ y j) (x i) ∙ ap (λ z. z *ℤ x i) (sym (tilt_is s y i)))

rewards_is : (s : Setting) (x : List ℕ) → rewards_of s x ≡ sum_below s.instance.market.assets (λ i. reward_of s i *ℤ lots_at x i)
unfolding rewards_of
rewards_is s x = refl

squares_is : (s : Setting) (x : List ℕ) → squares_of s x ≡ sum_below s.instance.market.assets (λ i. at s.shift i *ℤ (lots_at x i *ℤ lots_at x i))
unfolding squares_of
squares_is s x = refl

pub costs_are : (I : InstanceValue) (slopes bends : List ℤ) (alpha tau : ℤ) (x : List ℕ) → costs_of I slopes bends alpha tau x ≡ sum_below I.market.assets (λ i. asset_cost (at slopes i +ℤ alpha) (at bends i) tau (lots_at I.present i) (lots_at x i))
unfolding costs_of
costs_are I slopes bends alpha tau x = refl

-- the cost of an asset, taken apart
cost_term : (p16 p64 tilt reward d alpha tau v b : ℤ) → ((((p16 *ℤ tilt +ℤ neg_ℤ (pos 64 *ℤ reward)) +ℤ alpha) *ℤ v) +ℤ neg_ℤ ((p64 *ℤ d) *ℤ (v *ℤ v))) +ℤ (tau *ℤ b) ≡ p16 *ℤ (tilt *ℤ v) +ℤ (neg_ℤ (pos 64) *ℤ (reward *ℤ v) +ℤ (neg_ℤ p64 *ℤ (d *ℤ (v *ℤ v)) +ℤ (alpha *ℤ v +ℤ tau *ℤ b)))
cost_term p16 p64 tilt reward d alpha tau v b =
    let e : neg_ℤ (pos 64) *ℤ (reward *ℤ v) ≡ neg_ℤ (pos 64 *ℤ (reward *ℤ v)) = omega (arith, ints) in
    rw e (simp expand (simp pull (omega (arith, linear))))

turnover_is : (I : InstanceValue) (o : Option ℕ) (tau : ℤ) (x : List ℕ) → (o ≡ None → tau ≡ pos 0) → turnover_term I o tau x ≡ (tau *ℤ turnover_of I.market.assets I.present x) -ℤ turnover_price o tau
turnover_is I None tau x h = let e = h refl in rw e (rw (zero-*ℤ (turnover_of I.market.assets I.present x)) refl)
turnover_is I (Some t) tau x h = difference tau (turnover_of I.market.assets I.present x) (pos t)
  where
    difference : (a b c : ℤ) → a *ℤ (b +ℤ neg_ℤ c) ≡ a *ℤ b +ℤ neg_ℤ (a *ℤ c)
    difference a b c = simp expand refl

spread_price : (a b c : ℤ) → a *ℤ (b +ℤ neg_ℤ c) ≡ a *ℤ b +ℤ neg_ℤ (a *ℤ c)
spread_price a b c = simp expand refl

-- the terms with alpha and tau alone, as sums
pub void_lag_parts : (s : Setting) (alpha tau : ℤ) (x : List ℕ) → (s.instance.turnover ≡ None → tau ≡ pos 0) → void_lag s alpha tau x ≡ ((alpha *ℤ sum_of s.instance.market.assets x) +ℤ (tau *ℤ turnover_of s.instance.market.assets s.instance.present x)) -ℤ limits_price s.instance alpha tau
void_lag_parts s alpha tau x h =
    let a = void_lag_is s alpha tau x in
    let b = turnover_is s.instance s.instance.turnover tau x h in
    let c = spread_price alpha (sum_of s.instance.market.assets x) (pos s.instance.lots) in
    omega (arith, linear)

joined_algebra : (p : ℕ) (qx qy squares rewards v : ℤ) → (((pos p *ℤ ((pos 16 *ℤ qx) -ℤ qy)) -ℤ (pos (64 * p) *ℤ squares)) -ℤ (pos 64 *ℤ rewards)) +ℤ v ≡ neg_ℤ (pos p *ℤ qy) +ℤ ((pos (16 * p) *ℤ qx +ℤ (neg_ℤ (pos 64) *ℤ rewards +ℤ neg_ℤ (pos (64 * p)) *ℤ squares)) +ℤ v)
joined_algebra p qx qy squares rewards v =
    let a : pos p *ℤ ((pos 16 *ℤ qx) +ℤ neg_ℤ qy) ≡ pos 16 *ℤ (pos p *ℤ qx) +ℤ neg_ℤ (pos p *ℤ qy) = simp expand refl in
    let b : pos (16 * p) *ℤ qx ≡ pos 16 *ℤ (pos p *ℤ qx) = *ℤ_assoc (pos 16) (pos p) qx in
    let c : neg_ℤ (pos (64 * p)) *ℤ squares ≡ neg_ℤ (pos (64 * p) *ℤ squares) = simp expand refl in
    let d : neg_ℤ (pos 64) *ℤ rewards ≡ neg_ℤ (pos 64 *ℤ rewards) = omega (arith, ints) in
    omega (arith, linear)

-- the Lagrangian is the constant of Y, less the price of the limits, and the costs of the assets
pub lag_terms : (s : Setting) (y : ℕ → ℤ) (slopes bends : List ℤ) (constant alpha tau : ℤ) (x : List ℕ) → IsMarket s.instance.market → AreTermsAt s y slopes bends constant → (s.instance.turnover ≡ None → tau ≡ pos 0) → lag s y alpha tau x ≡ (constant -ℤ limits_price s.instance alpha tau) +ℤ costs_of s.instance slopes bends alpha tau x
lag_terms s y slopes bends constant alpha tau x h terms u =
    let n = s.instance.market.assets in
    let X = lots_at x in
    let B = lots_at s.instance.present in
    let a = costs_are s.instance slopes bends alpha tau x in
    let b = sum_same n (λ i. asset_cost (at slopes i +ℤ alpha) (at bends i) tau (B i) (X i)) (λ i. pos (16 * s.p) *ℤ (tilt_of s y i *ℤ X i) +ℤ (neg_ℤ (pos 64) *ℤ (reward_of s i *ℤ X i) +ℤ (neg_ℤ (pos (64 * s.p)) *ℤ (at s.shift i *ℤ (X i *ℤ X i)) +ℤ (alpha *ℤ X i +ℤ tau *ℤ abs_z (X i -ℤ B i))))) (λ i p. ap (λ z. asset_cost (z +ℤ alpha) (at bends i) tau (B i) (X i)) (terms.slopes_are i p) ∙ ap (λ z. asset_cost (slope_of s y i +ℤ alpha) z tau (B i) (X i)) (terms.bends_are i p) ∙ cost_term (pos (16 * s.p)) (pos (64 * s.p)) (tilt_of s y i) (reward_of s i) (at s.shift i) alpha tau (X i) (abs_z (X i -ℤ B i))) in
    let c = sum_five n (pos (16 * s.p)) (neg_ℤ (pos 64)) (neg_ℤ (pos (64 * s.p))) alpha tau (λ i. tilt_of s y i *ℤ X i) (λ i. reward_of s i *ℤ X i) (λ i. at s.shift i *ℤ (X i *ℤ X i)) X (λ i. abs_z (X i -ℤ B i)) in
    let d = tilts_give s y X h in
    let e = rewards_is s x in
    let f = squares_is s x in
    let g = void_lag_parts s alpha tau x u in
    let l = lag_is s y alpha tau x in
    let j = joined_algebra s.p (product_of s y X) (product_of s y y) (squares_of s x) (rewards_of s x) (void_lag s alpha tau x) in
    let k = terms.constant_is in
    join (lag s y alpha tau x) (neg_ℤ (pos s.p *ℤ product_of s y y)) (pos (16 * s.p) *ℤ product_of s y X) (neg_ℤ (pos 64) *ℤ rewards_of s x) (neg_ℤ (pos (64 * s.p)) *ℤ squares_of s x) (void_lag s alpha tau x) (alpha *ℤ sum_of n x) (tau *ℤ turnover_of n s.instance.present x) (limits_price s.instance alpha tau) (costs_of s.instance slopes bends alpha tau x) constant _ _ _ (l ∙ j) g (a ∙ b ∙ c) k (ap (λ z. pos (16 * s.p) *ℤ z) d) (ap (λ z. neg_ℤ (pos 64) *ℤ z) e) (ap (λ z. neg_ℤ (pos (64 * s.p)) *ℤ z) f)
  where
    join : (lg m q r sq v w tn lp cs k q1 r1 s1 : ℤ) → lg ≡ m +ℤ ((q +ℤ (r +ℤ sq)) +ℤ v) → v ≡ (w +ℤ tn) -ℤ lp → cs ≡ q1 +ℤ (r1 +ℤ (s1 +ℤ (w +ℤ tn))) → k ≡ m → q ≡ q1 → r ≡ r1 → sq ≡ s1 → lg ≡ (k -ℤ lp) +ℤ cs
    join lg m q r sq v w tn lp cs k q1 r1 s1 a b c d e f g = omega (arith, linear)

-- the same of the terms with alpha and tau alone: slopes and bends are 0
pub void_terms : (s : Setting) (slopes bends : List ℤ) (alpha tau : ℤ) (x : List ℕ) → ((i : ℕ) → at slopes i ≡ pos 0) → ((i : ℕ) → at bends i ≡ pos 0) → (s.instance.turnover ≡ None → tau ≡ pos 0) → void_lag s alpha tau x ≡ (pos 0 -ℤ limits_price s.instance alpha tau) +ℤ costs_of s.instance slopes bends alpha tau x
void_terms s slopes bends alpha tau x hs hb u =
    let n = s.instance.market.assets in
    let X = lots_at x in
    let B = lots_at s.instance.present in
    let a = costs_are s.instance slopes bends alpha tau x in
    let b = sum_same n (λ i. asset_cost (at slopes i +ℤ alpha) (at bends i) tau (B i) (X i)) (λ i. alpha *ℤ X i +ℤ tau *ℤ abs_z (X i -ℤ B i)) (λ i p. ap (λ z. asset_cost (z +ℤ alpha) (at bends i) tau (B i) (X i)) (hs i) ∙ ap (λ z. asset_cost (pos 0 +ℤ alpha) z tau (B i) (X i)) (hb i) ∙ void_term alpha tau (X i) (abs_z (X i -ℤ B i))) in
    let c = sum-add n (λ i. alpha *ℤ X i) (λ i. tau *ℤ abs_z (X i -ℤ B i)) in
    let d = sum-scale n alpha X in
    let e = sum-scale n tau (λ i. abs_z (X i -ℤ B i)) in
    let g = void_lag_parts s alpha tau x u in
    join (void_lag s alpha tau x) (alpha *ℤ sum_of n x) (tau *ℤ turnover_of n s.instance.present x) (limits_price s.instance alpha tau) (costs_of s.instance slopes bends alpha tau x) _ _ g (a ∙ b ∙ c) d e
  where
    void_term : (alpha tau v b : ℤ) → (((pos 0 +ℤ alpha) *ℤ v) -ℤ (pos 0 *ℤ (v *ℤ v))) +ℤ (tau *ℤ b) ≡ alpha *ℤ v +ℤ tau *ℤ b
    void_term alpha tau v b = let e : pos 0 +ℤ alpha ≡ alpha = omega (arith, ints) in let f = zero-*ℤ (v *ℤ v) in rw (e, f) (omega (arith, linear))

    join : (v w tn lp cs w1 t1 : ℤ) → v ≡ (w +ℤ tn) -ℤ lp → cs ≡ w1 +ℤ t1 → w1 ≡ w → t1 ≡ tn → v ≡ (pos 0 -ℤ lp) +ℤ cs
    join v w tn lp cs w1 t1 a b c d = omega (arith, linear)
