-- The Lagrangian lies below 64 times the objective of each list that meets the limits, and touches it at Y = 8x.

use Rattle.std.proofs.Common.{◌≡◌, ℕ, ◌-◌, ◌*◌, ◌<◌, List, Option, Some, None, ℤ, pos, ◌+ℤ◌, ◌-ℤ◌, ◌*ℤ◌, ◌≤ℤ◌, refl, sym, ap, ◌∙◌, arith}
use Rattle.std.proofs.Math.IntN.{zero-*ℤ, *ℤ-zero}
use Rattle.std.proofs.lemmas.Int.{ints}
use Rattle.gap_base.specs.Lots.{lots_at}
use Rattle.gap_base.proofs.Ring.{expand, linear, scaled_le, *ℤ_assoc, not_positive}
use Rattle.gap_instance.specs.Instances.{InstanceValue}
use Rattle.gap_instance.specs.Limits.{sum_of, turnover_of, MeetsLimits}
use Rattle.gap_instance.specs.Objective.{risk_of, return_of, objective}
use Rattle.gap_model.specs.Settings.{Setting, IsSetting, product_of}
use Rattle.gap_model.specs.Lagrangian.{rewards_of, squares_of, turnover_term, void_lag, lag}
use Rattle.gap_model.proofs.FormLaws.{product_same, tangent_below, tangent_touches, product_of_lots, rewards_are}

pub lag_is : (s : Setting) (y : ℕ → ℤ) (alpha tau : ℤ) (x : List ℕ) → lag s y alpha tau x ≡ (((pos s.p *ℤ ((pos 16 *ℤ product_of s y (lots_at x)) -ℤ product_of s y y)) -ℤ (pos (64 * s.p) *ℤ squares_of s x)) -ℤ (pos 64 *ℤ rewards_of s x)) +ℤ void_lag s alpha tau x
unfolding lag
lag_is s y alpha tau x = refl

pub void_lag_is : (s : Setting) (alpha tau : ℤ) (x : List ℕ) → void_lag s alpha tau x ≡ (alpha *ℤ (sum_of s.instance.market.assets x -ℤ pos s.instance.lots)) +ℤ turnover_term s.instance s.instance.turnover tau x
unfolding void_lag
void_lag_is s alpha tau x = refl

pub objective_is : (I : InstanceValue) (p q : ℕ) (x : List ℕ) → objective I p q x ≡ (pos p *ℤ risk_of I.market x) -ℤ (pos ((q - p) * 1000000000000 * I.lots) *ℤ return_of I.market x)
unfolding objective
objective_is I p q x = refl

-- the Lagrangian reads Y at the assets alone
pub lag_same : (s : Setting) (y z : ℕ → ℤ) (alpha tau : ℤ) (x : List ℕ) → ((i : ℕ) → i < s.instance.market.assets → y i ≡ z i) → lag s y alpha tau x ≡ lag s z alpha tau x
lag_same s y z alpha tau x h =
    let a = product_same s y (lots_at x) z (lots_at x) h (λ i p. refl) in
    let b = product_same s y y z z h h in
    lag_is s y alpha tau x ∙ rw (a, b) refl ∙ sym (lag_is s z alpha tau x)

scaled : (p c : ℕ) (a : ℤ) → pos (c * p) *ℤ a ≡ pos c *ℤ (pos p *ℤ a)
scaled p c a = *ℤ_assoc (pos c) (pos p) a

turned_in : (p : ℕ) (a b : ℤ) → pos p *ℤ (pos 64 *ℤ (a +ℤ b)) ≡ pos 64 *ℤ (pos p *ℤ a) +ℤ pos 64 *ℤ (pos p *ℤ b)
turned_in p a b = simp expand refl

-- the objective bounds the Lagrangian where the tangent lies below and the priced limits are kept
below_algebra : (p : ℕ) (t risk squares rewards v : ℤ) → t ≤ℤ (pos 64 *ℤ (risk +ℤ squares)) → v ≤ℤ pos 0 → ((((pos p *ℤ t) -ℤ (pos (64 * p) *ℤ squares)) -ℤ (pos 64 *ℤ rewards)) +ℤ v) ≤ℤ (pos 64 *ℤ ((pos p *ℤ risk) -ℤ rewards))
below_algebra p t risk squares rewards v h k =
    let a = scaled_le (pos p) t (pos 64 *ℤ (risk +ℤ squares)) (omega (arith, ints)) h in
    let b = turned_in p risk squares in
    let c = scaled p 64 squares in
    omega (arith, linear)

exact_algebra : (p : ℕ) (t risk squares rewards v : ℤ) → t ≡ (pos 64 *ℤ (risk +ℤ squares)) → v ≡ pos 0 → ((((pos p *ℤ t) -ℤ (pos (64 * p) *ℤ squares)) -ℤ (pos 64 *ℤ rewards)) +ℤ v) ≡ (pos 64 *ℤ ((pos p *ℤ risk) -ℤ rewards))
exact_algebra p t risk squares rewards v h k =
    let a = ap (λ z. pos p *ℤ z) h in
    let b = turned_in p risk squares in
    let c = scaled p 64 squares in
    omega (arith, linear)

-- the priced turnover isn't above 0 where the turnover is kept
turnover_kept : (I : InstanceValue) (o : Option ℕ) (tau : ℤ) (x : List ℕ) → pos 0 ≤ℤ tau → ((t : ℕ) → o ≡ Some t → turnover_of I.market.assets I.present x ≤ℤ pos t) → turnover_term I o tau x ≤ℤ pos 0
turnover_kept I None tau x h k = omega (arith, ints)
turnover_kept I (Some t) tau x h k = let a = k t refl in not_positive tau (turnover_of I.market.assets I.present x -ℤ pos t) h (omega (arith, ints))

pub void_lag_below : (s : Setting) (alpha tau : ℤ) (x : List ℕ) → pos 0 ≤ℤ tau → MeetsLimits s.instance x → void_lag s alpha tau x ≤ℤ pos 0
void_lag_below s alpha tau x h m =
    let a = void_lag_is s alpha tau x in
    let b = turnover_kept s.instance s.instance.turnover tau x h m.turnover_kept in
    let c : sum_of s.instance.market.assets x -ℤ pos s.instance.lots ≡ pos 0 = let e = m.lots_are in omega (arith, ints) in
    let d = ap (λ z. alpha *ℤ z) c ∙ *ℤ-zero alpha in
    omega (arith, linear)

-- the law below for the Lagrangian: it is at most 64 times the objective of each list that meets the limits
pub lag_below : (s : Setting) (y : ℕ → ℤ) (alpha tau : ℤ) (x : List ℕ) → IsSetting s → pos 0 ≤ℤ tau → MeetsLimits s.instance x → lag s y alpha tau x ≤ℤ (pos 64 *ℤ objective s.instance s.p s.q x)
lag_below s y alpha tau x is h m =
    let t = tangent_below s (lots_at x) y is.instance_is.market_is is.semidefinite in
    let q = product_of_lots s x in
    let v = void_lag_below s alpha tau x h m in
    let r = rewards_are s x in
    let tq : (pos 16 *ℤ product_of s y (lots_at x) -ℤ product_of s y y) ≤ℤ (pos 64 *ℤ (risk_of s.instance.market x +ℤ squares_of s x)) = rw q at t in
    let b = below_algebra s.p (pos 16 *ℤ product_of s y (lots_at x) -ℤ product_of s y y) (risk_of s.instance.market x) (squares_of s x) (rewards_of s x) (void_lag s alpha tau x) tq v in
    let o = objective_is s.instance s.p s.q x in
    let l = lag_is s y alpha tau x in
    rw (l, o, ← r) b

turnover_unpriced : (I : InstanceValue) (o : Option ℕ) (x : List ℕ) → turnover_term I o (pos 0) x ≡ pos 0
turnover_unpriced I None x = refl
turnover_unpriced I (Some t) x = zero-*ℤ (turnover_of I.market.assets I.present x -ℤ pos t)

void_lag_unpriced : (s : Setting) (x : List ℕ) → void_lag s (pos 0) (pos 0) x ≡ pos 0
void_lag_unpriced s x =
    let a = void_lag_is s (pos 0) (pos 0) x in
    let b = turnover_unpriced s.instance s.instance.turnover x in
    let c = zero-*ℤ (sum_of s.instance.market.assets x -ℤ pos s.instance.lots) in
    omega (arith, linear)

-- at Y = 8x, with multipliers 0, it is exactly that
pub lag_exact : (s : Setting) (y : ℕ → ℤ) (x : List ℕ) → ((i : ℕ) → i < s.instance.market.assets → y i ≡ pos 8 *ℤ lots_at x i) → lag s y (pos 0) (pos 0) x ≡ (pos 64 *ℤ objective s.instance s.p s.q x)
lag_exact s y x h =
    let t = tangent_touches s (lots_at x) y h in
    let q = product_of_lots s x in
    let v = void_lag_unpriced s x in
    let r = rewards_are s x in
    let tq : (pos 16 *ℤ product_of s y (lots_at x) -ℤ product_of s y y) ≡ (pos 64 *ℤ (risk_of s.instance.market x +ℤ squares_of s x)) = rw q at t in
    let b = exact_algebra s.p (pos 16 *ℤ product_of s y (lots_at x) -ℤ product_of s y y) (risk_of s.instance.market x) (squares_of s x) (rewards_of s x) (void_lag s (pos 0) (pos 0) x) tq v in
    let o = objective_is s.instance s.p s.q x in
    let l = lag_is s y (pos 0) (pos 0) x in
    rw (l, o, ← r) b
