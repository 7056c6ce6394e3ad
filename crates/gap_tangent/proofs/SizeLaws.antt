-- How great the gradient of a point and the constant of its tangent can be.

use Rattle.std.proofs.Common.{◌≡◌, ℕ, ◌-◌, ◌*◌, ◌<◌, ◌≤◌, ◌==◌, if◌then◌else◌, Bool, true, false, List, slice_index_or, ℤ, pos, ◌+ℤ◌, ◌-ℤ◌, ◌*ℤ◌, neg_ℤ, ◌≤ℤ◌, unsigned_abs, sym, ap, ◌∙◌, subst, arith}
use Rattle.std.proofs.lemmas.Int.{ints, unsigned_abs-mul}
use native.Mathlib.Nat.{mul-le-mul}
use Rattle.gap_base.specs.Sums.{sum_below, at}
use Rattle.gap_base.specs.Lots.{lots_at}
use Rattle.gap_base.specs.Markets.{mean_of}
use Rattle.gap_base.specs.Sizes.{most_constant}
use Rattle.gap_base.proofs.Lists.{sum_places}
use Rattle.gap_base.proofs.Machine.{unsigned_abs-product_le, unsigned_abs-neg}
use Rattle.gap_base.proofs.SumLaws.{sum_le, sum_below_sizes, sum-scale}
use Rattle.gap_instance.specs.Objective.{cov_of}
use Rattle.gap_instance.proofs.ObjectiveLaws.{cov_of-size}
use Rattle.gap_model.specs.Settings.{Setting, IsSetting, shifted_cov, product_of}
use Rattle.gap_model.specs.Lagrangian.{reward_of}
use Rattle.gap_model.specs.Leaves.{IsPoint}
use Rattle.gap_tangent.specs.Terms.{tilt_of, gradient_of, slope_of, constant_at}
use Rattle.gap_tangent.proofs.RowLaws.{point_most}
use Rattle.gap_tangent.proofs.TermLaws.{tilt_is, tilts_give}

-- an entry of A is at most 1.001 * 10^21 in size
entry_size : (s : Setting) (i j : ℕ) → IsSetting s → i < s.instance.market.assets → unsigned_abs (shifted_cov s i j) ≤ 1001000000000000000000
entry_size s i j is h = entry_by (j == i) (cov_of s.instance.market i j) (at s.shift i) (cov_of-size s.instance.market is.instance_is.market_is i j) (is.shift_most i h)
  where
    entry_by : (b : Bool) (c d : ℤ) → unsigned_abs c ≤ 1000000000000000000 → unsigned_abs d ≤ 1000000000000000000000 → unsigned_abs (c +ℤ (if b then d else pos 0)) ≤ 1001000000000000000000
    entry_by true c d p q = omega (arith, ints)
    entry_by false c d p q = omega (arith, ints)

scaled_size : (c : ℤ) (v m : ℕ) → unsigned_abs c ≤ m → pos (unsigned_abs (c *ℤ pos v)) ≤ℤ (pos m *ℤ pos v)
scaled_size c v m h =
    let a = unsigned_abs-mul c (pos v) in
    let d : unsigned_abs c * v ≤ m * v = mul-le-mul h (omega arith) in
    omega (arith, ints)

-- a sum of terms weighed by eighths, where each term is at most m
weighed_size : (s : Setting) (y : List ℕ) (f : ℕ → ℤ) (m : ℕ) → IsSetting s → IsPoint s.instance y → ((j : ℕ) → j < s.instance.market.assets → unsigned_abs (f j) ≤ m) → unsigned_abs (sum_below s.instance.market.assets (λ j. f j *ℤ lots_at y j)) ≤ m * 80000
weighed_size s y f m is p h =
    let n = s.instance.market.assets in
    let a = sum_below_sizes n (λ j. f j *ℤ lots_at y j) in
    let b = sum_le n (λ j. pos (unsigned_abs (f j *ℤ lots_at y j))) (λ j. pos m *ℤ lots_at y j) (λ j l. scaled_size (f j) (slice_index_or y j 0) m (h j l)) in
    let c = sum-scale n (pos m) (lots_at y) in
    let d = sum_places y ∙ ap (λ (k : ℕ). sum_below k (lots_at y)) p.count in
    let e = point_most s.instance y is.instance_is p in
    bounded _ _ _ _ _ a b c d e
  where
    bounded : (x : ℕ) (t u v : ℤ) (k : ℕ) → pos x ≤ℤ t → t ≤ℤ u → u ≡ pos m *ℤ v → pos k ≡ v → k ≤ 80000 → x ≤ m * 80000
    bounded x t u v k a b c d e =
        let q : pos m *ℤ v ≡ pos (m * k) = ap (λ z. pos m *ℤ z) (sym d) in
        let r : m * k ≤ m * 80000 = mul-le-mul (omega arith) e in
        omega (arith, ints)

pub tilt_small : (s : Setting) (y : List ℕ) (i : ℕ) → IsSetting s → IsPoint s.instance y → i < s.instance.market.assets → unsigned_abs (tilt_of s (lots_at y) i) ≤ 80080000000000000000000000
tilt_small s y i is p h = subst (λ (z : ℤ). unsigned_abs z ≤ 80080000000000000000000000) (sym (tilt_is s (lots_at y) i)) (weighed_size s y (λ j. shifted_cov s i j) 1001000000000000000000 is p (λ j l. entry_size s i j is h))

scale_most : (p q l : ℕ) → q ≤ 100 → l ≤ 10000 → (q - p) * 1000000000000 * l ≤ 1000000000000000000
scale_most p q l h k =
    let a : (q - p) * 1000000000000 ≤ 100000000000000 = omega arith in
    let b : (q - p) * 1000000000000 * l ≤ 100000000000000 * 10000 = mul-le-mul a k in
    omega arith

pub reward_small : (s : Setting) (i : ℕ) → IsSetting s → i < s.instance.market.assets → unsigned_abs (reward_of s i) ≤ 1000000000000000000000000
reward_small s i is h = unsigned_abs-product_le (pos ((s.q - s.p) * 1000000000000 * s.instance.lots)) (mean_of s.instance.market i) 1000000000000000000 1000000 (scale_most s.p s.q s.instance.lots is.q_most is.instance_is.limits_are.lots_most) (is.instance_is.market_is.mean_sizes i)

pub gradient_small : (s : Setting) (y : List ℕ) (i : ℕ) → IsSetting s → IsPoint s.instance y → i < s.instance.market.assets → unsigned_abs (gradient_of s (lots_at y) i) ≤ 16250000000000000000000000000
gradient_small s y i is p h =
    let w : unsigned_abs (pos (2 * s.p)) ≤ 200 = let a = is.p_most in let b = is.q_most in omega arith in
    let t = unsigned_abs-product_le (pos (2 * s.p)) (tilt_of s (lots_at y) i) 200 80080000000000000000000000 w (tilt_small s y i is p h) in
    two (pos (2 * s.p) *ℤ tilt_of s (lots_at y) i) (reward_of s i) t (reward_small s i is h)
  where
    two : (a r : ℤ) → unsigned_abs a ≤ 200 * 80080000000000000000000000 → unsigned_abs r ≤ 1000000000000000000000000 → unsigned_abs (a -ℤ (pos 8 *ℤ r)) ≤ 16250000000000000000000000000
    two a r h k = omega (arith, ints)

pub constant_small : (s : Setting) (y : List ℕ) → IsSetting s → IsPoint s.instance y → unsigned_abs (constant_at s (lots_at y)) ≤ most_constant
constant_small s y is p =
    let e = tilts_give s (lots_at y) (lots_at y) is.instance_is.market_is in
    let a = weighed_size s y (tilt_of s (lots_at y)) 80080000000000000000000000 is p (λ j l. tilt_small s y j is p l) in
    let b = subst (λ (z : ℤ). unsigned_abs z ≤ 80080000000000000000000000 * 80000) (sym e) a in
    let w : unsigned_abs (pos s.p) ≤ 100 = let f = is.p_most in let g = is.q_most in omega arith in
    let c = unsigned_abs-product_le (pos s.p) (product_of s (lots_at y) (lots_at y)) 100 (80080000000000000000000000 * 80000) w b in
    let d = unsigned_abs-neg (pos s.p *ℤ product_of s (lots_at y) (lots_at y)) in
    omega arith
