-- What a move of eighths makes of a point and of its gradients, and the constant of a tangent from them.

use Rattle.std.proofs.Common.{◌≡◌, ◌≢◌, ℕ, ◌+◌, ◌-◌, ◌*◌, ◌<◌, ◌≤◌, List, length, sum, slice_index_or, set, length-set, get_or-set_other, ℤ, pos, ◌+ℤ◌, ◌-ℤ◌, ◌*ℤ◌, neg_ℤ, ◌≤ℤ◌, sym, ap, ◌∙◌, subst, arith}
use Rattle.std.proofs.lemmas.Int.{ints}
use Rattle.std.proofs.lemmas.List.Sums.{sum_by-set}
use Rattle.gap_base.specs.Sums.{sum_below, at, moved}
use Rattle.gap_base.specs.Lots.{lots_at}
use Rattle.gap_base.proofs.Lists.{lots_moved}
use Rattle.gap_base.proofs.Ring.{*ℤ-+ℤ, *ℤ_assoc, linear, product_not_negative}
use Rattle.gap_base.proofs.SumLaws.{sum_same, sum-moved, sum-scale}
use Rattle.gap_model.specs.Settings.{Setting, IsSetting, shifted_cov, product_of}
use Rattle.gap_model.specs.Lagrangian.{reward_of}
use Rattle.gap_model.specs.Leaves.{IsPoint}
use Rattle.gap_tangent.specs.Points.{after_move, IsKeptPoint}
use Rattle.gap_tangent.specs.Terms.{tilt_of, gradient_of, constant_at}
use Rattle.gap_tangent.proofs.TermLaws.{tilt_is, tilts_give}

-- ---- a list after a move
move_places : (y : List ℕ) (s i j : ℕ) → length (after_move y s i j) ≡ length y
move_places y s i j = length-set (set y i (slice_index_or y i 0 - s)) j (slice_index_or y j 0 + s) ∙ length-set y i (slice_index_or y i 0 - s)

move_total : (y : List ℕ) (s i j : ℕ) → i < length y → j < length y → i ≢ j → s ≤ slice_index_or y i 0 → sum (after_move y s i j) ≡ sum y
move_total y s i j p q n h =
    let a = sum_by-set (λ (k : ℕ). k) y i (slice_index_or y i 0 - s) 0 p in
    let l = length-set y i (slice_index_or y i 0 - s) in
    let b = sum_by-set (λ (k : ℕ). k) (set y i (slice_index_or y i 0 - s)) j (slice_index_or y j 0 + s) 0 (omega arith) in
    let o = get_or-set_other y i j (slice_index_or y i 0 - s) 0 (λ e. n (sym e)) in
    omega arith

pub move_at : (y : List ℕ) (s i j k : ℕ) → i < length y → j < length y → i ≢ j → s ≤ slice_index_or y i 0 → lots_at (after_move y s i j) k ≡ moved (lots_at y) (pos s) i j k
move_at y s i j k p q n h = lots_moved y (pos s) i j (slice_index_or y i 0 - s) (slice_index_or y j 0 + s) k p q n (taken (slice_index_or y i 0) s h) (given (slice_index_or y j 0) s)
  where
    taken : (v s : ℕ) → s ≤ v → pos (v - s) ≡ pos v -ℤ pos s
    taken v s h = omega (arith, ints)

    given : (v s : ℕ) → pos (v + s) ≡ pos v +ℤ pos s
    given v s = omega (arith, ints)

-- ---- the gradients after it
pub tilt_moved : (s : Setting) (y : List ℕ) (t i j k : ℕ) → length y ≡ s.instance.market.assets → i < length y → j < length y → i ≢ j → t ≤ slice_index_or y i 0 → tilt_of s (lots_at (after_move y t i j)) k ≡ tilt_of s (lots_at y) k +ℤ pos t *ℤ (shifted_cov s k j +ℤ neg_ℤ (shifted_cov s k i))
tilt_moved s y t i j k e p q n h =
    let m = s.instance.market.assets in
    tilt_is s (lots_at (after_move y t i j)) k
    ∙ (sum_same m (λ l. shifted_cov s k l *ℤ lots_at (after_move y t i j) l) (λ l. shifted_cov s k l *ℤ moved (lots_at y) (pos t) i j l) (λ l r. ap (λ (z : ℤ). shifted_cov s k l *ℤ z) (move_at y t i j l p q n h))
    ∙ (sum-moved m (shifted_cov s k) (lots_at y) (pos t) i j (omega arith) (omega arith)
    ∙ ap (λ (z : ℤ). z +ℤ pos t *ℤ (shifted_cov s k j +ℤ neg_ℤ (shifted_cov s k i))) (sym (tilt_is s (lots_at y) k))))

gradient_moved : (s : Setting) (y : List ℕ) (t i j k : ℕ) → length y ≡ s.instance.market.assets → i < length y → j < length y → i ≢ j → t ≤ slice_index_or y i 0 → gradient_of s (lots_at (after_move y t i j)) k ≡ gradient_of s (lots_at y) k +ℤ pos (2 * s.p * t) *ℤ (shifted_cov s k j -ℤ shifted_cov s k i)
gradient_moved s y t i j k e p q n h =
    let a = tilt_moved s y t i j k e p q n h in
    let b = ap (λ (z : ℤ). pos (2 * s.p) *ℤ z) a ∙ *ℤ-+ℤ (pos (2 * s.p)) (tilt_of s (lots_at y) k) (pos t *ℤ (shifted_cov s k j +ℤ neg_ℤ (shifted_cov s k i))) in
    let d : pos (2 * s.p) *ℤ (pos t *ℤ (shifted_cov s k j +ℤ neg_ℤ (shifted_cov s k i))) ≡ pos (2 * s.p * t) *ℤ (shifted_cov s k j +ℤ neg_ℤ (shifted_cov s k i)) = sym (*ℤ_assoc (pos (2 * s.p)) (pos t) (shifted_cov s k j +ℤ neg_ℤ (shifted_cov s k i))) in
    join (pos (2 * s.p) *ℤ tilt_of s (lots_at (after_move y t i j)) k) (pos (2 * s.p) *ℤ tilt_of s (lots_at y) k) (pos (2 * s.p) *ℤ (pos t *ℤ (shifted_cov s k j +ℤ neg_ℤ (shifted_cov s k i)))) (pos (2 * s.p * t) *ℤ (shifted_cov s k j +ℤ neg_ℤ (shifted_cov s k i))) (pos 8 *ℤ reward_of s k) b d
  where
    join : (a b c d r : ℤ) → a ≡ b +ℤ c → c ≡ d → a -ℤ r ≡ (b -ℤ r) +ℤ d
    join a b c d r p q = omega (arith, linear)

-- what a point keeps after a move
pub kept_after : (s : Setting) (y : List ℕ) (old new : List ℤ) (t i j : ℕ) → i < s.instance.market.assets → j < s.instance.market.assets → i ≢ j → t ≤ slice_index_or y i 0 → IsKeptPoint s y old → length new ≡ 256 → ((k : ℕ) → k < s.instance.market.assets → at new k ≡ at old k +ℤ pos (2 * s.p * t) *ℤ (shifted_cov s k j -ℤ shifted_cov s k i)) → IsKeptPoint s (after_move y t i j) new
kept_after s y old new t i j p q n h kept room added =
    let c = kept.point.count in
    let total = move_total y t i j (omega arith) (omega arith) n h in
    let m = kept.point.most in
    record {
      point = record { count = move_places y t i j ∙ c; most = omega arith };
      room = room;
      gradients_are = λ k l. added k l ∙ (ap (λ (z : ℤ). z +ℤ pos (2 * s.p * t) *ℤ (shifted_cov s k j -ℤ shifted_cov s k i)) (kept.gradients_are k l) ∙ sym (gradient_moved s y t i j k c (omega arith) (omega arith) n h));
    }

-- ---- the constant
pull_is : (s : Setting) (y : ℕ → ℤ) (i : ℕ) → (gradient_of s y i +ℤ pos 8 *ℤ reward_of s i) *ℤ y i ≡ pos (2 * s.p) *ℤ (tilt_of s y i *ℤ y i)
pull_is s y i = ap (λ (z : ℤ). z *ℤ y i) (back (pos (2 * s.p) *ℤ tilt_of s y i) (pos 8 *ℤ reward_of s i)) ∙ *ℤ_assoc (pos (2 * s.p)) (tilt_of s y i) (y i)
  where
    back : (a b : ℤ) → (a -ℤ b) +ℤ b ≡ a
    back a b = omega (arith, linear)

-- the pulls times the eighths are twice p y'Ay
pub pulls_give : (s : Setting) (y : List ℕ) → IsSetting s → sum_below s.instance.market.assets (λ i. (gradient_of s (lots_at y) i +ℤ pos 8 *ℤ reward_of s i) *ℤ lots_at y i) ≡ pos 2 *ℤ (pos s.p *ℤ product_of s (lots_at y) (lots_at y))
pulls_give s y is =
    let m = s.instance.market.assets in
    sum_same m (λ i. (gradient_of s (lots_at y) i +ℤ pos 8 *ℤ reward_of s i) *ℤ lots_at y i) (λ i. pos (2 * s.p) *ℤ (tilt_of s (lots_at y) i *ℤ lots_at y i)) (λ i l. pull_is s (lots_at y) i)
    ∙ (sum-scale m (pos (2 * s.p)) (λ i. tilt_of s (lots_at y) i *ℤ lots_at y i)
    ∙ (ap (λ (z : ℤ). pos (2 * s.p) *ℤ z) (sym (tilts_give s (lots_at y) (lots_at y) is.instance_is.market_is))
    ∙ *ℤ_assoc (pos 2) (pos s.p) (product_of s (lots_at y) (lots_at y))))

pub square_sign : (s : Setting) (y : List ℕ) → IsSetting s → pos 0 ≤ℤ (pos s.p *ℤ product_of s (lots_at y) (lots_at y))
square_sign s y is = product_not_negative (pos s.p) (product_of s (lots_at y) (lots_at y)) (omega (arith, ints)) (is.semidefinite (lots_at y))

pub half_is : (h x z : ℤ) → x ≡ pos 2 *ℤ z → (pos 2 *ℤ h) ≤ℤ x → x ≤ℤ (pos 2 *ℤ h +ℤ pos 1) → neg_ℤ h ≡ neg_ℤ z
half_is h x z e a b = omega (arith, ints)

pub twice_sign : (x z : ℤ) → x ≡ pos 2 *ℤ z → pos 0 ≤ℤ z → pos 0 ≤ℤ x
twice_sign x z e h = omega (arith, ints)
