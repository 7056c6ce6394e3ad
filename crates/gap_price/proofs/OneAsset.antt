-- The least cost of one asset over a range is at an end of the range, or at the present lots between them, since the
-- square enters with a negative sign.

use Rattle.std.proofs.Common.{◌≡◌, ℕ, ◌+◌, ◌<◌, ◌≤◌, ℤ, pos, ◌+ℤ◌, ◌-ℤ◌, ◌*ℤ◌, neg_ℤ, ◌≤ℤ◌, ◌<ℤ◌, int_lt, refl, sym, ap, ◌∙◌, inl, inr, arith}
use Rattle.std.proofs.lemmas.Int.{ints, clamps, by_lt_z}
use Rattle.std.specs.Int.{int_min}
use Rattle.gap_base.specs.Sums.{abs_z}
use Rattle.gap_base.proofs.Ring.{expand, linear, product_not_negative, product_positive, scaled_le}
use Rattle.gap_relax.proofs.Order.{lt_tells, lt_is, lt_not}
use Rattle.gap_price.specs.Costs.{asset_cost, IsLeastBetween}

-- ---- a line less a square
abbrev pub bow : ℤ → ℤ → ℤ → ℤ
bow c d v = (c *ℤ v) -ℤ (d *ℤ (v *ℤ v))

rise_is : (c d a v : ℤ) → (v +ℤ neg_ℤ a) *ℤ (c +ℤ neg_ℤ (d *ℤ (v +ℤ a))) ≡ (c *ℤ v +ℤ neg_ℤ (d *ℤ (v *ℤ v))) +ℤ neg_ℤ (c *ℤ a +ℤ neg_ℤ (d *ℤ (a *ℤ a)))
rise_is c d a v = simp expand (omega (arith, linear))

-- where the line outweighs the square the start is least, else the end
above_start : (c d a v : ℤ) → a ≤ℤ v → (d *ℤ (v +ℤ a)) ≤ℤ c → bow c d a ≤ℤ bow c d v
above_start c d a v h k = let p = product_not_negative (v +ℤ neg_ℤ a) (c +ℤ neg_ℤ (d *ℤ (v +ℤ a))) (omega (arith, linear)) (omega (arith, linear)) in let e = rise_is c d a v in omega (arith, linear)

above_end : (c d v e : ℤ) → v ≤ℤ e → c ≤ℤ (d *ℤ (e +ℤ v)) → bow c d e ≤ℤ bow c d v
above_end c d v e h k = let p = product_not_negative (e +ℤ neg_ℤ v) (d *ℤ (e +ℤ v) +ℤ neg_ℤ c) (omega (arith, linear)) (omega (arith, linear)) in let q = rise_is c d v e in let r : (e +ℤ neg_ℤ v) *ℤ (d *ℤ (e +ℤ v) +ℤ neg_ℤ c) ≡ neg_ℤ ((e +ℤ neg_ℤ v) *ℤ (c +ℤ neg_ℤ (d *ℤ (e +ℤ v)))) = turned (e +ℤ neg_ℤ v) (d *ℤ (e +ℤ v)) c in omega (arith, linear)
  where
    turned : (x y z : ℤ) → x *ℤ (y +ℤ neg_ℤ z) ≡ neg_ℤ (x *ℤ (z +ℤ neg_ℤ y))
    turned x y z = simp expand (omega (arith, linear))

-- over a to e a bow is least at an end
pub bow_least : (c d a v e r : ℤ) → pos 0 ≤ℤ d → a ≤ℤ v → v ≤ℤ e → r ≤ℤ bow c d a → r ≤ℤ bow c d e → r ≤ℤ bow c d v
bow_least c d a v e r s h k p q =
    by_lt_z c (d *ℤ (v +ℤ a))
    (λ (l : c <ℤ (d *ℤ (v +ℤ a))). let g = scaled_le d (v +ℤ a) (e +ℤ v) s (omega (arith, ints)) in let t = above_end c d v e k (omega (arith, linear)) in omega (arith, linear))
    (λ (l : (d *ℤ (v +ℤ a)) ≤ℤ c). let t = above_start c d a v h l in omega (arith, linear))

-- ---- on one side of the present lots the cost is a bow and a constant
abs_above : (v b : ℤ) → b ≤ℤ v → abs_z (v -ℤ b) ≡ v +ℤ neg_ℤ b
abs_above v b h = omega (arith, ints)

abs_below : (v b : ℤ) → v ≤ℤ b → abs_z (v -ℤ b) ≡ b +ℤ neg_ℤ v
abs_below v b h = omega (arith, ints)

right_algebra : (c d t b v : ℤ) → (c *ℤ v +ℤ neg_ℤ (d *ℤ (v *ℤ v))) +ℤ t *ℤ (v +ℤ neg_ℤ b) ≡ ((c +ℤ t) *ℤ v +ℤ neg_ℤ (d *ℤ (v *ℤ v))) +ℤ neg_ℤ (t *ℤ b)
right_algebra c d t b v = simp expand (omega (arith, linear))

left_algebra : (c d t b v : ℤ) → (c *ℤ v +ℤ neg_ℤ (d *ℤ (v *ℤ v))) +ℤ t *ℤ (b +ℤ neg_ℤ v) ≡ ((c +ℤ neg_ℤ t) *ℤ v +ℤ neg_ℤ (d *ℤ (v *ℤ v))) +ℤ t *ℤ b
left_algebra c d t b v = simp expand (omega (arith, linear))

pub cost_above : (c d t b v : ℤ) → b ≤ℤ v → asset_cost c d t b v ≡ bow (c +ℤ t) d v +ℤ neg_ℤ (t *ℤ b)
cost_above c d t b v h = ap (λ z. ((c *ℤ v) -ℤ (d *ℤ (v *ℤ v))) +ℤ (t *ℤ z)) (abs_above v b h) ∙ right_algebra c d t b v

pub cost_below : (c d t b v : ℤ) → v ≤ℤ b → asset_cost c d t b v ≡ bow (c +ℤ neg_ℤ t) d v +ℤ t *ℤ b
cost_below c d t b v h = ap (λ z. ((c *ℤ v) -ℤ (d *ℤ (v *ℤ v))) +ℤ (t *ℤ z)) (abs_below v b h) ∙ left_algebra c d t b v

-- between two places on one side of the present lots
piece_above : (c d t b a v e r : ℤ) → pos 0 ≤ℤ d → b ≤ℤ a → a ≤ℤ v → v ≤ℤ e → r ≤ℤ asset_cost c d t b a → r ≤ℤ asset_cost c d t b e → r ≤ℤ asset_cost c d t b v
piece_above c d t b a v e r s o h k p q =
    let ea = cost_above c d t b a o in
    let ev = cost_above c d t b v (omega (arith, ints)) in
    let ee = cost_above c d t b e (omega (arith, ints)) in
    let m = bow_least (c +ℤ t) d a v e (r +ℤ t *ℤ b) s h k (shift_in r (t *ℤ b) (bow (c +ℤ t) d a) (rw ea at p)) (shift_in r (t *ℤ b) (bow (c +ℤ t) d e) (rw ee at q)) in
    rw ev (shift_out r (t *ℤ b) (bow (c +ℤ t) d v) m)
  where
    shift_in : (r x y : ℤ) → r ≤ℤ (y +ℤ neg_ℤ x) → (r +ℤ x) ≤ℤ y
    shift_in r x y h = omega (arith, ints)

    shift_out : (r x y : ℤ) → (r +ℤ x) ≤ℤ y → r ≤ℤ (y +ℤ neg_ℤ x)
    shift_out r x y h = omega (arith, ints)

piece_below : (c d t b a v e r : ℤ) → pos 0 ≤ℤ d → e ≤ℤ b → a ≤ℤ v → v ≤ℤ e → r ≤ℤ asset_cost c d t b a → r ≤ℤ asset_cost c d t b e → r ≤ℤ asset_cost c d t b v
piece_below c d t b a v e r s o h k p q =
    let ea = cost_below c d t b a (omega (arith, ints)) in
    let ev = cost_below c d t b v (omega (arith, ints)) in
    let ee = cost_below c d t b e o in
    let m = bow_least (c +ℤ neg_ℤ t) d a v e (r +ℤ neg_ℤ (t *ℤ b)) s h k (shift_in r (t *ℤ b) (bow (c +ℤ neg_ℤ t) d a) (rw ea at p)) (shift_in r (t *ℤ b) (bow (c +ℤ neg_ℤ t) d e) (rw ee at q)) in
    rw ev (shift_out r (t *ℤ b) (bow (c +ℤ neg_ℤ t) d v) m)
  where
    shift_in : (r x y : ℤ) → r ≤ℤ (y +ℤ x) → (r +ℤ neg_ℤ x) ≤ℤ y
    shift_in r x y h = omega (arith, ints)

    shift_out : (r x y : ℤ) → (r +ℤ neg_ℤ x) ≤ℤ y → r ≤ℤ (y +ℤ x)
    shift_out r x y h = omega (arith, ints)

-- a number that isn't above the costs at l, at u and at the present lots between them isn't above any cost between
pub cost_least : (c d t b l u v r : ℤ) → pos 0 ≤ℤ d → l ≤ℤ v → v ≤ℤ u → r ≤ℤ asset_cost c d t b l → r ≤ℤ asset_cost c d t b u → (l <ℤ b → b <ℤ u → r ≤ℤ asset_cost c d t b b) → r ≤ℤ asset_cost c d t b v
cost_least c d t b l u v r s h k p q m =
    by_lt_z l b
    (λ (lb : l <ℤ b).
    by_lt_z b u
    (λ (bu : b <ℤ u).
    by_lt_z v b
    (λ (vb : v <ℤ b). piece_below c d t b l v b r s (omega (arith, ints)) h (omega (arith, ints)) p (m lb bu))
    (λ (bv : b ≤ℤ v). piece_above c d t b b v u r s (omega (arith, ints)) bv k (m lb bu) q))
    (λ (ub : u ≤ℤ b). piece_below c d t b l v u r s ub h k p q))
    (λ (bl : b ≤ℤ l). piece_above c d t b l v u r s bl h k p q)

-- ---- where distance has no price, or nothing is present, the better end is least
no_price : (x y : ℤ) → x +ℤ (pos 0 *ℤ y) ≡ x
no_price x y = simp expand (omega (arith, linear))

pub bare_is : (c d b v : ℤ) → asset_cost c d (pos 0) b v ≡ bow c d v
bare_is c d b v = no_price (bow c d v) (abs_z (v -ℤ b))

none_off : (x t : ℤ) → x +ℤ neg_ℤ (t *ℤ pos 0) ≡ x
none_off x t = omega (arith, linear)

pub away_is : (c d t : ℤ) (v : ℕ) → asset_cost c d t (pos 0) (pos v) ≡ bow (c +ℤ t) d (pos v)
away_is c d t v = cost_above c d t (pos 0) (pos v) (omega (arith, ints)) ∙ none_off (bow (c +ℤ t) d (pos v)) t

pub bow_none : (c d : ℤ) → bow c d (pos 0) ≡ pos 0
bow_none c d = omega (arith, linear)

pub bow_factored : (c d v : ℤ) → (c -ℤ (d *ℤ v)) *ℤ v ≡ bow c d v
bow_factored c d v = factored c d v
  where
    factored : (c d v : ℤ) → (c +ℤ neg_ℤ (d *ℤ v)) *ℤ v ≡ (c *ℤ v) +ℤ neg_ℤ (d *ℤ (v *ℤ v))
    factored c d v = simp expand (omega (arith, linear))

sum_of_ends : (d : ℤ) (l u : ℕ) → d *ℤ (pos u +ℤ pos l) ≡ d *ℤ pos (l + u)
sum_of_ends d l u = ap (λ z. d *ℤ z) (omega (arith, ints))

-- a bow at the ends, by the test
upper_less : (c d : ℤ) (l u : ℕ) → l < u → c <ℤ (d *ℤ pos (l + u)) → bow c d (pos u) <ℤ bow c d (pos l)
upper_less c d l u h k =
    let e = sum_of_ends d l u in
    let p = product_positive (pos u +ℤ neg_ℤ (pos l)) (d *ℤ (pos u +ℤ pos l) +ℤ neg_ℤ c) (omega (arith, ints)) (above c (d *ℤ pos (l + u)) (d *ℤ (pos u +ℤ pos l)) k e) in
    let q = rise_is c d (pos l) (pos u) in
    let r = turned (pos u +ℤ neg_ℤ (pos l)) (d *ℤ (pos u +ℤ pos l)) c in
    less _ _ _ _ p q r
  where
    above : (c x y : ℤ) → c <ℤ x → y ≡ x → pos 0 <ℤ (y +ℤ neg_ℤ c)
    above c x y h e = omega (arith, ints)

    turned : (x y z : ℤ) → x *ℤ (y +ℤ neg_ℤ z) ≡ neg_ℤ (x *ℤ (z +ℤ neg_ℤ y))
    turned x y z = simp expand (omega (arith, linear))

    less : (p q x y : ℤ) → pos 0 <ℤ p → q ≡ x +ℤ neg_ℤ y → p ≡ neg_ℤ q → x <ℤ y
    less p q x y h e f = omega (arith, ints)

lower_least : (c d : ℤ) (l u : ℕ) → l ≤ u → (d *ℤ pos (l + u)) ≤ℤ c → bow c d (pos l) ≤ℤ bow c d (pos u)
lower_least c d l u h k = above_start c d (pos l) (pos u) (omega (arith, ints)) (met c (d *ℤ pos (l + u)) (d *ℤ (pos u +ℤ pos l)) k (sum_of_ends d l u))
  where
    met : (c x y : ℤ) → x ≤ℤ c → y ≡ x → y ≤ℤ c
    met c x y h e = omega (arith, ints)

-- the test by the prices is that by the costs
pub ends_test : (c d : ℤ) (l u : ℕ) → l < u → int_lt c (d *ℤ pos (l + u)) ≡ int_lt (bow c d (pos u)) (bow c d (pos l))
ends_test c d l u h = elim (lt_tells c (d *ℤ pos (l + u))) [ inl p ↦ p.0 ∙ sym (lt_is (bow c d (pos u)) (bow c d (pos l)) (upper_less c d l u h p.1)) | inr p ↦ p.0 ∙ sym (lt_not (bow c d (pos u)) (bow c d (pos l)) (lower_least c d l u (omega arith) p.1)) ]

-- ---- the least over a range, as code takes it
pub between_three : (c d t : ℤ) (b l u : ℕ) (r : ℤ) → pos 0 ≤ℤ d → l ≤ u → l < b → b < u → r ≡ int_min (int_min (asset_cost c d t (pos b) (pos l)) (asset_cost c d t (pos b) (pos u))) (asset_cost c d t (pos b) (pos b)) → IsLeastBetween l u (λ v. asset_cost c d t (pos b) (pos v)) r
between_three c d t b l u r s h p q e = record {
  reached = reached_by (asset_cost c d t (pos b) (pos l)) (asset_cost c d t (pos b) (pos u)) (asset_cost c d t (pos b) (pos b)) refl refl refl;
  below = λ v i j. cost_least c d t (pos b) (pos l) (pos u) (pos v) r s (omega (arith, ints)) (omega (arith, ints)) (omega (arith, ints, clamps)) (omega (arith, ints, clamps)) (λ k m. omega (arith, ints, clamps));
}
  where
    reached_by : (x y z : ℤ) → asset_cost c d t (pos b) (pos l) ≡ x → asset_cost c d t (pos b) (pos u) ≡ y → asset_cost c d t (pos b) (pos b) ≡ z → (v : ℕ) × (l ≤ v) × (v ≤ u) × (asset_cost c d t (pos b) (pos v) ≡ r)
    reached_by x y z ex ey ez = by_lt_z x y
        (λ (k : x <ℤ y). by_lt_z x z
        (λ (m : x <ℤ z). (l, omega arith, h, omega (arith, ints, clamps)))
        (λ (m : z ≤ℤ x). (b, omega arith, omega arith, omega (arith, ints, clamps))))
        (λ (k : y ≤ℤ x). by_lt_z y z
        (λ (m : y <ℤ z). (u, h, omega arith, omega (arith, ints, clamps)))
        (λ (m : z ≤ℤ y). (b, omega arith, omega arith, omega (arith, ints, clamps))))

pub between_two : (c d t : ℤ) (b l u : ℕ) (r : ℤ) → pos 0 ≤ℤ d → l ≤ u → (l < b → b < u → ⊥) → r ≡ int_min (asset_cost c d t (pos b) (pos l)) (asset_cost c d t (pos b) (pos u)) → IsLeastBetween l u (λ v. asset_cost c d t (pos b) (pos v)) r
between_two c d t b l u r s h n e = record {
  reached = reached_by (asset_cost c d t (pos b) (pos l)) (asset_cost c d t (pos b) (pos u)) refl refl;
  below = λ v i j. cost_least c d t (pos b) (pos l) (pos u) (pos v) r s (omega (arith, ints)) (omega (arith, ints)) (omega (arith, ints, clamps)) (omega (arith, ints, clamps)) (λ k m. absurd (n (omega (arith, ints)) (omega (arith, ints))));
}
  where
    reached_by : (x y : ℤ) → asset_cost c d t (pos b) (pos l) ≡ x → asset_cost c d t (pos b) (pos u) ≡ y → (v : ℕ) × (l ≤ v) × (v ≤ u) × (asset_cost c d t (pos b) (pos v) ≡ r)
    reached_by x y ex ey = by_lt_z x y
        (λ (k : x <ℤ y). (l, omega arith, h, omega (arith, ints, clamps)))
        (λ (k : y ≤ℤ x). (u, h, omega arith, omega (arith, ints, clamps)))
