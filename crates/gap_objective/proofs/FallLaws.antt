-- Laws of the objective after lots went to an asset where its slope is not lower.
use Rattle.std.proofs.Common.{◌≡◌, ℕ, ◌+◌, ◌-◌, ◌*◌, ◌<◌, ◌≤◌, List, length, slice_index_or, ℤ, pos, int_lt, IsFalse, ◌+ℤ◌, ◌-ℤ◌, ◌*ℤ◌, ◌≤ℤ◌, refl, sym, ap, arith, unsigned_abs}
use Rattle.std.proofs.lemmas.Int.{ints}
use Rattle.gap_base.specs.Lots.{lots_at}
use Rattle.gap_base.specs.Markets.{MarketValue, IsMarket, deviation_of, rho_of}
use Rattle.gap_base.proofs.Machine.{unsigned_abs-product_le}
use Rattle.gap_base.proofs.Ring.{expand, pull, linear, if_same, product_not_negative, square_not_negative}
use Rattle.gap_instance.specs.Instances.{InstanceValue}
use Rattle.gap_instance.specs.Objective.{cov_of, objective}
use Rattle.gap_objective.specs.Slopes.{slope_of, spread_of, StaysFrom}
use Rattle.gap_objective.proofs.ChangeLaws.{objective_shifted}

-- ---- the spread of two assets isn't negative
square_apart : (a b : ℤ) → (a -ℤ b) *ℤ (a -ℤ b) ≡ (a *ℤ a +ℤ b *ℤ b) -ℤ pos 2 *ℤ (a *ℤ b)
square_apart a b = simp expand (simp pull (omega (arith, linear)))

products_below_squares : (a b : ℕ) → 2 * (a * b) ≤ a * a + b * b
products_below_squares a b =
    let square = square_not_negative (pos a -ℤ pos b) in
    let is : (pos a -ℤ pos b) *ℤ (pos a -ℤ pos b) ≡ (pos (a * a) +ℤ pos (b * b)) -ℤ pos (2 * (a * b)) = square_apart (pos a) (pos b) in
    let apart : pos 0 ≤ℤ ((pos (a * a) +ℤ pos (b * b)) -ℤ pos (2 * (a * b))) = rw (sym is) square in
    omega (arith, ints)

tied : (r : ℤ) (d : ℕ) → unsigned_abs r ≤ 1000000 → (r *ℤ pos d) ≤ℤ pos (1000000 * d)
tied r d h = let a = unsigned_abs-product_le r (pos d) 1000000 d h (omega arith) in omega (arith, ints)

diagonal : (m : MarketValue) (i : ℕ) → cov_of m i i ≡ pos (1000000 * (deviation_of m i * deviation_of m i))
unfolding cov_of rho_of
diagonal m i = ap (λ r. r *ℤ pos (deviation_of m i * deviation_of m i)) (if_same i i (pos 1000000) _ refl)

below_tied : (m : MarketValue) (i j : ℕ) → IsMarket m → (cov_of m i j) ≤ℤ pos (1000000 * (deviation_of m i * deviation_of m j))
unfolding cov_of
below_tied m i j known = tied (rho_of m i j) (deviation_of m i * deviation_of m j) (known.rho_sizes i j)

spread-algebra : (a b c : ℕ) (ci cj cij : ℤ) → 2 * c ≤ a + b → ci ≡ pos (1000000 * a) → cj ≡ pos (1000000 * b) → cij ≤ℤ pos (1000000 * c) → pos 0 ≤ℤ ((ci -ℤ cij) +ℤ (cj -ℤ cij))
spread-algebra a b c ci cj cij h i j k = omega (arith, ints)

pub spread_not_negative : (m : MarketValue) (i j : ℕ) → IsMarket m → pos 0 ≤ℤ spread_of m i j
spread_not_negative m i j known =
    let a = deviation_of m i in
    let b = deviation_of m j in
    spread-algebra (a * a) (b * b) (a * b) (cov_of m i i) (cov_of m j j) (cov_of m i j) (products_below_squares a b) (diagonal m i) (diagonal m j) (below_tied m i j known)

-- ---- so the objective doesn't fall where the slope doesn't
climb : (v g b s : ℤ) → pos 0 ≤ℤ g → pos 0 ≤ℤ b → pos 0 ≤ℤ s → v ≤ℤ (v +ℤ (g +ℤ b *ℤ s) *ℤ s)
climb v g b s h k l =
    let bend = product_not_negative b s k l in
    let whole = product_not_negative (g +ℤ b *ℤ s) s (omega (arith, linear)) l in
    omega (arith, linear)

pub StaysFrom-level : (I : InstanceValue) (p q : ℕ) (x : List ℕ) (i j : ℕ) → IsMarket I.market → length x ≡ I.market.assets → i < I.market.assets → j < I.market.assets → slope_of I p q x i ≤ℤ slope_of I p q x j → StaysFrom I p q x i j
StaysFrom-level I p q x i j known size hi hj level s ne le =
    let from : pos (slice_index_or x i 0 - s) ≡ lots_at x i -ℤ pos s = omega (arith, ints) in
    let to : pos (slice_index_or x j 0 + s) ≡ lots_at x j +ℤ pos s = omega (arith, ints) in
    let is = objective_shifted I p q x (pos s) i j (slice_index_or x i 0 - s) (slice_index_or x j 0 + s) known size hi hj ne from to in
    let bend = product_not_negative (pos p) (spread_of I.market i j) (omega (arith, ints)) (spread_not_negative I.market i j known) in
    rw is (climb (objective I p q x) (slope_of I p q x j -ℤ slope_of I p q x i) (pos p *ℤ spread_of I.market i j) (pos s) (omega (arith, linear)) bend (omega (arith, ints)))

pub not_below : (a b : ℤ) → IsFalse (int_lt a b) → b ≤ℤ a
not_below a b h = grind (arith, ints)
