-- Counts of two tests together, and the sum of one price at each place that meets a test.

use Rattle.std.proofs.Common.{◌≡◌, ℕ, zero, suc, ◌+◌, ◌<◌, Bool, true, false, cond, if◌then◌else◌, ℤ, pos, ◌+ℤ◌, ◌*ℤ◌, arith}
use Rattle.std.proofs.lemmas.Int.{ints}
use Rattle.gap_base.specs.Sums.{sum_below, count_if}
use Rattle.gap_base.proofs.Ring.{linear, expand}

-- the count of one test is that of two others together
pub count_two : (n : ℕ) (p q r : ℕ → Bool) → ((i : ℕ) → i < n → cond {A = ℕ} (p i) 1 0 ≡ cond (q i) 1 0 + cond (r i) 1 0) → count_if n p ≡ count_if n q + count_if n r
unfolding count_if
count_two zero p q r h = omega arith
count_two (suc n) p q r h = let a = count_two n p q r (λ i k. h i (omega arith)) in let b = h n (omega arith) in omega arith

-- a price at each place that meets a test
pub sum_price : (n : ℕ) (t : ℕ → Bool) (price : ℤ) → sum_below n (λ i. if t i then price else pos 0) ≡ pos (count_if n t) *ℤ price
unfolding sum_below count_if
sum_price zero t price = omega (arith, linear)
sum_price (suc n) t price = price_step (t n) price _ _ (sum_price n t price) where
  price_step : (b : Bool) (price : ℤ) (m : ℕ) (s : ℤ) → s ≡ pos m *ℤ price → s +ℤ (if b then price else pos 0) ≡ pos (m + cond b 1 0) *ℤ price
  price_step true price m s e = let d : pos (m + 1) ≡ pos m +ℤ pos 1 = omega (arith, ints) in rw (d, e) (simp expand (omega (arith, linear)))
  price_step false price m s e = let d : pos (m + 0) ≡ pos m = omega (arith, ints) in rw (d, e) (omega (arith, linear))
