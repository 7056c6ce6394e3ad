-- The laws of the least diagonal: it makes a shift dominant, it is one, and what it is where R is zero.
use Rattle.std.proofs.Common.{◌≡◌, ℕ, ◌+◌, ◌<◌, ◌≤◌, ◌==◌, if◌then◌else◌, ℤ, pos, ◌+ℤ◌, ◌-ℤ◌, ◌*ℤ◌, ◌≤ℤ◌, unsigned_abs, FitsSigned, List, length, length-set, get_or-set_same, get_or-set_other, ◌⊎◌, inl, inr, refl, sym, ap, ◌∙◌, arith}
use Rattle.std.proofs.lemmas.Int.{ints, int_max_is, fits_signed_from_abs}
use Rattle.std.proofs.lemmas.Bool.{cases_eq}
use Rattle.std.specs.Int.{int_max, w128}
use Rattle.gap_base.specs.Sums.{abs_z, lower}
use Rattle.gap_base.proofs.Ring.{if_same, if_other}
use Rattle.gap_base.proofs.SumLaws.{sum_same, sum-scale, sum_all_zero}
use Rattle.gap_psd.specs.Forms.{others, gram, remainder}
use Rattle.gap_psd.specs.Shifts.{ShiftValue, r_of, d_of, with_d, with_diagonal, rest, IsDominantShift}
use Rattle.gap_psd.specs.Factors.{IsEnough, IsLeastAt, AreLeast, no_factor}
use Rattle.gap_factor.specs.Diagonals.{IsLeastStep, AreSet}
use Rattle.gap_psd.proofs.ShiftLaws.{others_without_diagonal, diagonal_entry}

moved_over : (o x d g y : ℤ) → o ≤ℤ (pos 1000000000000 *ℤ (x +ℤ d) -ℤ g) → y ≡ x +ℤ d → o ≤ℤ (pos 1000000000000 *ℤ y -ℤ g)
moved_over o x d g y h e = rw e h

-- a shift with the least diagonal for its factor is dominant
pub dominant_of_least : (C : ℕ → ℕ → ℤ) (s : ShiftValue) → AreLeast s.assets C (r_of s) (d_of s) → IsDominantShift C s
dominant_of_least C s h i l = rw (others_without_diagonal s.assets (pos 1000000000000) C (r_of s) (d_of s) i) (moved_over (others s.assets (remainder s.assets (pos 1000000000000) C (r_of s)) i) (C i i) (d_of s i) (gram s.assets (r_of s) i i) (with_diagonal C (d_of s) i i) (h i l).enough (diagonal_entry C (d_of s) i))

pub least_unique : (n : ℕ) (C R : ℕ → ℕ → ℤ) (i : ℕ) (d e : ℤ) → IsLeastAt n C R i d → IsLeastAt n C R i e → d ≡ e
least_unique n C R i d e a b = let p = a.least e b.not_negative b.enough in let q = b.least d a.not_negative a.enough in omega (arith, ints)

product_same : (a b c d : ℤ) → a ≡ b → c ≡ d → a *ℤ c ≡ b *ℤ d
product_same a b c d p q = rw p (rw q refl)

pub gram_same : (n : ℕ) (R S : ℕ → ℕ → ℤ) (i j : ℕ) → i < n → j < n → ((a b : ℕ) → a < n → b < n → R a b ≡ S a b) → gram n R i j ≡ gram n S i j
unfolding gram
gram_same n R S i j p q h = sum_same n (λ k. R i k *ℤ R j k) (λ k. S i k *ℤ S j k) (λ k l. product_same (R i k) (S i k) (R j k) (S j k) (h i k p l) (h j k q l))

pub others_same : (n : ℕ) (s : ℤ) (C R S : ℕ → ℕ → ℤ) (i : ℕ) → i < n → ((a b : ℕ) → a < n → b < n → R a b ≡ S a b) → others n (remainder n s C R) i ≡ others n (remainder n s C S) i
unfolding others
others_same n s C R S i p h = sum_same n (λ j. if j == i then pos 0 else abs_z (remainder n s C R i j)) (λ j. if j == i then pos 0 else abs_z (remainder n s C S i j)) (λ j l. ap (λ g. if j == i then pos 0 else abs_z (s *ℤ C i j -ℤ g)) (gram_same n R S i j p l h))

enough_same : (n : ℕ) (C R S : ℕ → ℕ → ℤ) (i : ℕ) (d : ℤ) → i < n → ((a b : ℕ) → a < n → b < n → R a b ≡ S a b) → IsEnough n C R i d → IsEnough n C S i d
enough_same n C R S i d p h e = let a = others_same n (pos 1000000000000) C R S i p h in let b = gram_same n R S i i p p h in rw b at (rw a at e)

-- the least diagonal is the same for factors that are the same below n
pub least_same : (n : ℕ) (C R S : ℕ → ℕ → ℤ) (i : ℕ) (d : ℤ) → i < n → ((a b : ℕ) → a < n → b < n → R a b ≡ S a b) → IsLeastAt n C R i d → IsLeastAt n C S i d
least_same n C R S i d p h least = record {
  not_negative = least.not_negative;
  enough = enough_same n C R S i d p h least.enough;
  least = λ e z w. least.least e z (enough_same n C S R i e p (λ a b x y. sym (h a b x y)) w);
}

-- ---- the step from sums over the row to its least diagonal
up_to : (o x g d : ℤ) → (o -ℤ (pos 1000000000000 *ℤ x -ℤ g)) ≤ℤ (pos 1000000000000 *ℤ d) → o ≤ℤ (pos 1000000000000 *ℤ (x +ℤ d) -ℤ g)
up_to o x g d h = omega (arith, ints)

down_to : (o x g d : ℤ) → o ≤ℤ (pos 1000000000000 *ℤ (x +ℤ d) -ℤ g) → (o -ℤ (pos 1000000000000 *ℤ x -ℤ g)) ≤ℤ (pos 1000000000000 *ℤ d)
down_to o x g d h = omega (arith, ints)

pub least_from_step : (n : ℕ) (C R : ℕ → ℕ → ℤ) (i : ℕ) (d : ℤ) → IsLeastStep (others n (remainder n (pos 1000000000000) C R) i -ℤ (pos 1000000000000 *ℤ C i i -ℤ gram n R i i)) d → IsLeastAt n C R i d
least_from_step n C R i d h = record {
  not_negative = h.not_negative;
  enough = up_to (others n (remainder n (pos 1000000000000) C R) i) (C i i) (gram n R i i) d h.enough;
  least = λ e z w. h.least e z (down_to (others n (remainder n (pos 1000000000000) C R) i) (C i i) (gram n R i i) e w);
}

-- ---- where R is zero
pub gram_zero : (n i j : ℕ) → gram n no_factor i j ≡ pos 0
unfolding gram
gram_zero n i j = sum_all_zero n (λ k. no_factor i k *ℤ no_factor j k) (λ k l. refl)

size_scaled : (x g : ℤ) → g ≡ pos 0 → abs_z (pos 1000000000000 *ℤ x -ℤ g) ≡ pos 1000000000000 *ℤ abs_z x
size_scaled x g h = omega (arith, ints)

off_scaled : (n : ℕ) (C : ℕ → ℕ → ℤ) (i j : ℕ) → (j ≡ i) ⊎ (j ≡ i → ⊥) → (if j == i then pos 0 else abs_z (remainder n (pos 1000000000000) C no_factor i j)) ≡ pos 1000000000000 *ℤ (if j == i then pos 0 else abs_z (C i j))
off_scaled n C i j (inl e) = if_same j i (pos 0) (abs_z (remainder n (pos 1000000000000) C no_factor i j)) e ∙ ap (λ x. pos 1000000000000 *ℤ x) (sym (if_same j i (pos 0) (abs_z (C i j)) e))
off_scaled n C i j (inr m) = if_other j i (pos 0) (abs_z (remainder n (pos 1000000000000) C no_factor i j)) m ∙ size_scaled (C i j) (gram n no_factor i j) (gram_zero n i j) ∙ ap (λ x. pos 1000000000000 *ℤ x) (sym (if_other j i (pos 0) (abs_z (C i j)) m))

pub others_scaled : (n : ℕ) (C : ℕ → ℕ → ℤ) (i : ℕ) → others n (remainder n (pos 1000000000000) C no_factor) i ≡ pos 1000000000000 *ℤ others n C i
unfolding others
others_scaled n C i = sum_same n (λ j. if j == i then pos 0 else abs_z (remainder n (pos 1000000000000) C no_factor i j)) (λ j. pos 1000000000000 *ℤ (if j == i then pos 0 else abs_z (C i j))) (λ j l. off_scaled n C i j (cases_eq j i)) ∙ sum-scale n (pos 1000000000000) (λ j. if j == i then pos 0 else abs_z (C i j))

plain_up : (o c g p : ℤ) → p ≡ pos 1000000000000 *ℤ o → g ≡ pos 0 → p ≤ℤ (pos 1000000000000 *ℤ (c +ℤ int_max (pos 0) (o -ℤ c)) -ℤ g)
plain_up o c g p e h = omega (arith, ints, int_max_is)

plain_down : (o c g p e : ℤ) → p ≡ pos 1000000000000 *ℤ o → g ≡ pos 0 → pos 0 ≤ℤ e → p ≤ℤ (pos 1000000000000 *ℤ (c +ℤ e) -ℤ g) → int_max (pos 0) (o -ℤ c) ≤ℤ e
plain_down o c g p e h k z w = omega (arith, ints, int_max_is)

plain_sign : (x : ℤ) → pos 0 ≤ℤ int_max (pos 0) x
plain_sign x = omega (arith, ints, int_max_is)

-- with R zero the least diagonal of a row is what the others' sizes are above C_ii
pub plain_least : (n : ℕ) (C : ℕ → ℕ → ℤ) (i : ℕ) → IsLeastAt n C no_factor i (int_max (pos 0) (others n C i -ℤ C i i))
plain_least n C i = record {
  not_negative = plain_sign (others n C i -ℤ C i i);
  enough = plain_up (others n C i) (C i i) (gram n no_factor i i) (others n (remainder n (pos 1000000000000) C no_factor) i) (others_scaled n C i) (gram_zero n i i);
  least = λ e z w. plain_down (others n C i) (C i i) (gram n no_factor i i) (others n (remainder n (pos 1000000000000) C no_factor) i) e (others_scaled n C i) (gram_zero n i i) z w;
}

-- ---- a row of a shift whose D_i is 0
short_is : (o x y g z d : ℤ) → o ≡ z → x ≡ pos 1000000000000 *ℤ (y +ℤ d) -ℤ g → d ≡ pos 0 → o -ℤ x ≡ z -ℤ (pos 1000000000000 *ℤ y -ℤ g)
short_is o x y g z d p q r = omega (arith, ints)

step_of : (a b d : ℤ) → a ≡ b → IsLeastStep a d → IsLeastStep b d
step_of a b d e h = rw e at h

rest_on : (C : ℕ → ℕ → ℤ) (s : ShiftValue) (i : ℕ) → rest C s i i ≡ pos 1000000000000 *ℤ (C i i +ℤ d_of s i) -ℤ gram s.assets (r_of s) i i
rest_on C s i = ap (λ x. pos 1000000000000 *ℤ x -ℤ gram s.assets (r_of s) i i) (diagonal_entry C (d_of s) i)

pub least_of_row : (C : ℕ → ℕ → ℤ) (s : ShiftValue) (i : ℕ) (o x d : ℤ) → o ≡ others s.assets (rest C s) i → x ≡ rest C s i i → d_of s i ≡ pos 0 → IsLeastStep (o -ℤ x) d → IsLeastAt s.assets C (r_of s) i d
least_of_row C s i o x d p q z h = least_from_step s.assets C (r_of s) i d (step_of (o -ℤ x) (others s.assets (remainder s.assets (pos 1000000000000) C (r_of s)) i -ℤ (pos 1000000000000 *ℤ C i i -ℤ gram s.assets (r_of s) i i)) d (short_is o x (C i i) (gram s.assets (r_of s) i i) (others s.assets (remainder s.assets (pos 1000000000000) C (r_of s)) i) (d_of s i) (p ∙ others_without_diagonal s.assets (pos 1000000000000) C (r_of s) (d_of s) i) (q ∙ rest_on C s i) z) h)

moved_by : (C : ℕ → ℕ → ℤ) (n m : ℕ) (f g : List ℤ) (i : ℕ) (d : ℤ) → n ≡ m → f ≡ g → IsLeastAt n C (λ a b. lower n f a b) i d → IsLeastAt m C (λ a b. lower m g a b) i d
moved_by C n m f g i d p q h = rw p at (rw q at h)

-- the least diagonal hangs on R alone
pub least_moved : (C : ℕ → ℕ → ℤ) (s t : ShiftValue) (i : ℕ) (d : ℤ) → t.assets ≡ s.assets → t.factor ≡ s.factor → IsLeastAt t.assets C (r_of t) i d → IsLeastAt s.assets C (r_of s) i d
least_moved C s t i d p q h = moved_by C t.assets s.assets t.factor s.factor i d p q h

-- ---- row after row
least_at : (C : ℕ → ℕ → ℤ) (s : ShiftValue) (k : ℕ) (d e : ℤ) → d ≡ e → IsLeastAt s.assets C (r_of s) k d → IsLeastAt s.assets C (r_of s) k e
least_at C s k d e p h = rw p at h

set_by : (C : ℕ → ℕ → ℤ) (s t : ShiftValue) (i : ℕ) (v : ℤ) → i < length t.diagonal → IsLeastAt s.assets C (r_of s) i v → ((k : ℕ) → k < i → IsLeastAt s.assets C (r_of s) k (d_of t k)) → (k : ℕ) → k < i + 1 → (k ≡ i) ⊎ (k ≡ i → ⊥) → IsLeastAt s.assets C (r_of s) k (d_of (with_d t i v) k)
set_by C s t i v l here before k m (inl e) = rw e (least_at C s i v (d_of (with_d t i v) i) (sym (get_or-set_same t.diagonal i v (pos 0) l)) here)
set_by C s t i v l here before k m (inr n) = least_at C s k (d_of t k) (d_of (with_d t i v) k) (sym (get_or-set_other t.diagonal i k v (pos 0) n)) (before k (omega (arith, n)))

set_at : (C : ℕ → ℕ → ℤ) (s t : ShiftValue) (i : ℕ) (v : ℤ) → length s.diagonal ≡ s.assets → i < s.assets → AreSet C s t i → IsLeastAt s.assets C (r_of s) i v → AreSet C s (with_d t i v) (i + 1)
set_at C s t i v size l h here = let z = h.size in record {
  assets = h.assets;
  factor = h.factor;
  size = length-set t.diagonal i v ∙ h.size;
  least = λ k m. set_by C s t i v (omega arith) here h.least k m (cases_eq k i);
  none = λ k m. get_or-set_other t.diagonal i k v (pos 0) (λ e. omega arith) ∙ h.none k (omega arith);
}

pub set_step : (C : ℕ → ℕ → ℤ) (s t u : ShiftValue) (i : ℕ) (v : ℤ) → length s.diagonal ≡ s.assets → i < s.assets → AreSet C s t i → IsLeastAt t.assets C (r_of t) i v → u ≡ with_d t i v → AreSet C s u (i + 1)
set_step C s t u i v size l h here e = rw e (set_at C s t i v size l h (least_moved C s t i v h.assets h.factor here))

difference_small : (o x : ℤ) → unsigned_abs o ≤ 321792000000000000000000000000000000 → unsigned_abs x ≤ 1257000000000000000000000000000000 → unsigned_abs (o -ℤ x) ≤ 323049000000000000000000000000000000
difference_small o x h k = omega (arith, ints)

pub difference_fits : (o x : ℤ) → unsigned_abs o ≤ 321792000000000000000000000000000000 → unsigned_abs x ≤ 1257000000000000000000000000000000 → FitsSigned w128 (o -ℤ x)
difference_fits o x h k = let d = difference_small o x h k in fits_signed_from_abs w128 (o -ℤ x) (omega arith)

pub ruleset max_steps = (int_max_is, ints)
