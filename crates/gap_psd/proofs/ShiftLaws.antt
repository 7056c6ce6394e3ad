-- The laws of shifts: a dominant one makes the table semidefinite; what code sums up is what the definitions say.
use Rattle.std.proofs.Common.{◌≡◌, ℕ, zero, suc, ◌+◌, ◌-◌, ◌*◌, ◌<◌, ◌≤◌, ◌==◌, nat_le, if◌then◌else◌, List, length, ℤ, pos, negsuc, ◌+ℤ◌, ◌-ℤ◌, ◌*ℤ◌, neg_ℤ, ◌≤ℤ◌, ◌<ℤ◌, ◌⊎◌, inl, inr, refl, sym, ap, ◌∙◌, arith}
use Rattle.std.proofs.Math.IntN.{*ℤ_comm, zero-*ℤ, *ℤ-zero}
use Rattle.std.proofs.lemmas.Int.{ints}
use Rattle.std.proofs.lemmas.Bool.{cases_eq}
use Rattle.std.proofs.lemmas.Bool.Decides.{nat_tests}
use Rattle.gap_base.specs.Sums.{sum_below, at, abs_z, lower, entry}
use Rattle.gap_base.proofs.Ring.{linear, if_same, if_other}
use Rattle.gap_base.proofs.SumLaws.{sum_same, sum_cut}
use Rattle.gap_psd.specs.Forms.{form, gram, others, remainder, IsSemi, IsSymmetric, IsDominant}
use Rattle.gap_psd.specs.Shifts.{ShiftValue, IsShift, r_of, d_of, with_diagonal, shifted, rest, IsDominantShift}
use Rattle.gap_psd.proofs.Semidefinite.{semi_from_factor}

with_diagonal_by : (C : ℕ → ℕ → ℤ) (D : ℕ → ℤ) (i j : ℕ) → C i j ≡ C j i → (j ≡ i) ⊎ (j ≡ i → ⊥) → with_diagonal C D i j ≡ with_diagonal C D j i
with_diagonal_by C D i j h (inl e) = let a = if_same j i (D i) (pos 0) e in let b = if_same i j (D j) (pos 0) (sym e) in let c : D i ≡ D j = ap D (sym e) in omega (arith, linear)
with_diagonal_by C D i j h (inr n) = let a = if_other j i (D i) (pos 0) n in let b = if_other i j (D j) (pos 0) (λ x. n (sym x)) in omega (arith, linear)

pub with_diagonal_symmetric : (n : ℕ) (C : ℕ → ℕ → ℤ) (D : ℕ → ℤ) → IsSymmetric n C → IsSymmetric n (with_diagonal C D)
with_diagonal_symmetric n C D h i j p q = with_diagonal_by C D i j (h i j p q) (cases_eq j i)

-- a dominant shift of a symmetric table makes it semidefinite
pub semi_everywhere_of_shift : (C : ℕ → ℕ → ℤ) (s : ShiftValue) → IsSymmetric s.assets C → IsDominantShift C s → (v : ℕ → ℤ) → pos 0 ≤ℤ form s.assets (shifted C s) v v
semi_everywhere_of_shift C s h d v = semi_from_factor s.assets (pos 1000000000000) (shifted C s) (r_of s) (omega (arith, ints)) (with_diagonal_symmetric s.assets C (d_of s) h) d v

pub semi_of_shift : (C : ℕ → ℕ → ℤ) (s : ShiftValue) → IsSymmetric s.assets C → IsDominantShift C s → IsSemi s.assets (shifted C s)
semi_of_shift C s h d v l = semi_everywhere_of_shift C s h d (at v)

-- D enters the diagonal alone
pub diagonal_entry : (C : ℕ → ℕ → ℤ) (D : ℕ → ℤ) (i : ℕ) → with_diagonal C D i i ≡ C i i +ℤ D i
diagonal_entry C D i = ap (λ x. C i i +ℤ x) (if_same i i (D i) (pos 0) refl)

pub off_entry : (C : ℕ → ℕ → ℤ) (D : ℕ → ℤ) (i j : ℕ) → (j ≡ i → ⊥) → with_diagonal C D i j ≡ C i j
off_entry C D i j n = let a = if_other j i (D i) (pos 0) n in omega (arith, linear)

off_by : (n : ℕ) (s : ℤ) (C R : ℕ → ℕ → ℤ) (D : ℕ → ℤ) (i j : ℕ) → (j ≡ i) ⊎ (j ≡ i → ⊥) → (if j == i then pos 0 else abs_z (remainder n s (with_diagonal C D) R i j)) ≡ (if j == i then pos 0 else abs_z (remainder n s C R i j))
off_by n s C R D i j (inl e) = if_same j i (pos 0) (abs_z (remainder n s (with_diagonal C D) R i j)) e ∙ sym (if_same j i (pos 0) (abs_z (remainder n s C R i j)) e)
off_by n s C R D i j (inr m) = if_other j i (pos 0) (abs_z (remainder n s (with_diagonal C D) R i j)) m ∙ ap (λ x. abs_z (s *ℤ x -ℤ gram n R i j)) (off_entry C D i j m) ∙ sym (if_other j i (pos 0) (abs_z (remainder n s C R i j)) m)

pub others_without_diagonal : (n : ℕ) (s : ℤ) (C R : ℕ → ℕ → ℤ) (D : ℕ → ℤ) (i : ℕ) → others n (remainder n s (with_diagonal C D) R) i ≡ others n (remainder n s C R) i
unfolding others
others_without_diagonal n s C R D i = sum_same n (λ j. if j == i then pos 0 else abs_z (remainder n s (with_diagonal C D) R i j)) (λ j. if j == i then pos 0 else abs_z (remainder n s C R i j)) (λ j l. off_by n s C R D i j (cases_eq j i))

-- above the diagonal R is 0
pub lower_above : (n : ℕ) (xs : List ℤ) (i k : ℕ) → i < k → lower n xs i k ≡ pos 0
lower_above n xs i k h = grind (arith, nat_tests)

pub lower_below : (n : ℕ) (xs : List ℤ) (i k : ℕ) → k ≤ i → lower n xs i k ≡ entry n xs i k
lower_below n xs i k h = grind (arith, nat_tests)

zero_left : (a b : ℤ) → a ≡ pos 0 → a *ℤ b ≡ pos 0
zero_left a b h = rw h (zero-*ℤ b)

zero_right : (a b : ℤ) → b ≡ pos 0 → a *ℤ b ≡ pos 0
zero_right a b h = rw h (*ℤ-zero a)

-- an entry of R R' from the places up to the lower of the two rows
pub gram_short_left : (s : ShiftValue) (i j : ℕ) → i < s.assets → gram s.assets (r_of s) i j ≡ sum_below (i + 1) (λ k. r_of s i k *ℤ r_of s j k)
unfolding gram
gram_short_left s i j l = sum_cut s.assets (i + 1) (λ k. r_of s i k *ℤ r_of s j k) (omega arith) (λ k m. zero_left (r_of s i k) (r_of s j k) (lower_above s.assets s.factor i k (omega arith)))

pub gram_short_right : (s : ShiftValue) (i j : ℕ) → j < s.assets → gram s.assets (r_of s) i j ≡ sum_below (j + 1) (λ k. r_of s i k *ℤ r_of s j k)
unfolding gram
gram_short_right s i j l = sum_cut s.assets (j + 1) (λ k. r_of s i k *ℤ r_of s j k) (omega arith) (λ k m. zero_right (r_of s i k) (r_of s j k) (lower_above s.assets s.factor j k (omega arith)))

pub ruleset gram_steps = (gram_short_left, gram_short_right)
