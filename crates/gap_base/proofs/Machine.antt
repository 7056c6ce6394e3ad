-- Signed machine numbers: `to_z w (of_z w z)`, the value that was put into bits and read again, is z where z fits; and the sizes of sums and products.
use Rattle.std.proofs.Common.{◌≡◌, ℕ, ◌+◌, ◌*◌, ◌<◌, ◌≤◌, ◌^◌, ℤ, ◌+ℤ◌, ◌*ℤ◌, neg_ℤ, unsigned_abs, FitsSigned, arith, to_z, of_z, add-mul}
use Rattle.std.proofs.lemmas.Int.{ints, to_z-of_z, unsigned_abs-mul, fits_signed_from_abs, fits_signed_mul}
use Rattle.std.specs.Int.{w128}
use native.Mathlib.Nat.{mul-le-mul}
use Rattle.gap_base.specs.Sums.{sum_below}
use Rattle.gap_base.proofs.SumLaws.{sum_more}

-- a number of a size below half the type's range comes back from its bits as it was
pub fits_of : (z : ℤ) (m : ℕ) → unsigned_abs z ≤ m → m < 2 ^ 127 → FitsSigned w128 z
fits_of z m h k = fits_signed_from_abs w128 z (omega arith)

pub back_of : (z : ℤ) (m : ℕ) → unsigned_abs z ≤ m → m < 2 ^ 127 → to_z w128 (of_z w128 z) ≡ z
back_of z m h k = to_z-of_z w128 z (fits_of z m h k)

pub unsigned_abs-+ℤ : (a b : ℤ) → unsigned_abs (a +ℤ b) ≤ unsigned_abs a + unsigned_abs b
unsigned_abs-+ℤ a b = omega (arith, ints)

pub unsigned_abs-neg : (a : ℤ) → unsigned_abs (neg_ℤ a) ≡ unsigned_abs a
unsigned_abs-neg a = omega (arith, ints)

pub unsigned_abs-product_le : (a b : ℤ) (m n : ℕ) → unsigned_abs a ≤ m → unsigned_abs b ≤ n → unsigned_abs (a *ℤ b) ≤ m * n
unsigned_abs-product_le a b m n h k = rw (unsigned_abs-mul a b) (mul-le-mul h k)

-- a product of machine numbers of bounded sizes
pub mul_is : (a b : ℤ) (m n : ℕ) → FitsSigned w128 a → FitsSigned w128 b → unsigned_abs a ≤ m → unsigned_abs b ≤ n → m * n < 2 ^ 127 → to_z w128 (of_z w128 (to_z w128 (of_z w128 a) *ℤ to_z w128 (of_z w128 b))) ≡ a *ℤ b
mul_is a b m n fa fb h k l = let f = fits_signed_mul w128 a b m n h k l in rw (to_z-of_z w128 a fa) (rw (to_z-of_z w128 b fb) (to_z-of_z w128 (a *ℤ b) f))

pub mul_le : (a b : ℤ) (m n : ℕ) → FitsSigned w128 a → FitsSigned w128 b → unsigned_abs a ≤ m → unsigned_abs b ≤ n → m * n < 2 ^ 127 → unsigned_abs (to_z w128 (of_z w128 (to_z w128 (of_z w128 a) *ℤ to_z w128 (of_z w128 b)))) ≤ m * n
mul_le a b m n fa fb h k l = rw (mul_is a b m n fa fb h k l) (unsigned_abs-product_le a b m n h k)

-- the step of a loop that adds the terms of a sum
pub add_step : (n : ℕ) (f : ℕ → ℤ) (sum term : ℤ) → sum ≡ sum_below n f → term ≡ f n → sum +ℤ term ≡ sum_below (n + 1) f
add_step n f sum term h k = let m = sum_more n f in omega (arith, ints)

-- the same where the new sum went through bits
pub add_step_back : (n : ℕ) (f : ℕ → ℤ) (sum term : ℤ) → FitsSigned w128 (sum +ℤ term) → sum ≡ sum_below n f → term ≡ f n → to_z w128 (of_z w128 (sum +ℤ term)) ≡ sum_below (n + 1) f
add_step_back n f sum term fits h k = rw (to_z-of_z w128 (sum +ℤ term) fits) (add_step n f sum term h k)

-- the size of a sum after one more term
pub passed_two : (n b : ℕ) (sum term : ℤ) → unsigned_abs sum ≤ n * b → unsigned_abs term ≤ b → unsigned_abs (sum +ℤ term) ≤ (n + 1) * b
passed_two n b sum term h k = let e = unsigned_abs-+ℤ sum term in omega (arith, add-mul n 1 b)
