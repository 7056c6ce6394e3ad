-- What std's whole square root is, as code reads it.
use Rattle.std.proofs.Common.{◌≡◌, ℕ, zero, suc, ◌+◌, ◌*◌, ◌<◌, ◌≤◌, ℤ, pos, ◌<ℤ◌, ◌⊎◌, inl, inr, sym, ap, ◌∙◌, FitsSigned, to_z, of_z, unsigned_abs, arith, mul-le-mul}
use Rattle.std.proofs.lemmas.Int.{ints, to_z-of_z, fits_signed_from_abs}
use Rattle.std.proofs.lemmas.Bool.{cases_lt}
use Rattle.std.specs.Int.{w64, w128, IsIsqrt}
use Rattle.gap_psd.specs.Factors.{whole_root}
use Rattle.gap_factor.proofs.FactorLaws.{whole_root_is}

root_small_by : (n d b : ℕ) → n * n ≤ d → d < b * b → (n < b) ⊎ (b ≤ n) → n < b
root_small_by n d b h k (inl l) = l
root_small_by n d b h k (inr l) = let q : b * b ≤ n * n = mul-le-mul l l in absurd (omega arith)

root_small : (n d b : ℕ) → n * n ≤ d → d < b * b → n < b
root_small n d b h k = root_small_by n d b h k (cases_lt n b)

root_positive : (n d : ℕ) → 0 < d → d < (n + 1) * (n + 1) → 0 < n
root_positive zero d h k = absurd (omega arith)
root_positive (suc m) d h k = omega arith

small_fits : (n : ℕ) → n < 100000000000000000 → FitsSigned w64 (pos n)
small_fits n h = fits_signed_from_abs w64 (pos n) (omega arith)

wide_fits : (n : ℕ) → n < 100000000000000000 → FitsSigned w128 (pos n)
wide_fits n h = fits_signed_from_abs w128 (pos n) (omega arith)

back : (n : ℕ) → n < 100000000000000000 → to_z w64 (of_z w64 (to_z w128 (of_z w128 (pos n)))) ≡ pos n
back n h = rw (to_z-of_z w128 (pos n) (wide_fits n h)) (to_z-of_z w64 (pos n) (small_fits n h))

-- the root of a bounded number, written and read again
pub root_is : (z r : ℤ) → unsigned_abs z ≤ 257000000000000000000000000000000 → IsIsqrt z r → to_z w64 (of_z w64 (to_z w128 (of_z w128 r))) ≡ pos (whole_root (unsigned_abs z))
root_is z r h e = let s : e.0 < 100000000000000000 = root_small e.0 (unsigned_abs z) 100000000000000000 e.2 (omega arith) in rw e.1 (back e.0 s ∙ ap pos (sym (whole_root_is (unsigned_abs z) e.0 e.2 e.3)))

size_positive : (z : ℤ) → pos 0 <ℤ z → 0 < unsigned_abs z
size_positive z h = omega (arith, ints)

above_zero : (n : ℕ) → 0 < n → pos 0 <ℤ pos n
above_zero n h = omega (arith, ints)

pub root_above : (z r : ℤ) → pos 0 <ℤ z → unsigned_abs z ≤ 257000000000000000000000000000000 → IsIsqrt z r → pos 0 <ℤ to_z w64 (of_z w64 (to_z w128 (of_z w128 r)))
root_above z r p h e = let s : e.0 < 100000000000000000 = root_small e.0 (unsigned_abs z) 100000000000000000 e.2 (omega arith) in rw e.1 (rw (back e.0 s) (above_zero e.0 (root_positive e.0 (unsigned_abs z) (size_positive z p) e.3)))
