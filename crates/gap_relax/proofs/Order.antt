-- What the tests of order of whole numbers tell.

use Rattle.std.proofs.Common.{◌≡◌, Bool, true, false, cond, ℤ, ◌≤ℤ◌, ◌<ℤ◌, int_lt, refl, arith, ◌⊎◌, inl, inr, Less, Equal, Greater}
use Rattle.std.proofs.lemmas.Int.{ints}
use Rattle.std.specs.Ordering.{int_cmp, is_lt}

pub lt_true : (a b : ℤ) → int_lt a b ≡ true → a <ℤ b
lt_true a b e = grind (arith, ints)

pub lt_false : (a b : ℤ) → int_lt a b ≡ false → b ≤ℤ a
lt_false a b e = grind (arith, ints)

-- the test, with what it tells
pub lt_tells : (a b : ℤ) → ((int_lt a b ≡ true) × (a <ℤ b)) ⊎ ((int_lt a b ≡ false) × (b ≤ℤ a))
lt_tells a b = by_test (int_lt a b) refl where
  by_test : (t : Bool) → int_lt a b ≡ t → ((int_lt a b ≡ true) × (a <ℤ b)) ⊎ ((int_lt a b ≡ false) × (b ≤ℤ a))
  by_test true e = inl (e, lt_true a b e)
  by_test false e = inr (e, lt_false a b e)

pub lt_is : (a b : ℤ) → a <ℤ b → int_lt a b ≡ true
lt_is a b h = elim (lt_tells a b) [ inl p ↦ p.0 | inr p ↦ let q = p.1 in absurd (omega (arith, ints)) ]

pub lt_not : (a b : ℤ) → b ≤ℤ a → int_lt a b ≡ false
lt_not a b h = elim (lt_tells a b) [ inl p ↦ let q = p.1 in absurd (omega (arith, ints)) | inr p ↦ p.0 ]

pub cmp_lt : (x y : ℤ) → is_lt (int_cmp x y) ≡ int_lt x y
cmp_lt x y = by_tests (int_lt x y) (int_lt y x) where
  by_tests : (s t : Bool) → is_lt (cond s Less (cond t Greater Equal)) ≡ s
  by_tests true t = refl
  by_tests false true = refl
  by_tests false false = refl
