-- The first of many numbers that passes.
use Rattle.std.proofs.Common.{◌≡◌, ℕ, zero, suc, ◌+◌, ◌-◌, ◌<◌, Bool, true, false, Some, refl, sym, arith}
use Rattle.gap_orlib.specs.Ports.{first_from}

-- where the number at hand passes, it is the first
pub first_here : (left at : ℕ) (p : ℕ → Bool) → 0 < left → p at ≡ true → first_from left at p ≡ Some at
first_here zero at p h e = absurd (omega arith)
first_here (suc left) at p h e = rw e refl

-- where it doesn't, the first is behind it
pub first_behind : (left at : ℕ) (p : ℕ → Bool) → 0 < left → p at ≡ false → first_from left at p ≡ first_from (left - 1) (at + 1) p
first_behind zero at p h e = absurd (omega arith)
first_behind (suc left) at p h e = let less : suc left - 1 ≡ left = omega arith in rw (e, less) refl

-- one number on, of `all`
pub first_next : (all at : ℕ) (p : ℕ → Bool) → at < all → p at ≡ false → first_from (all - (at + 1)) (at + 1) p ≡ first_from (all - at) at p
first_next all at p h e =
    let some : 0 < all - at = omega arith in
    let less : all - (at + 1) ≡ all - at - 1 = omega arith in
    rw less (sym (first_behind (all - at) at p some e))
