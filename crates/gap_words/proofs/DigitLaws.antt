-- The size of a number by its digits.
use Rattle.std.proofs.Common.{ℕ, zero, ◌<◌, ◌≤◌, ◌^◌, arith, lit<}
use Rattle.std.proofs.Math.Nat.{pow-le-pow_right}

-- a number of at most 17 digits
pub small_value : (value digits : ℕ) → value < 10 ^ digits → digits ≤ 17 → value < 100000000000000000
small_value value digits below few =
    let ten : zero < 10 = lit< tt in
    let most : 10 ^ digits ≤ 10 ^ 17 = pow-le-pow_right ten few in
    omega arith
