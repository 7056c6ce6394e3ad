-- What sums of machine numbers of bounded sizes are.

use Rattle.std.proofs.Common.{◌≡◌, ℕ, ◌*◌, ◌<◌, ◌≤◌, ◌^◌, ℤ, ◌+ℤ◌, ◌-ℤ◌, unsigned_abs, to_z, of_z, arith}
use Rattle.std.proofs.lemmas.Int.{ints}
use Rattle.std.specs.Int.{w128}
use Rattle.gap_base.proofs.Machine.{back_of}

-- a number less another and a third
pub difference_and : (a b c : ℤ) (m : ℕ) → unsigned_abs a ≤ m → unsigned_abs b ≤ m → unsigned_abs c ≤ m → 3 * m < 2 ^ 127 → to_z w128 (of_z w128 (to_z w128 (of_z w128 (to_z w128 (of_z w128 a) -ℤ to_z w128 (of_z w128 b))) +ℤ to_z w128 (of_z w128 c))) ≡ (a -ℤ b) +ℤ c
difference_and a b c m ha hb hc k =
    let ea = back_of a m ha (omega arith) in
    let eb = back_of b m hb (omega arith) in
    let ec = back_of c m hc (omega arith) in
    let ed = back_of (a -ℤ b) (2 * m) (omega (arith, ints)) (omega arith) in
    let ee = back_of ((a -ℤ b) +ℤ c) (3 * m) (omega (arith, ints)) k in
    rw ea (rw eb (rw ec (rw ed ee)))

-- the sum of two numbers
pub sum_back : (a b : ℤ) (m : ℕ) → unsigned_abs a ≤ m → unsigned_abs b ≤ m → 2 * m < 2 ^ 127 → to_z w128 (of_z w128 (to_z w128 (of_z w128 a) +ℤ to_z w128 (of_z w128 b))) ≡ a +ℤ b
sum_back a b m ha hb k =
    let ea = back_of a m ha (omega arith) in
    let eb = back_of b m hb (omega arith) in
    let es = back_of (a +ℤ b) (2 * m) (omega (arith, ints)) k in
    rw ea (rw eb es)

-- the difference of two numbers
pub difference_back : (a b : ℤ) (m : ℕ) → unsigned_abs a ≤ m → unsigned_abs b ≤ m → 2 * m < 2 ^ 127 → to_z w128 (of_z w128 (to_z w128 (of_z w128 a) -ℤ to_z w128 (of_z w128 b))) ≡ a -ℤ b
difference_back a b m ha hb k =
    let ea = back_of a m ha (omega arith) in
    let eb = back_of b m hb (omega arith) in
    let es = back_of (a -ℤ b) (2 * m) (omega (arith, ints)) k in
    rw ea (rw eb es)

-- the sum of three numbers
pub sum_three : (a b c : ℤ) (m : ℕ) → unsigned_abs a ≤ m → unsigned_abs b ≤ m → unsigned_abs c ≤ m → 3 * m < 2 ^ 127 → to_z w128 (of_z w128 (to_z w128 (of_z w128 (to_z w128 (of_z w128 a) +ℤ to_z w128 (of_z w128 b))) +ℤ to_z w128 (of_z w128 c))) ≡ (a +ℤ b) +ℤ c
sum_three a b c m ha hb hc k =
    let ea = back_of a m ha (omega arith) in
    let eb = back_of b m hb (omega arith) in
    let ec = back_of c m hc (omega arith) in
    let ed = back_of (a +ℤ b) (2 * m) (omega (arith, ints)) (omega arith) in
    let ee = back_of ((a +ℤ b) +ℤ c) (3 * m) (omega (arith, ints)) k in
    rw ea (rw eb (rw ec (rw ed ee)))
