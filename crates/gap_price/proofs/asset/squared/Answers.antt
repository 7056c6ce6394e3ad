use Rattle.std.proofs.Common.{◌*◌, ◌≤◌, ℕ, arith}
use native.Mathlib.Nat.{mul-le-mul}
use Rattle.gap_price.proofs.asset.squared.Goals as goal

few : (a b : ℕ) → a ≤ 10000 → b ≤ 10000 → a * b ≤ 10000 * 10000
few a b h k = mul-le-mul h k

pub overflow_mul-result : goal.overflow_mul-result
overflow_mul-result c = let a = few c.from.result c.from-2.result (omega arith) (omega arith) in omega arith

pub returns-clause-small : goal.returns-clause-small
returns-clause-small c = let a = few c.from.result c.from-2.result (omega arith) (omega arith) in omega arith
