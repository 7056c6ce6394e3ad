use Rattle.std.proofs.Common.{ℕ, ◌*◌, ◌≤◌, arith}
use native.Mathlib.Nat.{mul-le-mul}
use Rattle.gap_tangent.proofs.gradients.reward_scale.Goals as goal

few : (a b : ℕ) → a ≤ 100 → b ≤ 10000 → (a * 1000000000000) * b ≤ 100000000000000 * 10000
few a b h k = let m : a * 1000000000000 ≤ 100000000000000 = omega arith in mul-le-mul m k

pub overflow_mul-result : goal.overflow_mul-result
overflow_mul-result c = omega arith

pub returns-clause-small : goal.returns-clause-small
returns-clause-small c = let a = few c.from.result c.from-2.result (omega arith) (omega arith) in omega arith
