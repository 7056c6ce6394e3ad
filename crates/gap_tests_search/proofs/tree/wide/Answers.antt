use Rattle.std.proofs.Common.{ℕ, zero, suc, ◌<◌, ◌≤◌, length, replicate, slice_index_or, sym, subst, arith}
use Rattle.gap_box.specs.Parts.{AreLimits}
use Rattle.gap_tests_search.proofs.tree.wide.Goals as goal

filled_least : (n v k : ℕ) → 1 ≤ v → k < length (replicate n v) → 1 ≤ slice_index_or (replicate n v) k 0
filled_least zero v k h l = omega arith
filled_least (suc n) v zero h l = h
filled_least (suc n) v (suc k) h l = filled_least n v k h (omega arith)

filled_most : (n v k : ℕ) → v ≤ 10000 → slice_index_or (replicate n v) k 0 ≤ 10000
filled_most zero v k h = omega arith
filled_most (suc n) v zero h = h
filled_most (suc n) v (suc k) h = filled_most n v k h

filled_limits : (n v : ℕ) → 1 ≤ v → v ≤ 10000 → AreLimits (replicate n v)
filled_limits n v least most = record { least = λ k l. filled_least n v k least l; most = λ k. filled_most n v k most }

pub root-requires-clause-least : goal.root-requires-clause-least
root-requires-clause-least c = subst AreLimits (sym c.filled-least.ensures) (filled_limits 200 1 (omega arith) (omega arith))

pub root-requires-clause-greatest : goal.root-requires-clause-greatest
root-requires-clause-greatest c = subst AreLimits (sym c.filled-greatest.ensures) (filled_limits 200 10000 (omega arith) (omega arith))
