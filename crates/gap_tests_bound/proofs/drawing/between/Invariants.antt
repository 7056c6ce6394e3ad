use Rattle.std.proofs.Common.{◌≡◌, ℕ, ◌<◌, ◌≤◌, length, slice_index_or}
use Rattle.gap_tests_bound.proofs.drawing.between.Given as goal

abbrev pub invariant-loop-i : goal.invariant-loop-i
invariant-loop-i l = record {
  count : length l.list ≡ l.n;
  least : (k : ℕ) → k < l.i → l.low ≤ slice_index_or l.list k 0;
  most : (k : ℕ) → k < l.i → slice_index_or l.list k 0 ≤ l.high;
}
