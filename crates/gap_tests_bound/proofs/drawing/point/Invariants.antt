use Rattle.std.proofs.Common.{◌≡◌, ℕ, ◌≤◌, length, slice_index_or}
use Rattle.gap_tests_bound.proofs.drawing.point.Given as goal

abbrev pub invariant-loop-i : goal.invariant-loop-i
invariant-loop-i l = record {
  count : length l.y ≡ l.n;
  each : (k : ℕ) → slice_index_or l.y k 0 ≤ 8;
}
