use Rattle.std.proofs.Common.{◌≡◌, ℕ, ◌<◌, ◌*◌, length, slice_index_or}
use Rattle.gap_base.proofs.eighths.Eighths.of.Given as goal

abbrev pub invariant-loop-i : goal.invariant-loop-i
invariant-loop-i l = record {
  same_length : length l.y ≡ length l.x;
  done : (k : ℕ) → k < l.i → slice_index_or l.y k 0 ≡ 8 * slice_index_or l.x k 0;
}
