use Rattle.std.proofs.Common.{◌≡◌, ℕ, ◌<◌, length, slice_index_or}
use Rattle.gap_witness.specs.Points.{lower_end}
use Rattle.gap_witness.specs.Frames.{choice_in}
use Rattle.gap_witness.proofs.ranges.lowers_of.Given as goal

abbrev pub invariant-loop-i : goal.invariant-loop-i
invariant-loop-i l = record {
  count : length l.lowers ≡ 256;
  value : (k : ℕ) → k < l.i → slice_index_or l.lowers k 0 ≡ lower_end (choice_in l.frame) k;
}
