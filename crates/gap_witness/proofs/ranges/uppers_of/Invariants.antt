use Rattle.std.proofs.Common.{◌≡◌, ℕ, ◌<◌, length, slice_index_or}
use Rattle.gap_witness.specs.Points.{upper_end}
use Rattle.gap_witness.specs.Frames.{choice_in}
use Rattle.gap_witness.proofs.ranges.uppers_of.Given as goal

abbrev pub invariant-loop-i : goal.invariant-loop-i
invariant-loop-i l = record {
  count : length l.uppers ≡ 256;
  value : (k : ℕ) → k < l.i → slice_index_or l.uppers k 0 ≡ upper_end (choice_in l.frame) k;
}
