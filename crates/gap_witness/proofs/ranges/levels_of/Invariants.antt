use Rattle.std.proofs.Common.{◌≡◌, ℕ, ◌<◌, ◌≤◌, length, unsigned_abs}
use Rattle.gap_base.specs.Sums.{at}
use Rattle.gap_witness.specs.Frames.{setting_in, choice_in, level}
use Rattle.gap_witness.proofs.ranges.levels_of.Given as goal

abbrev pub invariant-loop-i : goal.invariant-loop-i
invariant-loop-i l = record {
  count : length l.levels ≡ 256;
  value : (k : ℕ) → k < l.i → at l.levels k ≡ level (setting_in l.frame) (choice_in l.frame) k;
  small : (k : ℕ) → k < l.i → unsigned_abs (at l.levels k) ≤ 16000000000000000000000000000;
}
