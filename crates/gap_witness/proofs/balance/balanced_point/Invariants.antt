use Rattle.std.proofs.Common.{◌≡◌, ℕ, ◌-◌, ◌*◌, ◌≤◌, length, take, sum, slice_index_or}
use Rattle.gap_witness.specs.Places.{table}
use Rattle.gap_witness.specs.Points.{balanced, clamped, left_after, lower_end, upper_end}
use Rattle.gap_witness.specs.Frames.{setting_in, choice_in}
use Rattle.gap_witness.proofs.balance.balanced_point.Given as goal

abbrev pub invariant-loop-i : goal.invariant-loop-i
invariant-loop-i l = record {
  most : (k : ℕ) → slice_index_or l.y k 0 ≤ 80000;
  count : length l.y ≡ length l.frame.part.now;
  made : take l.i l.y ≡ table l.i (balanced (choice_in l.frame) (8 * (setting_in l.frame).instance.lots) (clamped (choice_in l.frame) l.hint));
  missing_is : l.missing ≡ left_after (8 * (setting_in l.frame).instance.lots - sum (table (length l.frame.part.now) (clamped (choice_in l.frame) l.hint))) (λ k. upper_end (choice_in l.frame) k - clamped (choice_in l.frame) l.hint k) l.i;
  surplus_is : l.surplus ≡ left_after (sum (table (length l.frame.part.now) (clamped (choice_in l.frame) l.hint)) - 8 * (setting_in l.frame).instance.lots) (λ k. clamped (choice_in l.frame) l.hint k - lower_end (choice_in l.frame) k) l.i;
}
