use Rattle.std.proofs.Common.{◌≡◌, ℕ, ltb, slice_index_or, neg_ℤ}
use Rattle.gap_witness.specs.Places.{first_greatest}
use Rattle.gap_witness.specs.Points.{lower_end, upper_end, gradient}
use Rattle.gap_witness.specs.Frames.{setting_in, choice_in}
use Rattle.gap_witness.proofs.pairs.pair_of.Given as goal

abbrev pub invariant-loop-i : goal.invariant-loop-i
invariant-loop-i l = record {
  gives : l.giver ≡ first_greatest l.i (λ i. ltb (lower_end (choice_in l.frame) i) (slice_index_or l.point.eighths i 0)) (gradient (setting_in l.frame) (choice_in l.frame) l.point.eighths);
  takes : l.taker ≡ first_greatest l.i (λ i. ltb (slice_index_or l.point.eighths i 0) (upper_end (choice_in l.frame) i)) (λ j. neg_ℤ (gradient (setting_in l.frame) (choice_in l.frame) l.point.eighths j));
}
