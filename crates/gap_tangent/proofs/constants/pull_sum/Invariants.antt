use Rattle.std.proofs.Common.{◌≡◌, ◌*◌, ◌≤◌, pos, ◌+ℤ◌, ◌*ℤ◌, unsigned_abs}
use Rattle.gap_base.specs.Sums.{sum_below}
use Rattle.gap_base.specs.Lots.{lots_at}
use Rattle.gap_model.specs.Lagrangian.{reward_of}
use Rattle.gap_tangent.specs.Seen.{setting_of}
use Rattle.gap_tangent.specs.Terms.{gradient_of}
use Rattle.gap_tangent.proofs.constants.pull_sum.Given as goal

abbrev pub invariant-loop-i : goal.invariant-loop-i
invariant-loop-i l = record {
  sum_so_far : l.sum ≡ sum_below l.i (λ i. (gradient_of (setting_of l.mv) (lots_at l.y) i +ℤ pos 8 *ℤ reward_of (setting_of l.mv) i) *ℤ lots_at l.y i);
  small : unsigned_abs l.sum ≤ l.i * 1300640000000000000000000000000000;
}
