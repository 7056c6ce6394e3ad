use Rattle.std.proofs.Common.{◌≡◌, ℕ, ◌<◌, length, pos, ◌*ℤ◌}
use Rattle.gap_base.specs.Sums.{at}
use Rattle.gap_base.specs.Lots.{lots_at}
use Rattle.gap_tangent.specs.Terms.{gradient_of}
use Rattle.gap_tangent.proofs.slopes.slopes_of.Given as goal

abbrev pub invariant-loop-i : goal.invariant-loop-i
invariant-loop-i l = record {
  size : length l.slopes ≡ 256;
  done : (k : ℕ) → k < l.i → at l.slopes k ≡ pos 8 *ℤ gradient_of l.point.setting (lots_at l.point.eighths) k;
}
