use Rattle.std.proofs.Common.{◌≡◌, ℕ, ◌<◌, length}
use Rattle.gap_base.specs.Sums.{at}
use Rattle.gap_base.specs.Lots.{lots_at}
use Rattle.gap_tangent.specs.Seen.{setting_of}
use Rattle.gap_tangent.specs.Terms.{gradient_of}
use Rattle.gap_tangent.proofs.gradients.gradients_of.Given as goal

abbrev pub invariant-loop-i : goal.invariant-loop-i
invariant-loop-i l = record {
  size : length l.gradients ≡ 256;
  done : (k : ℕ) → k < l.i → at l.gradients k ≡ gradient_of (setting_of l.mv) (lots_at l.y) k;
}
