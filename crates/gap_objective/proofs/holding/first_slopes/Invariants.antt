use Rattle.std.proofs.Common.{◌≡◌, ℕ, ◌<◌, length, replicate}
use Rattle.gap_base.specs.Sums.{at}
use Rattle.gap_objective.specs.Slopes.{slope_of}
use Rattle.gap_objective.proofs.holding.first_slopes.Given as goal

abbrev pub invariant-loop-i : goal.invariant-loop-i
invariant-loop-i l = record {
  slopes : (k : ℕ) → k < l.i → at l.slopes k ≡ slope_of l.inst l.p l.q (replicate l.inst.market.assets 0) k;
  room : length l.slopes ≡ 256;
}
