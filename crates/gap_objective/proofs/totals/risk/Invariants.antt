use Rattle.std.proofs.Common.{◌≡◌, ◌*◌, ◌≤◌, ◌*ℤ◌, unsigned_abs}
use Rattle.gap_base.specs.Lots.{lots_at}
use Rattle.gap_base.specs.Sums.{sum_below}
use Rattle.gap_objective.specs.Slopes.{row_of}
use Rattle.gap_objective.proofs.totals.risk.Given as goal

abbrev pub invariant-loop-i : goal.invariant-loop-i
invariant-loop-i l = record {
  sum_so_far : l.sum ≡ sum_below l.i (λ i. row_of l.inst.market l.x i *ℤ lots_at l.x i);
  small : unsigned_abs l.sum ≤ l.i * 25600000000000000000000000000;
}
