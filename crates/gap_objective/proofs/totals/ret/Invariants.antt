use Rattle.std.proofs.Common.{◌≡◌, ◌*◌, ◌≤◌, ◌*ℤ◌, unsigned_abs}
use Rattle.gap_base.specs.Lots.{lots_at}
use Rattle.gap_base.specs.Markets.{mean_of}
use Rattle.gap_base.specs.Sums.{sum_below}
use Rattle.gap_objective.proofs.totals.ret.Given as goal

abbrev pub invariant-loop-i : goal.invariant-loop-i
invariant-loop-i l = record {
  sum_so_far : l.sum ≡ sum_below l.i (λ i. mean_of l.inst.market i *ℤ lots_at l.x i);
  small : unsigned_abs l.sum ≤ l.i * 10000000000;
}
