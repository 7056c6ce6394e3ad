use Rattle.std.proofs.Common.{◌≡◌, ◌*◌, ◌≤◌, ◌*ℤ◌, unsigned_abs}
use Rattle.gap_base.specs.Lots.{lots_at}
use Rattle.gap_base.specs.Sums.{sum_below}
use Rattle.gap_instance.specs.Objective.{cov_of}
use Rattle.gap_objective.proofs.totals.row.Given as goal

abbrev pub invariant-loop-j : goal.invariant-loop-j
invariant-loop-j l = record {
  sum_so_far : l.sum ≡ sum_below l.j (λ j. cov_of l.inst.market l.i j *ℤ lots_at l.x j);
  small : unsigned_abs l.sum ≤ l.j * 10000000000000000000000;
}
