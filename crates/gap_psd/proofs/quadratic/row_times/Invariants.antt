use Rattle.std.proofs.Common.{◌≡◌, ℕ, ◌*◌, ◌≤◌, ◌*ℤ◌, unsigned_abs}
use Rattle.gap_base.specs.Sums.{sum_below, at}
use Rattle.gap_instance.specs.Objective.{cov_of}
use Rattle.gap_psd.specs.Shifts.{shifted}
use Rattle.gap_psd.proofs.quadratic.row_times.Given as goal

abbrev pub invariant-loop-j : goal.invariant-loop-j
invariant-loop-j l = record {
  sum_so_far : l.sum ≡ sum_below l.j (λ j. shifted (cov_of l.inst.market) l.shift l.i j *ℤ at l.v j);
  small : unsigned_abs l.sum ≤ l.j * 80080000000000000000000000;
}
