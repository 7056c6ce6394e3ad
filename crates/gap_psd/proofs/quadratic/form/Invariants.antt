use Rattle.std.proofs.Common.{◌≡◌, ℕ, ◌*◌, ◌≤◌, ◌*ℤ◌, unsigned_abs}
use Rattle.gap_base.specs.Sums.{sum_below, at}
use Rattle.gap_instance.specs.Objective.{cov_of}
use Rattle.gap_psd.specs.Shifts.{shifted}
use Rattle.gap_psd.proofs.quadratic.form.Given as goal

abbrev pub invariant-loop-i : goal.invariant-loop-i
invariant-loop-i l = record {
  sum_so_far : l.total ≡ sum_below l.i (λ i. sum_below l.shift.assets (λ j. shifted (cov_of l.inst.market) l.shift i j *ℤ at l.v j) *ℤ at l.v i);
  small : unsigned_abs l.total ≤ l.i * 1640038400000000000000000000000000;
}
