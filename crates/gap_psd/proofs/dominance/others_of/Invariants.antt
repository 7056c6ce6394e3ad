use Rattle.std.proofs.Common.{◌≡◌, ◌==◌, if◌then◌else◌, ℕ, ◌*◌, ◌≤◌, pos, unsigned_abs}
use Rattle.gap_base.specs.Sums.{sum_below, abs_z}
use Rattle.gap_instance.specs.Objective.{cov_of}
use Rattle.gap_psd.specs.Shifts.{rest}
use Rattle.gap_psd.proofs.dominance.others_of.Given as goal

abbrev pub invariant-loop-j : goal.invariant-loop-j
invariant-loop-j l = record {
  sum_so_far : l.sum ≡ sum_below l.j (λ j. if j == l.i then pos 0 else abs_z (rest (cov_of l.inst.market) l.shift l.i j));
  small : unsigned_abs l.sum ≤ l.j * 1257000000000000000000000000000000;
}
