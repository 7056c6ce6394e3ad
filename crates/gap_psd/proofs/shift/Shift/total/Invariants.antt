use Rattle.std.proofs.Common.{◌≡◌, ℕ, ◌*◌, ◌≤◌, unsigned_abs}
use Rattle.gap_base.specs.Sums.{sum_below}
use Rattle.gap_psd.specs.Shifts.{d_of}
use Rattle.gap_psd.proofs.shift.Shift.total.Given as goal

abbrev pub invariant-loop-i : goal.invariant-loop-i
invariant-loop-i l = record {
  sum_so_far : l.sum ≡ sum_below l.i (d_of l.self);
  small : unsigned_abs l.sum ≤ l.i * 1000000000000000000000;
}
