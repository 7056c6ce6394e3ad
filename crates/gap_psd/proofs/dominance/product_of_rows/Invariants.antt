use Rattle.std.proofs.Common.{◌≡◌, ℕ, ◌*◌, ◌≤◌, ◌*ℤ◌, unsigned_abs}
use Rattle.gap_base.specs.Sums.{sum_below}
use Rattle.gap_psd.specs.Shifts.{r_of}
use Rattle.gap_psd.proofs.dominance.product_of_rows.Given as goal

abbrev pub invariant-loop-k : goal.invariant-loop-k
invariant-loop-k l = record {
  sum_so_far : l.sum ≡ sum_below l.k (λ k. r_of l.shift l.i k *ℤ r_of l.shift l.j k);
  small : unsigned_abs l.sum ≤ l.k * 1000000000000000000000000000000;
}
