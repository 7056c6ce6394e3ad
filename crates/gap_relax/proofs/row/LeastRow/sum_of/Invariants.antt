use Rattle.std.proofs.Common.{◌≡◌, ◌+◌, ◌*◌, ◌≤◌, ◌+ℤ◌, unsigned_abs}
use Rattle.gap_base.specs.Sums.{sum_below}
use Rattle.gap_relax.specs.Rows.{difference_at, slope_at}
use Rattle.gap_relax.proofs.row.LeastRow.sum_of.Given as goal

abbrev pub invariant-loop-k : goal.invariant-loop-k
invariant-loop-k l = record {
  value : l.value ≡ l.self.value +ℤ sum_below l.k (difference_at l.self.extras);
  slope : l.slope ≡ l.self.slope +ℤ sum_below l.k (slope_at l.self.extras);
  value_small : unsigned_abs l.value ≤ 256 * 30000000000000000000000000000000000 + l.k * 60000000000000000000000000000000000;
  slope_small : unsigned_abs l.slope ≤ 256 * 20000 + l.k * 40000;
}
