use Rattle.std.proofs.Common.{◌≡◌, ◌-◌, ◌*◌, ◌≤◌, unsigned_abs}
use Rattle.gap_base.specs.Sums.{count_if, at}
use Rattle.gap_relax.specs.Choices.{total}
use Rattle.gap_relax.specs.Differences.{is_tied, way}
use Rattle.gap_relax.proofs.ways.sums_by.Given as goal

abbrev pub invariant-loop-i : goal.invariant-loop-i
invariant-loop-i l = record {
  value : l.value ≡ total l.i (at l.held_cost) (at l.out_cost) (way l.part l.held_cost l.out_cost l.price l.ties);
  slope : l.slope ≡ total l.i (at l.held_slope) (at l.out_slope) (way l.part l.held_cost l.out_cost l.price l.ties);
  left : l.left ≡ l.ties - count_if l.i (is_tied l.part l.held_cost l.out_cost l.price);
  value_small : unsigned_abs l.value ≤ l.i * 30000000000000000000000000000000000;
  slope_small : unsigned_abs l.slope ≤ l.i * 20000;
}
