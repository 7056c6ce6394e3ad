use Rattle.std.proofs.Common.{◌≡◌, ◌*◌, ◌≤◌, pos, if◌then◌else◌}
use Rattle.gap_base.specs.Lots.{lots_at}
use Rattle.gap_base.specs.Sums.{sum_below}
use Rattle.gap_instance.specs.Selections.{is_marked}
use Rattle.gap_start.proofs.starting.greatest_sum.Given as goal

abbrev pub invariant-loop-i : goal.invariant-loop-i
invariant-loop-i l = record {
  sum_so_far : pos l.sum ≡ sum_below l.i (λ i. if is_marked l.marks i then lots_at l.inst.greatest i else pos 0);
  small : l.sum ≤ l.i * 65535;
}
