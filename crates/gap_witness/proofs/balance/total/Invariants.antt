use Rattle.std.proofs.Common.{◌≡◌, ◌*◌, ◌≤◌, sum}
use Rattle.gap_witness.specs.Places.{table}
use Rattle.gap_witness.specs.Points.{clamped}
use Rattle.gap_witness.specs.Frames.{choice_in}
use Rattle.gap_witness.proofs.balance.total.Given as goal

abbrev pub invariant-loop-i : goal.invariant-loop-i
invariant-loop-i l = record {
  sum_so_far : l.sum ≡ sum (table l.i (clamped (choice_in l.frame) l.hint));
  small : l.sum ≤ l.i * 80000;
}
