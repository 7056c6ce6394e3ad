use Rattle.std.proofs.Common.{◌≡◌, ◌≤◌, int_lt}
use Rattle.gap_base.specs.Sums.{count_if, at}
use Rattle.gap_relax.proofs.parting.count_below.Given as goal

abbrev pub invariant-loop-i : goal.invariant-loop-i
invariant-loop-i l = record {
  count : l.count ≡ count_if l.i (λ k. int_lt (at l.numbers k) l.price);
  most : l.count ≤ l.i;
}
