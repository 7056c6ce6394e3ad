use Rattle.std.proofs.Common.{◌<◌, ◌≤ℤ◌, ℕ}
use Rattle.gap_base.specs.Sums.{at}
use Rattle.gap_relax.proofs.parting.place_of_greatest.Given as goal

abbrev pub invariant-loop-i : goal.invariant-loop-i
invariant-loop-i l = record {
  there : l.top < l.i;
  greatest : (j : ℕ) → j < l.i → at l.row j ≤ℤ at l.row l.top;
}
