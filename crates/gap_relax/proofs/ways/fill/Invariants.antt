use Rattle.std.proofs.Common.{◌≡◌, ◌≤◌, take}
use Rattle.gap_relax.specs.Differences.{free_differences}
use Rattle.gap_relax.proofs.ways.fill.Given as goal

abbrev pub invariant-loop-i : goal.invariant-loop-i
invariant-loop-i l = record {
  filled : take l.free l.differences ≡ free_differences l.i l.part l.held_cost l.out_cost;
  few : l.free ≤ l.i;
}
