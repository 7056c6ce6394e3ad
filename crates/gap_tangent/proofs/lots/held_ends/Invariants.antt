use Rattle.std.proofs.Common.{◌≡◌, ◌*◌, ◌≤◌, take}
use Rattle.gap_tangent.specs.Lots.{held_ends}
use Rattle.gap_tangent.proofs.lots.held_ends.Given as goal

abbrev pub invariant-loop-i : goal.invariant-loop-i
invariant-loop-i l = record {
  so_far : l.sum ≡ held_ends l.end (take l.i l.part);
  small : l.sum ≤ l.i * 10000;
}
