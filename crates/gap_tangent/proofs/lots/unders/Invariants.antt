use Rattle.std.proofs.Common.{◌≡◌, ◌*◌, ◌≤◌, take}
use Rattle.gap_tangent.specs.Lots.{unders}
use Rattle.gap_tangent.proofs.lots.unders.Given as goal

abbrev pub invariant-loop-i : goal.invariant-loop-i
invariant-loop-i l = record {
  so_far : l.count ≡ unders l.end l.t (take l.i l.part);
  small : l.count ≤ l.i * 1;
}
