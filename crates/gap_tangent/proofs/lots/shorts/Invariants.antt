use Rattle.std.proofs.Common.{◌≡◌, ◌*◌, ◌≤◌, take}
use Rattle.gap_tangent.specs.Lots.{shorts}
use Rattle.gap_tangent.proofs.lots.shorts.Given as goal

abbrev pub invariant-loop-i : goal.invariant-loop-i
invariant-loop-i l = record {
  so_far : l.sum ≡ shorts l.end l.t (take l.i l.part);
  small : l.sum ≤ l.i * 10000;
}
