use Rattle.std.proofs.Common.{◌≡◌, ◌≤◌, take}
use Rattle.gap_box.specs.Parts.{helds}
use Rattle.gap_box.proofs.part.Part.held_cells.Given as goal

abbrev pub invariant-loop-i : goal.invariant-loop-i
invariant-loop-i l = record {
  counted : l.held ≡ helds (take l.i l.self);
  few : l.held ≤ l.i;
}
