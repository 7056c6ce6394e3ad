use Rattle.std.proofs.Common.{◌≡◌, ◌≤◌, take}
use Rattle.gap_box.specs.Parts.{frees}
use Rattle.gap_box.proofs.part.Part.free_cells.Given as goal

abbrev pub invariant-loop-i : goal.invariant-loop-i
invariant-loop-i l = record {
  counted : l.free ≡ frees (take l.i l.self);
  few : l.free ≤ l.i;
}
