use Rattle.std.proofs.Common.{◌≡◌, ◌≤◌, take}
use Rattle.gap_box.specs.Parts.{frees}
use Rattle.gap_witness.proofs.pointing.free_cells.Given as goal

abbrev pub invariant-loop-i : goal.invariant-loop-i
invariant-loop-i l = record {
  counted : l.free ≡ frees (take l.i l.part);
  few : l.free ≤ l.i;
}
