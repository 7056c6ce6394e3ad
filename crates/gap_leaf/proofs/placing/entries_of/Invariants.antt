use Rattle.std.proofs.Common.{◌≡◌, ◌≤◌, take}
use Rattle.gap_leaf.specs.Entries.{point_entries}
use Rattle.gap_leaf.proofs.placing.entries_of.Given as goal

abbrev pub invariant-loop-i : goal.invariant-loop-i
invariant-loop-i l = record {
  entries : take l.entries.count l.entries.room ≡ point_entries 0 (take l.i l.y);
  few : l.entries.count ≤ l.i;
}
