use Rattle.std.proofs.Common.{◌≡◌, ◌+◌, ◌≤◌, drop}
use Rattle.gap_box.specs.Parts.{held_count}
use Rattle.gap_writer.proofs.numbers.lots_held.Given as goal

abbrev pub invariant-loop-i : goal.invariant-loop-i
invariant-loop-i l = (l.count + held_count (drop l.i l.x) ≡ held_count l.x) × (l.count ≤ l.i)
