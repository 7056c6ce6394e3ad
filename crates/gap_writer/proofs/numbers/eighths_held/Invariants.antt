use Rattle.std.proofs.Common.{◌≡◌, ◌+◌, ◌≤◌, drop}
use Rattle.gap_box.specs.Parts.{held_count}
use Rattle.gap_writer.proofs.numbers.eighths_held.Given as goal

abbrev pub invariant-loop-i : goal.invariant-loop-i
invariant-loop-i l = (l.count + held_count (drop l.i l.y) ≡ held_count l.y) × (l.count ≤ l.i)
