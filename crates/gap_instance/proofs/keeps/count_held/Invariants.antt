use Rattle.std.proofs.Common.{◌≡◌, ◌≤◌}
use Rattle.gap_instance.specs.Limits.{held_of}
use Rattle.gap_instance.proofs.keeps.count_held.Given as goal

abbrev pub invariant-loop-i : goal.invariant-loop-i
invariant-loop-i l = record { count_so_far : l.count ≡ held_of l.i l.x; small : l.count ≤ l.i }
