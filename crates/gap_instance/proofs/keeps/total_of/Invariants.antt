use Rattle.std.proofs.Common.{◌≡◌, ◌*◌, ◌≤◌, pos}
use Rattle.gap_instance.specs.Limits.{sum_of}
use Rattle.gap_instance.proofs.keeps.total_of.Given as goal

abbrev pub invariant-loop-i : goal.invariant-loop-i
invariant-loop-i l = record { sum_so_far : pos l.total ≡ sum_of l.i l.x; small : l.total ≤ l.i * 65535 }
