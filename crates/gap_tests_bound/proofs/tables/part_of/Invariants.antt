use Rattle.std.proofs.Common.{◌≡◌, length}
use Rattle.gap_tests_bound.proofs.tables.part_of.Given as goal

abbrev pub invariant-loop-i : goal.invariant-loop-i
invariant-loop-i l = length l.part ≡ 4
