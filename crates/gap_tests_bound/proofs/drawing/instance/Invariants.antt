use Rattle.std.proofs.Common.{◌≡◌}
use Rattle.gap_tests_bound.proofs.drawing.instance.Given as goal

abbrev pub invariant-loop-i : goal.invariant-loop-i
invariant-loop-i l = l.market.assets ≡ l.n
