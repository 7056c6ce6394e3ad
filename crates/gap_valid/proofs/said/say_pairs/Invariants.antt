use Rattle.std.proofs.Common.{◌+◌}
use Rattle.gap_valid.specs.Steps.{IsSaidUpTo}
use Rattle.gap_valid.proofs.said.say_pairs.Given as goal

abbrev pub invariant-loop-j : goal.invariant-loop-j
invariant-loop-j l = IsSaidUpTo l.market l.said (l.i + 1) l.i l.j
