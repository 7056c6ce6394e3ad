use Rattle.gap_valid.specs.Steps.{IsSaidUpTo}
use Rattle.gap_valid.proofs.said.said_anew.Given as goal

abbrev pub invariant-loop-i : goal.invariant-loop-i
invariant-loop-i l = IsSaidUpTo l.market l.said l.i l.i 0
