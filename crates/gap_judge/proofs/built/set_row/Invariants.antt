use Rattle.gap_judge.specs.Steps.{IsShiftUpTo}
use Rattle.gap_judge.proofs.built.set_row.Given as goal

abbrev pub invariant-loop-k : goal.invariant-loop-k
invariant-loop-k l = IsShiftUpTo l.head l.shift l.i l.k l.i
