use Rattle.gap_judge.specs.Steps.{IsShiftUpTo}
use Rattle.gap_judge.proofs.built.shift_of.Given as goal

abbrev pub invariant-loop-i : goal.invariant-loop-i
invariant-loop-i l = IsShiftUpTo l.head l.shift l.i 0 l.i
