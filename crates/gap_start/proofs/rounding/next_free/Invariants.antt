use Rattle.gap_start.specs.Choices.{IsNextSoFar}
use Rattle.gap_start.proofs.rounding.next_free.Given as goal

abbrev pub invariant-loop-i : goal.invariant-loop-i
invariant-loop-i l = IsNextSoFar l.part l.marks l.y l.i l.best
