use Rattle.gap_tangent.proofs.EntryLaws.{IsFilled}
use Rattle.gap_tangent.proofs.entries.point_from.Given as goal

abbrev pub invariant-loop-left : goal.invariant-loop-left
invariant-loop-left l = IsFilled l.n l.entries l.left l.y

abbrev pub decreases-loop-left : goal.decreases-loop-left
decreases-loop-left l = l.left
