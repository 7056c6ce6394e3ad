-- The points have the same numbers at the places that were compared.
use Rattle.std.proofs.Common.{length}
use Rattle.gap_tangent.proofs.CopyLaws.{IsCopied}
use Rattle.gap_leaf.proofs.candidates.is_same_point.Given as goal

abbrev pub invariant-loop-i : goal.invariant-loop-i
invariant-loop-i l = IsCopied (length l.y) l.y l.i l.x
