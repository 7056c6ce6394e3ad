use Rattle.gap_start.specs.Choices.{AreChosenSoFar}
use Rattle.gap_start.proofs.rounding.chosen.Given as goal

abbrev pub invariant-loop-held : goal.invariant-loop-held
invariant-loop-held l = AreChosenSoFar l.inst l.part l.y l.marks l.held
