use Rattle.gap_instance.specs.Objective.{cov_of}
use Rattle.gap_factor.specs.Diagonals.{AreSet}
use Rattle.gap_factor.proofs.diagonal.set_diagonal.Given as goal

abbrev pub invariant-loop-i : goal.invariant-loop-i
invariant-loop-i l = AreSet (cov_of l.inst.market) l.fn.shift l.shift l.i
