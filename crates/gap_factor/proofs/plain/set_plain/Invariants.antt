use Rattle.gap_instance.specs.Objective.{cov_of}
use Rattle.gap_factor.specs.Plain.{ArePlain}
use Rattle.gap_factor.proofs.plain.set_plain.Given as goal

abbrev pub invariant-loop-i : goal.invariant-loop-i
invariant-loop-i l = ArePlain (cov_of l.inst.market) l.fn.shift l.shift l.i
