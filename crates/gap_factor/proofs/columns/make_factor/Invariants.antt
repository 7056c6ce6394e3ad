use Rattle.gap_instance.specs.Objective.{cov_of}
use Rattle.gap_factor.specs.Columns.{AreRounded}
use Rattle.gap_factor.proofs.columns.make_factor.Given as goal

abbrev pub invariant-loop-j : goal.invariant-loop-j
invariant-loop-j l = AreRounded (cov_of l.inst.market) l.fn.shift l.shift l.j
