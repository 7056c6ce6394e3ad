use Rattle.gap_start.specs.Fills.{IsSoFar}
use Rattle.gap_start.proofs.fill.best_change.Given as goal

abbrev pub invariant-loop-i : goal.invariant-loop-i
invariant-loop-i l = IsSoFar l.h.instance l.h.weight.p l.h.weight.q l.marks l.h.lots l.up l.i l.best
