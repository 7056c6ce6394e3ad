use Rattle.gap_start.specs.Choices.{AreMusts}
use Rattle.gap_start.proofs.rounding.musts.Given as goal

abbrev pub invariant-loop-i : goal.invariant-loop-i
invariant-loop-i l = AreMusts l.part l.inst.market.assets l.i l.marks
