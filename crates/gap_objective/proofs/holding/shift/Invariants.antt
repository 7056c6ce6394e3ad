use Rattle.std.proofs.Common.{◌≡◌, length}
use Rattle.gap_objective.specs.Slopes.{AreShiftedBelow}
use Rattle.gap_objective.proofs.holding.shift.Given as goal

abbrev pub invariant-loop-j : goal.invariant-loop-j
invariant-loop-j l = record {
  shifted : AreShiftedBelow l.inst.market l.i l.j l.scale l.fn.slopes l.slopes;
  room : length l.slopes ≡ 256;
}
