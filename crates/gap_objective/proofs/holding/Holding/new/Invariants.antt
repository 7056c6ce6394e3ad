use Rattle.std.proofs.Common.{◌≡◌}
use Rattle.gap_objective.specs.Holdings.{IsFront}
use Rattle.gap_objective.proofs.holding.Holding.new.Given as goal

abbrev pub invariant-loop-i : goal.invariant-loop-i
invariant-loop-i l = record {
  instance_is : l.holding.instance ≡ l.fn.inst;
  weight_is : l.holding.weight ≡ l.fn.w;
  front : IsFront l.x l.i l.holding.lots;
}
