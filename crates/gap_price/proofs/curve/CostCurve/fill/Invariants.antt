use Rattle.gap_price.specs.CurveOf.{curve_of}
use Rattle.gap_price.specs.Offers.{AreTabled}
use Rattle.gap_price.proofs.curve.CostCurve.fill.Given as goal

abbrev pub invariant-loop-i : goal.invariant-loop-i
invariant-loop-i l = AreTabled (curve_of l.self) l.multiplier l.i l.held l.out l.held_weights l.out_weights
