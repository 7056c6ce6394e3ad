use Rattle.std.proofs.Common.{◌≡◌}
use Rattle.gap_relax.specs.SoFar.{HasSeen}
use Rattle.gap_price.specs.CurveOf.{curve_of}
use Rattle.gap_price.specs.Offers.{ways_of}
use Rattle.gap_price.proofs.curve.CostCurve.in_one_pass.Given as goal

abbrev pub invariant-loop-i : goal.invariant-loop-i
invariant-loop-i l = record {
  seen : l.row.seen ≡ l.i;
  least : HasSeen (ways_of (curve_of l.self) l.multiplier) l.row;
}
