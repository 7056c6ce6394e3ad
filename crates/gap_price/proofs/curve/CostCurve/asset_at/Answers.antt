use Rattle.std.proofs.lemmas.Int.{to_z-of_z}
use Rattle.gap_price.specs.CurveOf.{curve_of}
use Rattle.gap_price.proofs.OfferLaws.{cost_is}
use Rattle.gap_price.proofs.curve.CostCurve.asset_at.Goals as goal

pub returns-clause-cost : goal.returns-clause-cost
returns-clause-cost c =
    let fm = c.ranges.multiplier in
    let e = simp to_z-of_z at c.asset_at.ensures.linear in
    let g = simp to_z-of_z at c.asset_at.ensures.price in
    cost_is (curve_of c.args.self.now) c.args.multiplier c.args.i c.asset_at.result e c.asset_at.ensures.bend g c.asset_at.ensures.present
