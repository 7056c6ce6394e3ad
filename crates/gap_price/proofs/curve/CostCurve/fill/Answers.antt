use Rattle.std.proofs.Common.{◌≡◌, FitsSigned, ◌∙◌, ap, rules, arith}
use Rattle.std.proofs.lemmas.Int.{to_z-of_z}
use Rattle.std.specs.Int.{w128, w32}
use Rattle.gap_price.specs.CurveOf.{curve_of}
use Rattle.gap_price.specs.Offers.{cost_by, least_offer}
use Rattle.gap_price.proofs.OfferLaws.{tabled_more, held_is, out_is}
use Rattle.gap_price.proofs.curve.CostCurve.fill.Goals as goal

pub loop-i-preserved : goal.loop-i-preserved
loop-i-preserved c =
    let fm = c.ranges.multiplier in
    let h = c.held_offer-holding.result in
    let o = c.out_offer-leaving.result in
    let f1 : FitsSigned w128 h.value = search rules in
    let f2 : FitsSigned w128 o.value = search rules in
    let f3 : FitsSigned w32 h.weight = search rules in
    let f4 : FitsSigned w32 o.weight = search rules in
    let inv = simp to_z-of_z at c.loop-i.invariant in
    let k = curve_of c.args.self.now in
    let m = c.args.multiplier in
    let i = c.loop-i.i in
    let a = c.asset_at-asset.result in
    let e : c.from-place.result ≡ i = omega arith in
    let same = simp to_z-of_z at c.asset_at-asset.ensures.cost in
    let b = c.asset_at-asset.ensures.present in
    let p = held_is k m i a.present (cost_by a) c.cell.result h same b c.held_offer-holding.ensures ∙ ap (least_offer k m i) c.cell.ensures.or_out in
    let q = out_is k m i a.present (cost_by a) o same b c.out_offer-leaving.ensures in
    simp to_z-of_z (tabled_more k m i c.from-place.result c.loop-i.held c.loop-i.out c.loop-i.held_weights c.loop-i.out_weights h o e (omega arith) (omega arith) (omega arith) (omega arith) inv p q)
