use Rattle.std.proofs.Common.{◌≤◌, unsigned_abs, sym, subst}
use Rattle.std.proofs.lemmas.Int.{to_z-of_z}
use Rattle.gap_price.specs.declared.offer.Offer.{Offer}
use Rattle.gap_price.specs.CurveOf.{curve_of}
use Rattle.gap_price.proofs.OfferLaws.{end_is, end_sizes}
use Rattle.gap_price.proofs.curve.CostCurve.end_offer.Goals as goal

pub returns-clause-offer : goal.returns-clause-offer
returns-clause-offer c =
    let fm = c.ranges.multiplier in
    let k = curve_of c.args.self.now in
    let a = c.plain_at-plain.result in
    let line = simp to_z-of_z at c.plain_at-plain.ensures.line in
    end_is k c.args.multiplier c.args.i c.args.l c.args.u a.line a.bend c.cheaper_end.result c.plain_offer.result c.requires.plain (c.args.self.now.kept.costs_are.bends_signs c.args.i c.requires.there) c.requires.order line c.plain_at-plain.ensures.bend c.cheaper_end.ensures c.plain_offer.ensures

pub returns-clause-value_small : goal.returns-clause-value_small
returns-clause-value_small c =
    let fm = c.ranges.multiplier in
    let k = curve_of c.args.self.now in
    let a = c.plain_at-plain.result in
    let line = simp to_z-of_z at c.plain_at-plain.ensures.line in
    let e = end_is k c.args.multiplier c.args.i c.args.l c.args.u a.line a.bend c.cheaper_end.result c.plain_offer.result c.requires.plain (c.args.self.now.kept.costs_are.bends_signs c.args.i c.requires.there) c.requires.order line c.plain_at-plain.ensures.bend c.cheaper_end.ensures c.plain_offer.ensures in
    subst (λ (x : Offer). unsigned_abs x.value ≤ 30000000000000000000000000000000000) (sym e) (end_sizes k c.args.multiplier c.args.i c.args.l c.args.u c.args.self.now.kept.costs_are c.requires.there c.requires.price c.requires.least c.requires.order c.requires.most)
