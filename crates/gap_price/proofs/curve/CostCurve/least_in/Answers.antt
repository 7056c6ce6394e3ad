use Rattle.std.proofs.Common.{arith}
use Rattle.std.proofs.lemmas.Int.{to_z-of_z}
use Rattle.gap_price.specs.CurveOf.{curve_of}
use Rattle.gap_price.proofs.OfferLaws.{held_within, out_within, held_flat, out_flat, least_tabled, least_sizes}
use Rattle.gap_price.proofs.curve.CostCurve.least_in.Goals as goal

pub least_with_slope-requires-clause-held_small : goal.least_with_slope-requires-clause-held_small
least_with_slope-requires-clause-held_small c =
    let fm = c.ranges.multiplier in
    let t = simp to_z-of_z at c.fill.ensures in
    held_within (curve_of c.args.self.now) c.args.multiplier c.fill.new.held c.len-length.ensures.valid c.args.self.now.kept.costs_are c.requires.price (omega arith) t.held_are

pub least_with_slope-requires-clause-out_small : goal.least_with_slope-requires-clause-out_small
least_with_slope-requires-clause-out_small c =
    let fm = c.ranges.multiplier in
    let t = simp to_z-of_z at c.fill.ensures in
    out_within (curve_of c.args.self.now) c.args.multiplier c.fill.new.out c.args.self.now.kept.costs_are c.requires.price (omega arith) t.out_are

pub least_with_slope-requires-clause-held_flat : goal.least_with_slope-requires-clause-held_flat
least_with_slope-requires-clause-held_flat c =
    let fm = c.ranges.multiplier in
    let t = simp to_z-of_z at c.fill.ensures in
    held_flat (curve_of c.args.self.now) c.args.multiplier c.fill.new.held_weights c.len-length.ensures.valid c.args.self.now.kept.costs_are c.requires.price (omega arith) t.held_weigh

pub least_with_slope-requires-clause-out_flat : goal.least_with_slope-requires-clause-out_flat
least_with_slope-requires-clause-out_flat c =
    let fm = c.ranges.multiplier in
    let t = simp to_z-of_z at c.fill.ensures in
    out_flat (curve_of c.args.self.now) c.args.multiplier c.fill.new.out_weights c.args.self.now.kept.costs_are (omega arith) t.out_weigh

pub returns-clause-least : goal.returns-clause-least
returns-clause-least c =
    let fm = c.ranges.multiplier in
    let t = simp to_z-of_z at c.fill.ensures in
    least_tabled (curve_of c.args.self.now) c.args.multiplier c.fill.new.held c.fill.new.out c.fill.new.held_weights c.fill.new.out_weights c.in-Some.chosen.value c.in-Some.chosen.slope c.len-length.ensures.valid c.args.self.now.kept.costs_are t c.in-Some.ensures.some

pub returns-clause-value_small : goal.returns-clause-value_small
returns-clause-value_small c =
    let fm = c.ranges.multiplier in
    let t = simp to_z-of_z at c.fill.ensures in
    let w = least_tabled (curve_of c.args.self.now) c.args.multiplier c.fill.new.held c.fill.new.out c.fill.new.held_weights c.fill.new.out_weights c.in-Some.chosen.value c.in-Some.chosen.slope c.len-length.ensures.valid c.args.self.now.kept.costs_are t c.in-Some.ensures.some in
    (least_sizes (curve_of c.args.self.now) c.args.multiplier c.in-Some.chosen.value c.in-Some.chosen.slope c.len-length.ensures.valid c.len-length.ensures.most c.args.self.now.kept.costs_are c.requires.price w).0

pub returns-clause-slope_small : goal.returns-clause-slope_small
returns-clause-slope_small c =
    let fm = c.ranges.multiplier in
    let t = simp to_z-of_z at c.fill.ensures in
    let w = least_tabled (curve_of c.args.self.now) c.args.multiplier c.fill.new.held c.fill.new.out c.fill.new.held_weights c.fill.new.out_weights c.in-Some.chosen.value c.in-Some.chosen.slope c.len-length.ensures.valid c.args.self.now.kept.costs_are t c.in-Some.ensures.some in
    (least_sizes (curve_of c.args.self.now) c.args.multiplier c.in-Some.chosen.value c.in-Some.chosen.slope c.len-length.ensures.valid c.len-length.ensures.most c.args.self.now.kept.costs_are c.requires.price w).1
