use Rattle.std.proofs.Common.{◌≡◌, ◌+◌, true, FitsSigned, sym, ◌∙◌, rules}
use Rattle.std.proofs.lemmas.Int.{to_z-of_z}
use Rattle.std.specs.Int.{w128}
use Rattle.gap_box.specs.Parts.{can_meet, helds, frees}
use Rattle.gap_relax.proofs.WayLaws.{meet_bounds, least_way}
use Rattle.gap_relax.proofs.ways.least_with_slope.Goals as goal

pub returns-clause-some : goal.returns-clause-some
returns-clause-some c =
    let q = c.share_of-share.result in
    let fit : FitsSigned w128 q.price = search rules in
    let met : can_meet c.args.part.now c.args.fewest c.args.most ≡ true = sym c.count_within.ensures ∙ c.if-not-count_within.false in
    let room = meet_bounds (helds c.args.part.now) c.args.most c.args.fewest (helds c.args.part.now + frees c.args.part.now) met in
    let value = simp to_z-of_z at c.sums_by.ensures.value in
    let slope = simp to_z-of_z at c.sums_by.ensures.slope in
    least_way c.args.part.now c.args.held_cost.now c.args.out_cost.now c.args.held_slope.now c.args.out_slope.now c.args.fewest c.args.most q.price q.ties c.sums_by.result.value c.sums_by.result.slope room.0 c.share_of-share.ensures value slope
