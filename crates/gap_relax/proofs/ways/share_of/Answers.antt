use Rattle.std.proofs.Common.{◌≡◌, ◌+◌, ◌-◌, take, FitsSigned, arith, rules}
use Rattle.std.proofs.lemmas.Int.{to_z-of_z}
use Rattle.std.specs.Int.{w128}
use Rattle.gap_box.specs.Parts.{helds, frees}
use Rattle.gap_relax.specs.Choices.{most_cost}
use Rattle.gap_relax.proofs.DifferenceLaws.{differences_within, differences_frees}
use Rattle.gap_relax.proofs.WayLaws.{meet_bounds, share_is}
use Rattle.gap_relax.proofs.ways.share_of.Goals as goal

pub parting_of-parting-requires-clause-numbers : goal.parting_of-parting-requires-clause-numbers
parting_of-parting-requires-clause-numbers c =
    differences_within most_cost _ c.args.part.now c.args.held_cost.now c.args.out_cost.now c.requires.held_length c.requires.out_length c.requires.held_small c.requires.out_small c.fill-free.ensures.filled

pub parting_of-parting-requires-clause-there : goal.parting_of-parting-requires-clause-there
parting_of-parting-requires-clause-there c =
    let l = differences_frees (take c.fill-free.result c.fill-free.new.differences) c.args.part.now c.args.held_cost.now c.args.out_cost.now c.fill-free.ensures.filled in
    let h = c.held_cells-held.ensures.count in
    let b = meet_bounds (helds c.args.part.now) c.args.most c.args.fewest (helds c.args.part.now + frees c.args.part.now) c.requires.met in
    let f = c.saturating_sub.ensures in
    let g = c.from.ensures in
    omega arith

pub returns : goal.returns
returns c =
    let q = c.parting_of-parting.result in
    let fit : FitsSigned w128 q.price = search rules in
    let h = c.held_cells-held.ensures.count in
    let few : c.from.result ≡ c.args.fewest - helds c.args.part.now = omega (arith, c.from.ensures, c.saturating_sub.ensures) in
    let many : c.from-2.result ≡ c.args.most - helds c.args.part.now = omega (arith, c.from-2.ensures) in
    let below = simp to_z-of_z at c.count_below.ensures.count in
    simp to_z-of_z (share_is c.args.part.now c.args.held_cost.now c.args.out_cost.now c.args.fewest c.args.most c.from.result c.from-2.result q.price q.count c.count_below.result (take c.fill-free.result c.fill-free.new.differences) c.fill-free.ensures.filled few many c.parting_of-parting.ensures below)
