use Rattle.std.proofs.Common.{arith}
use Rattle.gap_tangent.specs.declared.lots.End.TheVariants.{Least}
use Rattle.gap_tangent.proofs.LotsLaws.{all_under, counting, fewest_shorts, fewest_are}
use Rattle.gap_tangent.proofs.lots.fewest_lots.Goals as goal

pub parting-t-requires : goal.parting-t-requires
parting-t-requires c =
    let n = counting c.args.part.now c.args.fewest c.args.most c.len-cells.ensures.valid c.requires.order c.requires.met in
    let a = n.all in
    let u = all_under Least c.args.part.now c.len-cells.ensures.valid in
    let h = c.held_cells.ensures.count in
    let k = c.saturating_sub-k.ensures in
    omega arith

pub overflow_sub-result : goal.overflow_sub-result
overflow_sub-result c =
    let s = fewest_shorts c.args.part.now c.saturating_sub-k.result c.parting-t.result c.len-cells.ensures.valid c.parting-t.ensures.small c.parting-t.ensures.parts in
    let a = c.held_ends.ensures.value in
    let p = c.priced.ensures.value in
    let d = c.shorts.ensures.value in
    omega arith

pub returns-clause-value : goal.returns-clause-value
returns-clause-value c =
    let n = counting c.args.part.now c.args.fewest c.args.most c.len-cells.ensures.valid c.requires.order c.requires.met in
    let s = fewest_shorts c.args.part.now c.saturating_sub-k.result c.parting-t.result c.len-cells.ensures.valid c.parting-t.ensures.small c.parting-t.ensures.parts in
    let a = c.held_ends.ensures.value in
    let p = c.priced.ensures.value in
    let d = c.shorts.ensures.value in
    let h = c.held_cells.ensures.count in
    let k = c.saturating_sub-k.ensures in
    fewest_are c.args.part.now c.args.fewest c.args.most c.saturating_sub-k.result c.parting-t.result _ n (omega arith) c.parting-t.ensures.small c.parting-t.ensures.parts (omega arith)
