use Rattle.std.proofs.Common.{arith}
use Rattle.gap_tangent.specs.declared.lots.End.TheVariants.{Greatest}
use Rattle.gap_tangent.proofs.LotsLaws.{all_under, counting, most_are}
use Rattle.gap_tangent.proofs.lots.most_lots.Goals as goal

pub overflow_sub-most : goal.overflow_sub-most
overflow_sub-most c =
    let n = counting c.args.part.now c.args.fewest c.args.most c.len-cells.ensures.valid c.requires.order c.requires.met in
    let a = n.held in
    let h = c.held_cells.ensures.count in
    omega arith

pub returns-clause-value : goal.returns-clause-value
returns-clause-value c =
    let n = counting c.args.part.now c.args.fewest c.args.most c.len-cells.ensures.valid c.requires.order c.requires.met in
    let u = all_under Greatest c.args.part.now c.len-cells.ensures.valid in
    let a = c.held_ends.ensures.value in
    let p = c.priced.ensures.value in
    let d = c.shorts.ensures.value in
    let h = c.held_cells.ensures.count in
    let f = c.unders.ensures.value in
    let k = c.min-k.ensures in
    most_are c.args.part.now c.args.fewest c.args.most c.min-k.result c.parting-t.result _ n (omega arith) c.parting-t.ensures.small c.parting-t.ensures.parts (omega arith)
