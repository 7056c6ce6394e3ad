use Rattle.std.proofs.Common.{◌<◌, length, ap, ◌∙◌, arith}
use Rattle.std.proofs.lemmas.Bool.Decides.{nat_tests}
use Rattle.std.proofs.lemmas.List.Sums.{sum_by_more}
use Rattle.gap_box.specs.declared.cell.Cell.TheVariants.{Out}
use Rattle.gap_tangent.specs.Lots.{short_of}
use Rattle.gap_tangent.proofs.lots.shorts.Goals as goal

pub loop-i-preserved : goal.loop-i-preserved
loop-i-preserved c =
    let i = c.loop-i.invariant in
    let s = i.so_far in
    let m = i.small in
    let e = c.len-i-end.ensures.length in
    let t = c.loop-i-test.true in
    let there : c.loop-i.i < length c.args.part.now = grind (arith, nat_tests) in
    let f = short_of c.args.end c.args.t in
    let a = sum_by_more f c.args.part.now c.loop-i.i Out there in
    let v = c.short_of-sum.ensures.value ∙ ap f c.cell.ensures.or_out in
    let b = c.short_of-sum.ensures.small in
    record { so_far = omega arith; small = omega arith }
