use Rattle.std.proofs.Common.{ℕ, ◌<◌, cond, length, ap, ◌∙◌, arith}
use Rattle.std.proofs.lemmas.Bool.Decides.{nat_tests}
use Rattle.std.proofs.lemmas.List.Sums.{sum_by_more}
use Rattle.gap_box.specs.declared.cell.Cell.{Cell}
use Rattle.gap_box.specs.declared.cell.Cell.TheVariants.{Out}
use Rattle.gap_tangent.specs.Lots.{is_under}
use Rattle.gap_tangent.proofs.lots.unders.Goals as goal

pub loop-i-preserved : goal.loop-i-preserved
loop-i-preserved c =
    let i = c.loop-i.invariant in
    let s = i.so_far in
    let m = i.small in
    let e = c.len-i-end.ensures.length in
    let t = c.loop-i-test.true in
    let there : c.loop-i.i < length c.args.part.now = grind (arith, nat_tests) in
    let f = λ (q : Cell). cond {A = ℕ} (is_under c.args.end c.args.t q) 1 0 in
    let a = sum_by_more f c.args.part.now c.loop-i.i Out there in
    let v = c.one_under-count.ensures.value ∙ ap f c.cell.ensures.or_out in
    let b = c.one_under-count.ensures.small in
    record { so_far = omega arith; small = omega arith }
