use Rattle.std.proofs.Common.{w32, FitsSigned, arith}
use Rattle.gap_verify.specs.declared.field.Field.TheVariants.{Mean, Deviation, Least, Greatest, Present}
use Rattle.gap_verify.specs.Sides.{side_of_certificate, side_of_job, said_of}
use Rattle.gap_verify.proofs.SaidSame.{signed_along, numbers_along}
use Rattle.gap_verify.proofs.FirstLaws.{five}
use Rattle.gap_verify.proofs.sides.Sides.asset.Goals as goal

pub returns : goal.returns
unfolding said_of
returns c =
    let i = c.args.i in
    let s = c.mean.ensures.small in
    let t = c.mean-2.ensures.size in
    let one : FitsSigned w32 c.mean.result = record { sfits = omega arith } in
    let other : FitsSigned w32 c.mean-2.result = record { sfits = omega arith } in
    five (side_of_certificate c.args.self.now.found.now c.args.self.now.nodes c.args.self.now.told.now) (side_of_job c.args.self.now.market.now c.args.self.now.job.now) (Mean i) (Deviation i) (Least i) (Greatest i) (Present i)
    c.compared-mean.result c.numbers-deviation.result c.small_numbers-least.result c.small_numbers-greatest.result c.small_numbers-present.result c.or-3.result c.or-2.result c.or.result c.or-4.result
    (signed_along (Mean i) c.mean.result _ c.mean-2.result _ c.compared-mean.result c.compared-mean.ensures one other c.mean.ensures.value c.mean-2.ensures.value)
    (numbers_along (Deviation i) c.dev.result _ c.dev-2.result _ c.numbers-deviation.result c.numbers-deviation.ensures c.dev.ensures.value c.dev-2.ensures.value)
    (numbers_along (Least i) c.lo.result _ c.get.result _ c.small_numbers-least.result c.small_numbers-least.ensures c.lo.ensures.value c.get.ensures.or_zero)
    (numbers_along (Greatest i) c.hi.result _ c.get-2.result _ c.small_numbers-greatest.result c.small_numbers-greatest.ensures c.hi.ensures.value c.get-2.ensures.or_zero)
    (numbers_along (Present i) c.present.result _ c.get-3.result _ c.small_numbers-present.result c.small_numbers-present.ensures c.present.ensures.value c.get-3.ensures.or_zero)
    c.or.ensures c.or-2.ensures c.or-3.ensures c.or-4.ensures
