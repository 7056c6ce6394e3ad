use Rattle.std.proofs.Common.{arith, sym}
use Rattle.gap_witness.specs.Points.{clamped}
use Rattle.gap_witness.specs.Frames.{choice_in}
use Rattle.gap_witness.proofs.PlaceLaws.{sum_table_none, sum_table_more}
use Rattle.gap_witness.proofs.balance.total.Goals as goal

pub loop-i-init : goal.loop-i-init
loop-i-init c = record {
  sum_so_far = sym (sum_table_none (clamped (choice_in c.args.frame.now) c.args.hint.now));
  small = omega arith;
}

pub loop-i-preserved : goal.loop-i-preserved
loop-i-preserved c =
    let i = c.loop-i.invariant in
    let e = i.sum_so_far in
    let m = i.small in
    let v = c.brought-sum.ensures.value in
    let w = c.brought-sum.ensures.most in
    let t = sum_table_more c.loop-i.i (clamped (choice_in c.args.frame.now) c.args.hint.now) in
    record { sum_so_far = omega arith; small = omega arith }
