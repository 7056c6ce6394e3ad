use Rattle.std.proofs.Common.{arith}
use Rattle.gap_tangent.proofs.SettingLaws.{setting_is}
use Rattle.gap_tangent.proofs.mean_variance.MeanVariance.new.Goals as goal

pub invariant_of-result : goal.invariant_of-result
invariant_of-result c = let e = c.requires.same in record {
  same = c.requires.same;
  setting = setting_is c.args.instance.now c.args.shift.now c.args.weight c.n-assets.ensures.instance c.n-shift.ensures.shift c.requires.same c.requires.dominant c.requires.p_most c.requires.q_most;
  bends_are = record { are = λ i l. c.bends_of.ensures.bends i (omega arith); small = λ i l. c.bends_of.ensures.small i (omega arith); signs = λ i l. c.bends_of.ensures.signs i (omega arith) };
  present_is = c.present_list.ensures;
}
