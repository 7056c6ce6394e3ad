use Rattle.gap_instance.proofs.LimitLaws.{AreBetween-meets}
use Rattle.gap_solve.proofs.begin.polished_list.Goals as goal

pub new-holding-requires : goal.new-holding-requires
new-holding-requires c = AreBetween-meets c.args.inst.now c.args.x.now c.n-assets.ensures.instance c.requires
