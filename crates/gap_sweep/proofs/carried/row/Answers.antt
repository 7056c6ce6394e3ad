use Rattle.gap_instance.proofs.LimitLaws.{AreBetween-meets}
use Rattle.gap_sweep.proofs.carried.row.Goals as goal

pub risk-requires : goal.risk-requires
risk-requires c = AreBetween-meets c.args.inst.now c.args.best.now.lots c.n-assets.ensures.instance c.requires

pub ret-requires : goal.ret-requires
ret-requires c = AreBetween-meets c.args.inst.now c.args.best.now.lots c.n-assets.ensures.instance c.requires
