use Rattle.gap_instance.proofs.LimitLaws.{AreBetween-meets}
use Rattle.gap_solve.proofs.begin.cheaper.Goals as goal

pub value-requires : goal.value-requires
value-requires c = AreBetween-meets c.args.inst.now c.args.other c.n-assets.ensures.instance c.requires.other

pub value-requires-in-Some : goal.value-requires-in-Some
value-requires-in-Some c = AreBetween-meets c.args.inst.now c.in-Some.x c.n-assets.ensures.instance (c.requires.meets c.in-Some.x c.in-Some.is)

pub returns-else-value-clause-meets : goal.returns-else-value-clause-meets
returns-else-value-clause-meets c = c.requires.meets c.in-Some.x c.in-Some.is
