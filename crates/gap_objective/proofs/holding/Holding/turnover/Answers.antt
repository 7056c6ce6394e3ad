use Rattle.gap_objective.proofs.CountLaws.{turnover_small}
use Rattle.gap_objective.proofs.holding.Holding.turnover.Goals as goal

pub returns-clause-small : goal.returns-clause-small
returns-clause-small c = turnover_small c.self.inside.inst.now c.self.inside.lots c.self.inside.turnover c.self.invariant.instance_is c.self.invariant.lots_are c.self.invariant.turnover_is
