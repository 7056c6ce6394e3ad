use Rattle.std.proofs.Common.{lit<}
use Rattle.gap_base.proofs.Machine.{back_of}
use Rattle.gap_objective.proofs.HoldingLaws.{kept_small}
use Rattle.gap_objective.proofs.holding.Holding.value.Goals as goal

pub returns-clause-small : goal.returns-clause-small
returns-clause-small c =
    let small = kept_small c.self.inside.inst.now c.self.inside.weight.p c.self.inside.weight.q c.self.inside.lots c.self.inside.slopes c.self.inside.value c.self.inside.held c.self.inside.turnover c.self.invariant in
    rw (back_of c.self.inside.value 2000000000000000000000000000000000 small (lit< tt)) small
