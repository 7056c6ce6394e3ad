use Rattle.std.proofs.Common.{◌≡◌, ◌<◌, ap, lit<}
use Rattle.gap_base.proofs.Machine.{back_of}
use Rattle.gap_base.specs.Sums.{at}
use Rattle.gap_objective.specs.Holdings.{HoldingValue}
use Rattle.gap_objective.proofs.HoldingLaws.{slopes_small}
use Rattle.gap_objective.proofs.holding.Holding.slope.Goals as goal

pub returns-clause-small : goal.returns-clause-small
returns-clause-small c =
    let same : c.self.inside.inst.now ≡ c.args.self.now.instance = ap (λ (v : HoldingValue). v.instance) c.self.view_is in
    let inside : c.from.result < c.self.inside.inst.now.market.assets = rw (c.from.ensures, same) c.requires in
    let small = slopes_small c.self.inside.inst.now c.self.inside.weight.p c.self.inside.weight.q c.self.inside.lots c.self.inside.slopes c.self.inside.value c.self.inside.held c.self.inside.turnover c.self.invariant c.from.result inside in
    rw (back_of (at c.self.inside.slopes c.from.result) 2000000000000000000000000000 small (lit< tt)) small
