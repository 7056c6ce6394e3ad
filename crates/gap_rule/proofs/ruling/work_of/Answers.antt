use Rattle.std.proofs.Common.{sym, subst}
use Rattle.gap_base.specs.Markets.{MarketValue}
use Rattle.gap_instance.specs.Instances.{AreLimits}
use Rattle.gap_rule.proofs.WorkLaws.{limits_said, ready_work}
use Rattle.gap_rule.proofs.ruling.work_of.Goals as goal

pub new-requires : goal.new-requires
new-requires c =
    subst (λ (m : MarketValue). AreLimits m.assets c.args.job.lots c.args.job.held c.args.job.held_most c.args.job.least c.args.job.greatest c.args.job.present c.args.job.turnover)
    (sym c.in_ok-said.ensures) (limits_said c.args.market c.args.job c.requires)

pub returns-clause-ready : goal.returns-clause-ready
returns-clause-ready c =
    ready_work c.args.market c.in_ok-said.said c.args.job c.in_ok-inst.inst c.rounded-rounded.result c.n-assets.ensures.market c.requires c.in_ok-said.ensures c.in_ok-inst.ensures c.rounded-rounded.ensures
