use Rattle.std.proofs.Common.{◌∙◌}
use Rattle.gap_rule.proofs.ClaimLaws.{difference_as, ruled_same, ruled_differs}
use Rattle.gap_rule.proofs.ruling.rule_claim.Goals as goal

pub returns-in-None-clause-tells : goal.returns-in-None-clause-tells
returns-in-None-clause-tells c =
    ruled_same c.args.market.now c.args.job.now c.args.verdict c.n-assets.ensures.market c.requires.job_is c.requires.accepted
    (difference_as c.args.market.now c.args.job.now c.args.verdict c.instance.result.now c.nodes.result c.sections.result.now _ c.instance.ensures c.nodes.ensures c.sections.ensures c.first_difference.ensures ∙ c.in-None.is)

pub returns-in-Some-clause-tells : goal.returns-in-Some-clause-tells
returns-in-Some-clause-tells c =
    ruled_differs c.args.market.now c.args.job.now c.args.verdict c.in-Some.difference
    (difference_as c.args.market.now c.args.job.now c.args.verdict c.instance.result.now c.nodes.result c.sections.result.now _ c.instance.ensures c.nodes.ensures c.sections.ensures c.first_difference.ensures ∙ c.in-Some.is)
