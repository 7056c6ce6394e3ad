use Rattle.gap_judge.proofs.BuiltLaws.{limits_made, least_limits, greatest_limits}
use Rattle.gap_judge.proofs.built.basis_of.Goals as goal

pub new-requires : goal.new-requires
new-requires c = limits_made c.args.head.now c.in_ok-market.market c.job_of-job.result c.requires c.in_ok-market.ensures c.job_of-job.ensures

pub root-root-requires-clause-least : goal.root-root-requires-clause-least
root-root-requires-clause-least c = least_limits c.args.head.now c.job_of-job.result c.requires c.job_of-job.ensures

pub root-root-requires-clause-greatest : goal.root-root-requires-clause-greatest
root-root-requires-clause-greatest c = greatest_limits c.args.head.now c.job_of-job.result c.requires c.job_of-job.ensures
