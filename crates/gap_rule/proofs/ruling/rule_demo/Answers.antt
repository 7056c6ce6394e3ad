use Rattle.std.proofs.Common.{Ok, ap, ◌∙◌}
use Rattle.gap_base.specs.declared.job.Job.{Job}
use Rattle.gap_rule.specs.Tasks.{work_of}
use Rattle.gap_rule.specs.declared.task.Task.TheVariants.{Demo}
use Rattle.gap_rule.specs.declared.task.Work.{Work}
use Rattle.gap_rule.proofs.DemoLaws.{ruled_generated}
use Rattle.gap_rule.proofs.ruling.rule_demo.Goals as goal

pub returns-clause-tells : goal.returns-clause-tells
returns-clause-tells c =
    ruled_generated c.args.asked c.in_ok-market.market (Ok (Demo c.in_ok-work.work)) c.n-assets.ensures.market c.in_ok-market.ensures
    (ap (λ (work : Work). Ok (Demo work)) (c.in_ok-work.ensures.value ∙ ap (λ (job : Job). work_of c.in_ok-market.market job) c.demo_job.ensures))
