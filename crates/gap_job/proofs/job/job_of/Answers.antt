use Rattle.std.proofs.Common.{sym, arith}
use Rattle.serde_json.specs.View.{view}
use Rattle.gap_job.proofs.JobSaid.{job_said}
use Rattle.gap_job.proofs.RangeLaws.{limits_between, present_between, weights_in_range}
use Rattle.gap_job.proofs.job.job_of.Goals as goal

pub returns-clause-says : goal.returns-clause-says
returns-clause-says c =
    job_said c.args.n (view c.args.object.now) _ _ _ _ _ _ _ _ _ _ c.in_ok-lots.ensures.value c.in_ok-held.ensures.value c.in_ok-least.ensures.value c.in_ok-greatest.ensures.value
    c.in_ok-limits.ensures c.in_ok-present.ensures c.in_ok-turnover.ensures.value c.in_ok-weights.ensures c.in_ok-nodes.ensures.value c.in_ok-workers.ensures.value

pub returns-clause-ranges : goal.returns-clause-ranges
returns-clause-ranges c =
    let lots = c.in_ok-lots.ensures.range in
    let held = c.in_ok-held.ensures.range in
    let least = c.in_ok-least.ensures.range in
    let greatest = c.in_ok-greatest.ensures.range in
    let limits = limits_between c.args.n _ _ _ _ _ least.0 least.1 greatest.0 greatest.1 (sym c.in_ok-limits.ensures) in
    let present = present_between c.args.n _ _ (sym c.in_ok-present.ensures) in
    let weights = weights_in_range _ _ (sym c.in_ok-weights.ensures) in
    record {
      limits = record {
        lots_least = lots.0;
        lots_most = lots.1;
        held_least = held.0;
        held_range = held.1;
        held_most = held.2;
        least_within = limits.0;
        greatest_within = limits.1;
        present_within = present;
        turnover_most = λ t is. (c.in_ok-turnover.ensures.range t is).1;
      };
      some = weights.0;
      few = weights.1;
      weights = weights.2;
      most_nodes = c.in_ok-nodes.ensures.range.1;
      least_workers = c.in_ok-workers.ensures.range.0;
      most_workers = c.in_ok-workers.ensures.range.1;
    }
