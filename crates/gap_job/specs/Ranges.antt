-- The ranges of what a job says. Source: the limits of the model; own to portgap.
use Rattle.std.specs.Prelude.{ℕ, ◌≤◌, length, All}
use Rattle.gap_base.specs.declared.job.Job.{Job}
use Rattle.gap_base.specs.declared.weight.Weight.{Weight}
use Rattle.gap_instance.specs.Instances.{AreLimits}

-- a weight p/q is at most 1, and q from 1 to 100
pub record IsWeight (weight : Weight) : Type 0 where
  pub least : 1 ≤ weight.q
  pub most : weight.q ≤ 100
  pub within : weight.p ≤ weight.q

-- what a job for n assets says is in its ranges
pub record IsJob (n : ℕ) (job : Job) : Type 0 where
  pub limits : AreLimits n job.lots job.held job.held_most job.least job.greatest job.present job.turnover
  pub some : 1 ≤ length job.weights
  pub few : length job.weights ≤ 101
  pub weights : All IsWeight job.weights
  pub most_nodes : job.nodes ≤ 100000
  pub least_workers : 1 ≤ job.workers
  pub most_workers : job.workers ≤ 16
