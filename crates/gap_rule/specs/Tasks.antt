-- What the words and the files ask for: jobs, and what is to be done. Own to portgap.
use Rattle.std.specs.Prelude.{ℕ, List, [], ◌∷◌, replicate, None}
use Rattle.gap_base.specs.declared.job.Job.{Job}
use Rattle.gap_base.specs.Markets.{MarketValue}
use Rattle.gap_instance.specs.Instances.{instance_of}
use Rattle.gap_base.specs.declared.weight.Weight.{Weight}
use Rattle.gap_words.specs.declared.form.DemoWords.{DemoWords}
use Rattle.gap_words.specs.declared.form.QuickWords.{QuickWords}
use Rattle.gap_valid.specs.Said.{said_market}
use Rattle.gap_rule.specs.declared.task.Work.{Work}

-- the job that the words of `quick` name for n assets: one weight, each asset may hold 1 to all lots, nothing is held at
-- present, no turnover limit is set, and there is one worker
abbrev pub quick_job : ℕ → QuickWords → Job
quick_job n asked = record {
  lots = asked.lots;
  held = asked.held;
  held_most = asked.held_most;
  least = replicate n 1;
  greatest = replicate n asked.lots;
  present = replicate n 0;
  turnover = None;
  weights = asked.weight ∷ [];
  nodes = asked.nodes;
  workers = 1;
}

-- so many quarters of the weight on risk
abbrev pub quarter : ℕ → Weight
quarter p = record { p = p; q = 4 }

-- the weights of `demo`: 0/4, 1/4, 2/4, 3/4 and 4/4
abbrev pub quarters : List Weight
quarters = quarter 0 ∷ quarter 1 ∷ quarter 2 ∷ quarter 3 ∷ quarter 4 ∷ []

-- the job that the words of `demo` name: five weights, each asset may hold 1 to all lots, nothing is held at present, no
-- turnover limit is set, and there is one worker
abbrev pub demo_job : DemoWords → Job
demo_job asked = record {
  lots = asked.lots;
  held = asked.held;
  held_most = asked.held;
  least = replicate asked.n 1;
  greatest = replicate asked.n asked.lots;
  present = replicate asked.n 0;
  turnover = None;
  weights = quarters;
  nodes = asked.nodes;
  workers = 1;
}

-- what is to be done for a market and a job: to answer the weights of the job, each with its budget of nodes, over the
-- instance of the two as the head of a certificate says it
abbrev pub work_of : MarketValue → Job → Work
work_of market job = record {
  inst = instance_of (said_market market) job;
  rounded = market.rounded;
  weights = job.weights;
  nodes = job.nodes;
  workers = job.workers;
}
