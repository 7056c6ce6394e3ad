-- The headline: what a run of `quick`, `solve` or `demo` says, in one record. Own to portgap.
use Rattle.std.specs.Prelude.{◌≡◌, ℕ, ◌≤◌, List, All, Ok}
use Rattle.std.specs.Option.{ForSome}
use Rattle.gap_base.specs.declared.job.Job.{Job}
use Rattle.gap_base.specs.Markets.{MarketValue, IsMarket}
use Rattle.gap_files.specs.Outside.{FilesNow, SinkNow}
use Rattle.gap_gen.specs.Demo.{IsGenerated}
use Rattle.gap_instance.specs.Instances.{instance_of}
use Rattle.gap_job.specs.Jobs.{job_in}
use Rattle.gap_orlib.specs.Ports.{port as market_in}
use Rattle.gap_psd.specs.Shifts.{ShiftValue}
use Rattle.gap_rule.specs.Names.{held}
use Rattle.gap_rule.specs.Tasks.{quick_job, demo_job, work_of}
use Rattle.gap_sweep.specs.declared.style.Style.{Style}
use Rattle.gap_sweep.specs.declared.style.Style.TheVariants.{Whole, Single}
use Rattle.gap_sweep.specs.Asked.{Asked, Done}
use Rattle.gap_tangent.specs.Bounds.{setting_with}
use Rattle.gap_files.specs.Marks.{stream}
use Rattle.gap_words.specs.Forms.{FormValue, quick, solve, demo}
use Rattle.gap_top.specs.Working.{cert_in, asked_for}
use Rattle.gap_top.specs.Reporting.{report, IsReported, AreInOrder}
use Rattle.gap_top.specs.Saying.{IsSaidRight}
use Rattle.gap_top.specs.Holding.{IsCertified}
use Rattle.gap_top.specs.Quality.{IsGood, IsFrontier}

-- a command asks to solve this job over this market: those in the bytes of PORT and JOB, those that the words of `quick`
-- name over PORT, or those that the words of `demo` name
abbrev pub AsksFor : FormValue → (List ℕ → List ℕ) → MarketValue → Job → Type 0
AsksFor (quick port asked) holds market job =
    (market_in (holds port) ≡ Ok market) × (asked.held_most ≤ market.assets) × (job ≡ quick_job market.assets asked)
AsksFor (solve port job_file cert) holds market job =
    (market_in (holds port) ≡ Ok market) × (job_in market.assets (holds job_file) ≡ Ok job)
AsksFor (demo asked) holds market job =
    IsMarket market × IsGenerated asked.number asked.n market × (job ≡ demo_job asked)
AsksFor _ holds market job = ⊥

-- a command that solves
abbrev pub Solves : FormValue → Type 0
Solves (quick port asked) = Unit {0}
Solves (solve port job cert) = Unit {0}
Solves (demo asked) = Unit {0}
Solves _ = ⊥

-- `quick` prints the lines of its weight alone
abbrev pub style_of : FormValue → Style
style_of (quick port asked) = Single
style_of _ = Whole

-- what is solved: the weights of the job over the market, as the head of a certificate says it
abbrev pub solving : FormValue → MarketValue → Job → Asked
solving command market job = asked_for (style_of command) (work_of market job)

-- THE HEADLINE. A command was run from the files f and the sink s to g and t, with this status, and has said this:
-- asked: the market and the job are those that the command asks for;
-- written: behind what was written before came a front of the report of these outcomes, all of it with the status 0;
-- in_order: they are those of the job's first weights in its order, of all of them with the status 0;
-- right: what is said of each weight is right for the market and the job;
-- certified: CERT holds the certificate that shows it, or with another status than 0 a front of it;
-- good, frontier: how good each weight is, and all of them together
pub record Headline (command : FormValue) (f : FilesNow) (s : SinkNow) (g : FilesNow) (t : SinkNow) (status : ℕ) : Type
    0 where
  pub market : MarketValue
  pub job : Job
  pub shift : ShiftValue
  pub done : List Done
  pub asked : AsksFor command (held f) market job
  pub written : IsReported (report (style_of command) (instance_of market job) market.rounded shift done) s t status
  pub in_order : AreInOrder job.weights done status
  pub right : All (IsSaidRight (instance_of market job) job.nodes) done
  pub certified : ForSome (stream (cert_in command) f) (λ was.
      IsCertified market job (solving command market job) shift done (stream (cert_in command) g) status)
  pub good : All (λ d. IsGood (instance_of market job)
      (setting_with (solving command market job).instance shift d.solved.weight) job.nodes d) done
  pub frontier : IsFrontier (instance_of market job) done
