-- What is printed of a certificate that was accepted. Own to portgap.
use Rattle.std.specs.Prelude.{◌≡◌, ℕ, List, All, Result, Ok}
use Rattle.gap_base.specs.declared.job.Job.{Job}
use Rattle.gap_base.specs.Markets.{MarketValue}
use Rattle.gap_check.specs.Accepting.{Accepted}
use Rattle.gap_files.specs.Outside.{FilesNow, SinkNow}
use Rattle.gap_instance.specs.Instances.{instance_of}
use Rattle.gap_job.specs.Jobs.{job_in}
use Rattle.gap_model.specs.Outcomes.{IsToldRight}
use Rattle.gap_orlib.specs.Ports.{port}
use Rattle.gap_rule.specs.Certificates.{IsOfFiles}
use Rattle.gap_check.specs.Telling.{verdict_report}
use Rattle.gap_valid.specs.Verdicts.{VerdictValue}
use Rattle.gap_top.specs.Printing.{Prints, IfWritten, WritesAll}
use Rattle.gap_top.specs.declared.stop.Stop.{Stop}

-- a verdict was told, from the files f and the sink s to g and t: its report was written, or a front of it where that
-- stopped; what it tells of each weight is right for its instance; and the files stay
pub record Tells (v : VerdictValue) (f : FilesNow) (s : SinkNow) (g : FilesNow) (t : SinkNow)
    (result : Result (Unit {0}) Stop) : Type 0 where
  pub printed : Prints (verdict_report v) s t result
  pub right : All (IsToldRight v.instance) v.sections
  pub files : g ≡ f

-- what is told of the bytes of a certificate alone: they are accepted with this verdict, and it is right for the
-- instance in them
pub record IsChecked (bytes : List ℕ) (v : VerdictValue) : Type 0 where
  pub accepted : Accepted bytes v
  pub right : All (IsToldRight v.instance) v.sections

-- what is told of the bytes of a certificate beside those of a port file and a job file: these say a market and a job for
-- it, the certificate is accepted and of the two, and what it tells of each weight is right for their instance
pub record IsVerified (port_bytes job_bytes bytes : List ℕ) (v : VerdictValue) : Type 0 where
  pub market : MarketValue
  pub job : Job
  pub market_is : port port_bytes ≡ Ok market
  pub job_is : job_in market.assets job_bytes ≡ Ok job
  pub accepted : Accepted bytes v
  pub of : IsOfFiles market job v
  pub right : All (IsToldRight (instance_of market job)) v.sections

-- all that is told of the bytes of a certificate that a run of `check` accepted, from the sink s to t
pub record SaysChecked (bytes : List ℕ) (s t : SinkNow) : Type 0 where
  pub verdict : VerdictValue
  pub checked : IsChecked bytes verdict
  pub written : IfWritten (WritesAll (verdict_report verdict)) s t

-- and of those that a run of `verify` found to be of a port file and a job file
pub record SaysVerified (port_bytes job_bytes bytes : List ℕ) (s t : SinkNow) : Type 0 where
  pub verdict : VerdictValue
  pub verified : IsVerified port_bytes job_bytes bytes verdict
  pub written : IfWritten (WritesAll (verdict_report verdict)) s t
