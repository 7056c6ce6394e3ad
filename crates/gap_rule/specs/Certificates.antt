-- What is ruled by the bytes of a certificate. Own to portgap.
use Rattle.std.specs.Prelude.{◌≡◌, ℕ, List, length, map, Option, Result, Ok, Err}
use Rattle.gap_base.specs.declared.job.Job.{Job}
use Rattle.gap_base.specs.Markets.{MarketValue}
use Rattle.gap_cert.specs.Bytes.{AreBytes}
use Rattle.gap_check.specs.Accepting.{Accepted}
use Rattle.gap_check.specs.Histories.{IsFaultOf}
use Rattle.gap_check.specs.States.{State, HasRead}
use Rattle.gap_valid.specs.Said.{said_market}
use Rattle.gap_instance.specs.Instances.{instance_of}
use Rattle.gap_model.specs.declared.cert_fault.CertFault.{CertFault}
use Rattle.gap_model.specs.declared.outcome.Told.{Told}
use Rattle.gap_valid.specs.Verdicts.{VerdictValue}
use Rattle.gap_verify.specs.declared.difference.Difference.{Difference}
use Rattle.gap_verify.specs.Sides.{side_of_certificate, side_of_job}
use Rattle.gap_verify.specs.Differences.{difference_of}
use Rattle.gap_words.specs.declared.refusal.Refusal.{Refusal}
use Rattle.gap_words.specs.declared.refusal.Refusal.TheVariants.{Certificate}

-- what the bytes of a file are by the checker: accepted with a verdict; or this is their first fault, where each of the
-- numbers that the file holds is a byte, as those of every file are
abbrev pub SaysCertificate : List ℕ → Result VerdictValue CertFault → Type 0
SaysCertificate bytes (Ok v) = Accepted bytes v
SaysCertificate bytes (Err fault) = AreBytes bytes → IsFaultOf bytes fault

-- a checker took in these bytes, so many
pub record IsTakenIn (state : State) (count : ℕ) (fed : List ℕ) : Type 0 where
  pub read : HasRead state fed
  pub count_is : length fed ≡ count

-- a verdict is that of some accepted bytes
pub record WasAccepted (v : VerdictValue) : Type 0 where
  pub bytes : List ℕ
  pub accepted : Accepted bytes v

-- the ruling of the bytes of a certificate: its verdict, or the refusal of its first fault
abbrev pub RulesCertificate : List ℕ → Result VerdictValue Refusal → Type 0
RulesCertificate bytes (Ok v) = SaysCertificate bytes (Ok v)
RulesCertificate bytes (Err (Certificate fault)) = SaysCertificate bytes (Err fault)
RulesCertificate bytes _ = ⊥

-- a certificate is of a market and a job: its instance is that of the two, as the head of a certificate says it, and its
-- budget of nodes and its weights are those of the job
pub record IsOfFiles (market : MarketValue) (job : Job) (v : VerdictValue) : Type 0 where
  pub instance_is : v.instance ≡ instance_of (said_market market) job
  pub nodes_are : v.nodes ≡ job.nodes
  pub weights_are : map (λ (told : Told). told.weight) v.sections ≡ job.weights

-- the first field in which a certificate isn't of a market and a job
abbrev pub difference_from : MarketValue → Job → VerdictValue → Option Difference
difference_from market job v = difference_of (side_of_certificate v.instance v.nodes v.sections) (side_of_job market job)
