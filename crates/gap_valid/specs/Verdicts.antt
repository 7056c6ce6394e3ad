-- What a certificate tells: its instance, its budget, and of each section the weight and the outcome. Own to portgap.

use Rattle.std.specs.Prelude.{ℕ, List, map, Some, None}
use Rattle.gap_instance.specs.Instances.{InstanceValue}
use Rattle.gap_model.specs.declared.outcome.Outcome.{Outcome}
use Rattle.gap_model.specs.declared.outcome.Outcome.TheVariants.{Closed, NoPortfolio, Bounded}
use Rattle.gap_model.specs.declared.outcome.Told.{Told}
use Rattle.gap_cert.specs.Certificates.{CertClaim, closed, none, open_at, unfound, CertSection, Certificate}
use Rattle.gap_valid.specs.Heads.{instance_in}

-- the verdict: the instance, the budget of splits for each section, and what is told of each weight, in order
pub record VerdictValue : Type 0 where
  pub instance : InstanceValue
  pub nodes : ℕ
  pub sections : List Told

-- the outcome that a section claims
abbrev pub outcome_in : CertClaim → Outcome
outcome_in (closed best overall) = Closed best
outcome_in none = NoPortfolio
outcome_in (open_at best bound overall) = Bounded (Some best) bound
outcome_in (unfound bound overall) = Bounded None bound

-- what a section tells of its weight
abbrev pub told_in : CertSection → Told
told_in s = record { weight = s.weight; outcome = outcome_in s.claim }

-- what a certificate tells
abbrev pub verdict_of : Certificate → VerdictValue
verdict_of c = record { instance = instance_in c.head; nodes = c.head.nodes; sections = map told_in c.sections }
