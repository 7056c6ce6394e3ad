-- What is told of a certificate is right.
use Rattle.std.proofs.Common.{◌≡◌, ℕ, List, All, Result, Ok, Err, refl, sym, ◌∙◌, subst}
use Rattle.std.proofs.lemmas.List.Elements.{All-weaker}
use Rattle.gap_base.specs.declared.job.Job.{Job}
use Rattle.gap_base.specs.Markets.{MarketValue}
use Rattle.gap_check.specs.Accepting.{Accepted}
use Rattle.gap_check.proofs.AcceptLaws.{bounds}
use Rattle.gap_files.specs.Outside.{FilesNow, SinkNow}
use Rattle.gap_valid.specs.Said.{said_instance}
use Rattle.gap_valid.proofs.SaidLaws.{told_said, said_made}
use Rattle.gap_instance.specs.Instances.{InstanceValue, instance_of}
use Rattle.gap_job.specs.Jobs.{job_in}
use Rattle.gap_job.specs.declared.fault.JobFault.{JobFault}
use Rattle.gap_model.specs.Outcomes.{IsToldRight}
use Rattle.gap_orlib.specs.Ports.{port as market_in}
use Rattle.gap_orlib.specs.declared.fault.PortFault.{PortFault}
use Rattle.gap_valid.specs.Verdicts.{VerdictValue}
use Rattle.gap_words.specs.Forms.{check, verify, upgrade}
use Rattle.gap_words.specs.declared.refusal.Refusal.{Refusal}
use Rattle.gap_words.specs.declared.refusal.Refusal.TheVariants.{Port, Job as BadJob}
use Rattle.gap_rule.specs.Certificates.{WasAccepted, RulesCertificate, IsOfFiles}
use Rattle.gap_rule.specs.Rules.{Rules, After, RulesClaim, RulesPair, RulesClaimed, refused_as}
use Rattle.gap_rule.specs.Steps.{CanBeDone}
use Rattle.gap_rule.specs.declared.task.Task.{Task}
use Rattle.gap_rule.specs.declared.task.Task.TheVariants.{Check, Verify, Upgrade}
use Rattle.gap_top.specs.Printing.{Prints}
use Rattle.gap_check.specs.Telling.{verdict_report}
use Rattle.gap_top.specs.Telling.{Tells, IsChecked, IsVerified}
use Rattle.gap_top.specs.Working.{Does}
use Rattle.gap_top.specs.declared.stop.Stop.{Stop}

-- the report of a verdict that was accepted
pub tells : (v : VerdictValue) (f : FilesNow) (s t : SinkNow) (r : Result (Unit {0}) Stop) → WasAccepted v → Prints (verdict_report v) s t r → Tells v f s f t r
tells v f s t r was printed = record { printed = printed; right = bounds was.bytes v was.accepted; files = refl }

-- the tasks that tell a verdict
pub does_check : (task : Task) (source name : List ℕ) (v : VerdictValue) (f : FilesNow) (s t : SinkNow) (r : Result (Unit {0}) Stop) → task ≡ Check v → CanBeDone task → Prints (verdict_report v) s t r → Does task source name f s f t r
does_check task source name v f s t r is can printed = subst (λ (x : Task). Does x source name f s f t r) (sym is) (tells v f s t r (subst CanBeDone is can) printed)

pub does_verify : (task : Task) (source name : List ℕ) (v : VerdictValue) (f : FilesNow) (s t : SinkNow) (r : Result (Unit {0}) Stop) → task ≡ Verify v → CanBeDone task → Prints (verdict_report v) s t r → Does task source name f s f t r
does_verify task source name v f s t r is can printed = subst (λ (x : Task). Does x source name f s f t r) (sym is) (tells v f s t r (subst CanBeDone is can) printed)

-- ---- a certificate alone

same_check : (v w : VerdictValue) → ◌≡◌ {A = Result Task Refusal} (Ok (Check v)) (Ok (Check w)) → w ≡ v
same_check v w e = cc

checked_by : (bytes : List ℕ) (v : VerdictValue) (found : Result VerdictValue Refusal) → RulesCertificate bytes found → After found (λ w r. r ≡ Ok (Check w)) (Ok (Check v)) → Accepted bytes v
checked_by bytes v (Ok w) accepted after = subst (Accepted bytes) (same_check v w after) accepted
checked_by bytes v (Err why) accepted after = absurd (cc)

pub checked : (cert : List ℕ) (holds : List ℕ → List ℕ) (v : VerdictValue) → Rules (check cert) holds (Ok (Check v)) → IsChecked (holds cert) v
checked cert holds v rules =
    let accepted = checked_by (holds cert) v rules.found rules.holds rules.after in
    record { accepted = accepted; right = bounds (holds cert) v accepted }

-- the task of `upgrade` is to write a certificate anew
task_by : (bytes : List ℕ) (task : Task) (found : Result VerdictValue Refusal) → RulesCertificate bytes found → After found (λ w r. r ≡ Ok (Upgrade w)) (Ok task) → (v : VerdictValue) × (task ≡ Upgrade v)
task_by bytes task (Ok w) accepted after = (w, same_task task (Upgrade w) after)
  where
    same_task : (a b : Task) → ◌≡◌ {A = Result Task Refusal} (Ok a) (Ok b) → a ≡ b
    same_task a b e = cc
task_by bytes task (Err why) accepted after = absurd (cc)

pub upgraded_task : (cert new : List ℕ) (holds : List ℕ → List ℕ) (task : Task) → Rules (upgrade cert new) holds (Ok task) → (v : VerdictValue) × (task ≡ Upgrade v)
upgraded_task cert new holds task rules = task_by (holds cert) task rules.found rules.holds rules.after

-- a certificate that is written anew was accepted
same_upgrade : (v w : VerdictValue) → ◌≡◌ {A = Result Task Refusal} (Ok (Upgrade v)) (Ok (Upgrade w)) → w ≡ v
same_upgrade v w e = cc

upgraded_by : (bytes : List ℕ) (v : VerdictValue) (found : Result VerdictValue Refusal) → RulesCertificate bytes found → After found (λ w r. r ≡ Ok (Upgrade w)) (Ok (Upgrade v)) → Accepted bytes v
upgraded_by bytes v (Ok w) accepted after = subst (Accepted bytes) (same_upgrade v w after) accepted
upgraded_by bytes v (Err why) accepted after = absurd (cc)

pub upgraded : (cert new : List ℕ) (holds : List ℕ → List ℕ) (v : VerdictValue) → Rules (upgrade cert new) holds (Ok (Upgrade v)) → Accepted (holds cert) v
upgraded cert new holds v rules = upgraded_by (holds cert) v rules.found rules.holds rules.after

pub checked_upgrade : (cert new : List ℕ) (holds : List ℕ → List ℕ) (v : VerdictValue) → Rules (upgrade cert new) holds (Ok (Upgrade v)) → IsChecked (holds cert) v
checked_upgrade cert new holds v rules = let accepted = upgraded cert new holds v rules in record { accepted = accepted; right = bounds (holds cert) v accepted }

-- ---- a certificate of a market and a job

-- what a certificate of the two tells is right for their instance
right_for : (market : MarketValue) (job : Job) (v : VerdictValue) → IsOfFiles market job v → All (IsToldRight v.instance) v.sections → All (IsToldRight (instance_of market job)) v.sections
right_for market job v of right =
    let said : v.instance ≡ said_instance (instance_of market job) = of.instance_is ∙ said_made market job in
    All-weaker (IsToldRight v.instance) (IsToldRight (instance_of market job))
    (λ told one. (told_said (instance_of market job) told).0 (subst (λ (I : InstanceValue). IsToldRight I told) said one)) v.sections right

record IsClaimed (market : MarketValue) (job : Job) (bytes : List ℕ) (v : VerdictValue) : Type 0 where
  accepted : Accepted bytes v
  of : IsOfFiles market job v

claimed_by : (market : MarketValue) (job : Job) (bytes : List ℕ) (v : VerdictValue) (found : Result VerdictValue Refusal) → RulesCertificate bytes found → After found (RulesClaim market job) (Ok (Verify v)) → IsClaimed market job bytes v
claimed_by market job bytes v (Ok w) accepted after =
    let same : w ≡ v = sym after.0 in
    record { accepted = subst (Accepted bytes) same accepted; of = subst (IsOfFiles market job) same after.1 }
claimed_by market job bytes v (Err why) accepted after = absurd (cc)

claimed : (market : MarketValue) (job : Job) (bytes : List ℕ) (v : VerdictValue) → RulesPair market job bytes (Ok (Verify v)) → IsClaimed market job bytes v
claimed market job bytes v rules = claimed_by market job bytes v rules.found rules.holds rules.after

verified_job : (port_bytes job_bytes bytes : List ℕ) (v : VerdictValue) (market : MarketValue) → market_in port_bytes ≡ Ok market
    → (found : Result Job JobFault) → job_in market.assets job_bytes ≡ found → After (refused_as BadJob found) (λ job. RulesPair market job bytes) (Ok (Verify v)) → IsVerified port_bytes job_bytes bytes v
verified_job port_bytes job_bytes bytes v market is (Ok job) job_is rules =
    let c = claimed market job bytes v rules in
    record { market = market; job = job; market_is = is; job_is = job_is; accepted = c.accepted; of = c.of; right = right_for market job v c.of (bounds bytes v c.accepted) }
verified_job port_bytes job_bytes bytes v market is (Err fault) job_is rules = absurd (cc)

verified_market : (port_bytes job_bytes bytes : List ℕ) (v : VerdictValue) (found : Result MarketValue PortFault) → market_in port_bytes ≡ found
    → After (refused_as Port found) (λ market. RulesClaimed market job_bytes bytes) (Ok (Verify v)) → IsVerified port_bytes job_bytes bytes v
verified_market port_bytes job_bytes bytes v (Ok market) is rules = verified_job port_bytes job_bytes bytes v market is (job_in market.assets job_bytes) refl rules
verified_market port_bytes job_bytes bytes v (Err fault) is rules = absurd (cc)

pub verified : (port job cert : List ℕ) (holds : List ℕ → List ℕ) (v : VerdictValue) → Rules (verify port job cert) holds (Ok (Verify v)) → IsVerified (holds port) (holds job) (holds cert) v
verified port job cert holds v rules = verified_market (holds port) (holds job) (holds cert) v (market_in (holds port)) refl rules
