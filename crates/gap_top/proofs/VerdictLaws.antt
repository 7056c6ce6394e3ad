-- What `check` and `verify` have said, from the contract of `run`.
use Rattle.std.proofs.Common.{◌≡◌, ℕ, ◌⊎◌, inl, inr, List, [], ◌∷◌, Result, Ok, Err, refl, subst, arith}
use Rattle.gap_base.specs.declared.job.Job.{Job}
use Rattle.gap_base.specs.Markets.{MarketValue}
use Rattle.gap_files.specs.Outside.{FilesNow, SinkNow}
use Rattle.gap_job.specs.Jobs.{job_in}
use Rattle.gap_job.specs.declared.fault.JobFault.{JobFault}
use Rattle.gap_orlib.specs.Ports.{port as market_in}
use Rattle.gap_orlib.specs.declared.fault.PortFault.{PortFault}
use Rattle.gap_rule.specs.Certificates.{RulesCertificate}
use Rattle.gap_rule.specs.Names.{AreTold, held}
use Rattle.gap_rule.specs.Rules.{Rules, After, RulesClaim, RulesPair, RulesClaimed, refused_as}
use Rattle.gap_rule.specs.declared.task.Task.{Task}
use Rattle.gap_rule.specs.declared.task.Task.TheVariants.{Quick, Solve, Demo, Check, Verify, Upgrade}
use Rattle.gap_check.specs.Telling.{verdict_report}
use Rattle.gap_valid.specs.Verdicts.{VerdictValue}
use Rattle.gap_words.specs.Forms.{FormValue, check, verify}
use Rattle.gap_words.specs.declared.refusal.Refusal.{Refusal}
use Rattle.gap_words.specs.declared.refusal.Refusal.TheVariants.{Port, Job as BadJob}
use Rattle.gap_top.specs.Answers.{Answers, IsUnruled, IsSettled, Comes, ReportsRefusal}
use Rattle.gap_top.specs.Printing.{IfWritten, WritesAll, Prints}
use Rattle.gap_top.specs.Statuses.{status_number}
use Rattle.gap_top.specs.Telling.{SaysChecked, SaysVerified}
use Rattle.gap_top.specs.Working.{cert_in, source_in, Performs}
use Rattle.gap_top.specs.declared.stop.Stop.{Stop}
use Rattle.gap_top.specs.declared.stop.Stop.TheVariants.{Refused, ReadFault, WriteFault, OutOfMemory}
use Rattle.gap_top.proofs.RenewLaws.{not_zero, unruled_zero}
use Rattle.gap_top.proofs.TellLaws.{checked, verified}

-- a verdict was printed to its end
printed_all : (v : VerdictValue) (s t : SinkNow) (r : Result (Unit {0}) Stop) → 0 ≡ status_number r → Prints (verdict_report v) s t r → IfWritten (WritesAll (verdict_report v)) s t
printed_all v s t (Ok done) zero prints = prints.does
printed_all v s t (Err (Refused why)) zero prints = absurd (not_zero why zero)
printed_all v s t (Err ReadFault) zero prints = absurd (omega arith)
printed_all v s t (Err WriteFault) zero prints = absurd (omega arith)
printed_all v s t (Err OutOfMemory) zero prints = absurd (omega arith)

check_performed : (source name : List ℕ) (v : VerdictValue) (f : FilesNow) (s : SinkNow) (g : FilesNow) (t : SinkNow) → Performs (Check v) source name f s g t 0 → IfWritten (WritesAll (verdict_report v)) s t
check_performed source name v f s g t performs = printed_all v s t performs.result performs.status_is performs.does.printed

verify_performed : (source name : List ℕ) (v : VerdictValue) (f : FilesNow) (s : SinkNow) (g : FilesNow) (t : SinkNow) → Performs (Verify v) source name f s g t 0 → IfWritten (WritesAll (verdict_report v)) s t
verify_performed source name v f s g t performs = printed_all v s t performs.result performs.status_is performs.does.printed

-- with the status 0 a task was ruled
record IsDoneTask (asked : FormValue) (f : FilesNow) (s : SinkNow) (g : FilesNow) (t : SinkNow) : Type 0 where
  task : Task
  rules : Rules asked (held f) (Ok task)
  performs : Performs task (source_in asked) (cert_in asked) f s g t 0

done_task : (asked : FormValue) (f : FilesNow) (s : SinkNow) (g : FilesNow) (t : SinkNow) (ruling : Result Task Refusal) → Rules asked (held f) ruling → Comes ruling (source_in asked) (cert_in asked) f s g t 0 → IsDoneTask asked f s g t
done_task asked f s g t (Ok task) rules comes = record { task = task; rules = rules; performs = comes }
done_task asked f s g t (Err why) rules comes = absurd (never why comes.0)
  where
    never : (why : Refusal) → ReportsRefusal why s t 0 → ⊥
    never why (inl own) = not_zero why own.0
    never why (inr none) = omega (arith, none.0)

task_done : (asked : FormValue) (f : FilesNow) (s : SinkNow) (g : FilesNow) (t : SinkNow) → IsUnruled f s g t 0 ⊎ IsSettled asked (held f) f s g t 0 → IsDoneTask asked f s g t
task_done asked f s g t (inl unruled) = absurd (unruled_zero unruled.status_is)
task_done asked f s g t (inr settled) = done_task asked f s g t settled.ruling settled.rules settled.comes

same_task : (a b : Task) → ◌≡◌ {A = Result Task Refusal} (Ok a) (Ok b) → a ≡ b
same_task a b e = cc

-- ---- `check`

check_by : (bytes : List ℕ) (task : Task) (found : Result VerdictValue Refusal) → RulesCertificate bytes found → After found (λ v r. r ≡ Ok (Check v)) (Ok task) → (v : VerdictValue) × (task ≡ Check v)
check_by bytes task (Ok v) accepted after = (v, same_task task (Check v) after)
check_by bytes task (Err why) accepted after = absurd (cc)

check_of : (cert : List ℕ) (f : FilesNow) (s : SinkNow) (g : FilesNow) (t : SinkNow) → (done : IsDoneTask (check cert) f s g t) → (v : VerdictValue) → done.task ≡ Check v → SaysChecked (held f cert) s t
check_of cert f s g t done v is = record {
  verdict = v;
  checked = checked cert (held f) v (subst (λ (x : Task). Rules (check cert) (held f) (Ok x)) is done.rules);
  written = check_performed (source_in (check cert)) (cert_in (check cert)) v f s g t (subst (λ (x : Task). Performs x (source_in (check cert)) (cert_in (check cert)) f s g t 0) is done.performs);
}

pub check_says : (cert : List ℕ) (f : FilesNow) (s : SinkNow) (g : FilesNow) (t : SinkNow) → AreTold (cert ∷ []) f → Answers (check cert) f s g t 0 → SaysChecked (held f cert) s t
check_says cert f s g t told answers =
    let done = task_done (check cert) f s g t (answers.settled told) in
    let is = check_by (held f cert) done.task done.rules.found done.rules.holds done.rules.after in
    check_of cert f s g t done is.0 is.1

-- ---- `verify`

claim_by : (market : MarketValue) (job : Job) (v : VerdictValue) (task : Task) → RulesClaim market job v (Ok task) → (w : VerdictValue) × (task ≡ Verify w)
claim_by market job v (Quick work) claim = absurd claim
claim_by market job v (Solve work) claim = absurd claim
claim_by market job v (Demo work) claim = absurd claim
claim_by market job v (Check w) claim = absurd claim
claim_by market job v (Verify w) claim = (w, refl)
claim_by market job v (Upgrade w) claim = absurd claim

pair_by : (market : MarketValue) (job : Job) (bytes : List ℕ) (task : Task) (found : Result VerdictValue Refusal) → After found (RulesClaim market job) (Ok task) → (w : VerdictValue) × (task ≡ Verify w)
pair_by market job bytes task (Ok v) after = claim_by market job v task after
pair_by market job bytes task (Err why) after = absurd (cc)

job_by : (market : MarketValue) (bytes : List ℕ) (task : Task) (found : Result Job JobFault) → After (refused_as BadJob found) (λ job. RulesPair market job bytes) (Ok task) → (w : VerdictValue) × (task ≡ Verify w)
job_by market bytes task (Ok job) rules = pair_by market job bytes task rules.found rules.after
job_by market bytes task (Err fault) rules = absurd (cc)

market_by : (job_bytes bytes : List ℕ) (task : Task) (found : Result MarketValue PortFault) → After (refused_as Port found) (λ market. RulesClaimed market job_bytes bytes) (Ok task) → (w : VerdictValue) × (task ≡ Verify w)
market_by job_bytes bytes task (Ok market) rules = job_by market bytes task (job_in market.assets job_bytes) rules
market_by job_bytes bytes task (Err fault) rules = absurd (cc)

verify_of : (port job cert : List ℕ) (f : FilesNow) (s : SinkNow) (g : FilesNow) (t : SinkNow) → (done : IsDoneTask (verify port job cert) f s g t) → (v : VerdictValue) → done.task ≡ Verify v
    → SaysVerified (held f port) (held f job) (held f cert) s t
verify_of port job cert f s g t done v is =
    let command : FormValue = verify port job cert in
    record {
      verdict = v;
      verified = verified port job cert (held f) v (subst (λ (x : Task). Rules (verify port job cert) (held f) (Ok x)) is done.rules);
      written = verify_performed (source_in command) (cert_in command) v f s g t (subst (λ (x : Task). Performs x (source_in (verify port job cert)) (cert_in (verify port job cert)) f s g t 0) is done.performs);
    }

pub verify_says : (port job cert : List ℕ) (f : FilesNow) (s : SinkNow) (g : FilesNow) (t : SinkNow) → AreTold (port ∷ job ∷ cert ∷ []) f → Answers (verify port job cert) f s g t 0
    → SaysVerified (held f port) (held f job) (held f cert) s t
verify_says port job cert f s g t told answers =
    let done = task_done (verify port job cert) f s g t (answers.settled told) in
    let is = market_by (held f job) (held f cert) done.task (market_in (held f port)) done.rules in
    verify_of port job cert f s g t done is.0 is.1
