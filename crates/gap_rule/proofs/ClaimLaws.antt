-- A certificate that is of a market and a job, and one that differs from them.
use Rattle.std.proofs.Common.{◌≡◌, ℕ, List, Option, Some, None, Result, Ok, Err, refl, sym, ap, ◌∙◌}
use Rattle.gap_base.specs.declared.job.Job.{Job}
use Rattle.gap_base.specs.Markets.{MarketValue, IsMarket}
use Rattle.gap_valid.specs.Said.{IsSaid}
use Rattle.gap_valid.proofs.SaidLaws.{read_is_said, said_made}
use Rattle.gap_instance.specs.Instances.{InstanceValue, IsInstance, instance_of}
use Rattle.gap_job.specs.Ranges.{IsJob}
use Rattle.gap_model.specs.declared.outcome.Told.{Told}
use Rattle.gap_valid.specs.Verdicts.{VerdictValue}
use Rattle.gap_valid.proofs.HeadLaws.{instance_is}
use Rattle.gap_verify.specs.declared.difference.Difference.{Difference}
use Rattle.gap_verify.specs.Sides.{Side, side_of_certificate, side_of_job}
use Rattle.gap_verify.specs.Differences.{difference_of}
use Rattle.gap_verify.proofs.SideLaws.{instances_same, nodes_same, weights_same, none_of_same}
use Rattle.gap_words.specs.declared.refusal.Refusal.{Refusal}
use Rattle.gap_words.specs.declared.refusal.Refusal.TheVariants.{Words, Port, Job as BadJob, HeldRange, Certificate, Differs}
use Rattle.gap_rule.specs.Certificates.{WasAccepted, IsOfFiles, difference_from}
use Rattle.gap_rule.specs.Rules.{RulesClaim}
use Rattle.gap_rule.specs.Steps.{IsLike, IsRuling}
use Rattle.gap_rule.specs.declared.task.Task.{Task}
use Rattle.gap_rule.specs.declared.task.Task.TheVariants.{Quick, Solve, Demo, Check, Verify, Upgrade}

abbrev side_told : VerdictValue → Side
side_told v = side_of_certificate v.instance v.nodes v.sections

-- the instance of accepted bytes is one, as a head says it
told_instance : (v : VerdictValue) → WasAccepted v → IsInstance v.instance
told_instance v was = rw was.accepted.verdict_is (instance_is was.accepted.certificate.head was.accepted.valid.head_is)

told_said : (v : VerdictValue) → WasAccepted v → IsSaid v.instance
told_said v was = rw was.accepted.verdict_is (read_is_said was.accepted.certificate.head)

job_instance : (market : MarketValue) (job : Job) → IsMarket market → IsJob market.assets job → IsInstance (instance_of market job)
job_instance market job is job_is = record { market_is = is; limits_are = job_is.limits }

-- no difference: the certificate is of the two; and no other way
of_files : (market : MarketValue) (job : Job) (v : VerdictValue) → IsMarket market → IsJob market.assets job → WasAccepted v → difference_from market job v ≡ None → IsOfFiles market job v
of_files market job v is job_is was none = record {
  instance_is = instances_same (side_told v) (side_of_job market job) (told_instance v was) (job_instance market job is job_is) (told_said v was) none ∙ sym (said_made market job);
  nodes_are = nodes_same (side_told v) (side_of_job market job) none;
  weights_are = weights_same (side_told v) (side_of_job market job) none;
}

no_difference : (market : MarketValue) (job : Job) (v : VerdictValue) → IsOfFiles market job v → difference_from market job v ≡ None
no_difference market job v of = none_of_same (side_told v) (side_of_job market job) (of.instance_is ∙ said_made market job) of.nodes_are of.weights_are

unlike_none : (market : MarketValue) (job : Job) (v : VerdictValue) (d : Difference) → IsOfFiles market job v → difference_from market job v ≡ Some d → ⊥
unlike_none market job v d of some = let e = sym (no_difference market job v of) ∙ some in cc

same_task : (v w : VerdictValue) → w ≡ v → Verify v ≡ Verify w
same_task v w e = rw e refl

claim_only : (market : MarketValue) (job : Job) (v : VerdictValue) (other : Result Task Refusal) → IsOfFiles market job v → RulesClaim market job v other → IsLike (Ok (Verify v)) other
claim_only market job v (Ok (Verify w)) of ruled = same_task v w ruled.0
claim_only market job v (Ok (Quick work)) of ruled = absurd ruled
claim_only market job v (Ok (Solve work)) of ruled = absurd ruled
claim_only market job v (Ok (Demo work)) of ruled = absurd ruled
claim_only market job v (Ok (Check w)) of ruled = absurd ruled
claim_only market job v (Ok (Upgrade w)) of ruled = absurd ruled
claim_only market job v (Err (Differs d)) of ruled = unlike_none market job v d of ruled
claim_only market job v (Err Words) of ruled = ruled
claim_only market job v (Err (Port f)) of ruled = ruled
claim_only market job v (Err (BadJob f)) of ruled = ruled
claim_only market job v (Err HeldRange) of ruled = ruled
claim_only market job v (Err (Certificate f)) of ruled = ruled

differs_only : (market : MarketValue) (job : Job) (v : VerdictValue) (d : Difference) (other : Result Task Refusal) → difference_from market job v ≡ Some d → RulesClaim market job v other → IsLike (Err (Differs d)) other
differs_only market job v d (Ok (Verify w)) some ruled = unlike_none market job v d ruled.1 some
differs_only market job v d (Ok (Quick work)) some ruled = ruled
differs_only market job v d (Ok (Solve work)) some ruled = ruled
differs_only market job v d (Ok (Demo work)) some ruled = ruled
differs_only market job v d (Ok (Check w)) some ruled = ruled
differs_only market job v d (Ok (Upgrade w)) some ruled = ruled
differs_only market job v d (Err (Differs other)) some ruled = refl
differs_only market job v d (Err Words) some ruled = absurd ruled
differs_only market job v d (Err (Port f)) some ruled = absurd ruled
differs_only market job v d (Err (BadJob f)) some ruled = absurd ruled
differs_only market job v d (Err HeldRange) some ruled = absurd ruled
differs_only market job v d (Err (Certificate f)) some ruled = absurd ruled

-- the difference, by what is read of a verdict
pub difference_as : (market : MarketValue) (job : Job) (v : VerdictValue) (I : InstanceValue) (nodes : ℕ) (told : List Told) (d : Option Difference) → I ≡ v.instance → nodes ≡ v.nodes → told ≡ v.sections
    → d ≡ difference_of (side_of_certificate I nodes told) (side_of_job market job) → difference_from market job v ≡ d
difference_as market job v I nodes told d i n t e =
    sym (e ∙ ap (λ (x : InstanceValue). difference_of (side_of_certificate x nodes told) (side_of_job market job)) i
    ∙ ap (λ (x : ℕ). difference_of (side_of_certificate v.instance x told) (side_of_job market job)) n
    ∙ ap (λ (x : List Told). difference_of (side_of_certificate v.instance v.nodes x) (side_of_job market job)) t)

-- the ruling where no field differs, and where one does
pub ruled_same : (market : MarketValue) (job : Job) (v : VerdictValue) → IsMarket market → IsJob market.assets job → WasAccepted v → difference_from market job v ≡ None → IsRuling (RulesClaim market job v) (Ok (Verify v))
ruled_same market job v is job_is was none =
    let of = of_files market job v is job_is was none in
    record { holds = (refl, of); only = λ other ruled. claim_only market job v other of ruled }

pub ruled_differs : (market : MarketValue) (job : Job) (v : VerdictValue) (d : Difference) → difference_from market job v ≡ Some d → IsRuling (RulesClaim market job v) (Err (Differs d))
ruled_differs market job v d some = record { holds = some; only = λ other ruled. differs_only market job v d other some ruled }
