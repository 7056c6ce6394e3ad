use Rattle.std.proofs.Common.{◌≡◌, ℕ, [], ◌∷◌, Ok, subst}
use Rattle.gap_rule.specs.Rules.{job_ruling, RulesPair}
use Rattle.gap_rule.specs.Steps.{IsLooked}
use Rattle.gap_rule.proofs.RuleLaws.{looked_then}
use Rattle.gap_rule.proofs.ruling.rule_claimed.Goals as goal

pub returns-clause-ruled : goal.returns-clause-ruled
returns-clause-ruled g c =
    looked_then c.args.job.now (c.args.cert.now ∷ []) (job_ruling c.args.market.now.assets) (λ asked holds. c.args.cert.now ∷ []) (λ asked holds. RulesPair c.args.market.now asked (holds c.args.cert.now))
    (g.F.Files.files c.args.files.now) (g.F.Files.files c.read_job_for.new.files) (g.F.Files.files c.rule_certificate.new.files) c.in_ok-job.job c.rule_certificate.result
    (subst (λ (n : ℕ). IsLooked c.args.job.now (λ bytes z. z ≡ job_ruling n bytes) (g.F.Files.files c.args.files.now) (g.F.Files.files c.read_job_for.new.files) (Ok c.in_ok-job.job)) c.n.ensures.value c.in_ok-job.ensures.looked)
    c.rule_certificate.ensures.ruled
